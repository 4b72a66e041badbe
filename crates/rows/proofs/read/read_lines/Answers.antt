use Rattle.plant.specs.declared.refusal.Part.TheVariants as P
use Rattle.rows.proofs.Ranges.{lines_made}
use Rattle.rows.proofs.read.read_lines.Goals as goal

pub returns : goal.returns
returns c = record { verdict = c.read.ensures; range = lines_made c.args.stations P.Lines c.args.text.bytes.now c.read.result c.read.ensures }
