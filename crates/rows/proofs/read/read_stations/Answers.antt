use Rattle.plant.specs.declared.refusal.Part.TheVariants as P
use Rattle.rows.proofs.Ranges.{stations_made}
use Rattle.rows.proofs.read.read_stations.Goals as goal

pub returns : goal.returns
returns c = record { verdict = c.read.ensures; range = stations_made P.Stations c.args.text.bytes.now c.read.result c.read.ensures }
