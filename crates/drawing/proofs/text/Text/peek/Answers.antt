use Rattle.std.proofs.Common.{arith}
use Rattle.std.proofs.lemmas.Grind.{common_steps}
use Rattle.drawing.proofs.Bytes.{peeked}
use Rattle.drawing.proofs.text.Text.peek.Goals as goal

pub returns : goal.returns
returns c = peeked c.args.self.now c.and_then.result (grind (arith, common_steps))
