use Rattle.std.proofs.Common.{rules}
use Rattle.drawing.proofs.Bytes.{placed}
use Rattle.drawing.proofs.Steps.{leaf_read}
use Rattle.drawing.proofs.reader.Reader.leaf.Goals as goal

pub returns : goal.returns
returns c =
    leaf_read c.args.self.now _ _ _ c.leaf.result _ c.in_ok-line.ensures c.leaf.ensures (placed _ _ _ _ c.map_err.ensures.cases (λ why e says. search rules))
