use Rattle.filling.specs.Sites.{Known, NodesFilled}
use Rattle.filling.proofs.fill.fill.Given as goal

abbrev pub invariant-loop-node : goal.invariant-loop-node
invariant-loop-node g l = let y = g.Y.Yardstick in NodesFilled y.nil y.plus y.above y.station y.line l.plant l.initial.cells l.cells l.node × Known l.plant l.reach l.node
