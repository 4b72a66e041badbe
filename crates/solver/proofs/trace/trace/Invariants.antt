use Rattle.std.proofs.Common.{◌≡◌}
use Rattle.plant.specs.Held.{held, room}
use Rattle.solver.specs.Pending.{PendingIn, load, size_at}
use Rattle.solver.proofs.trace.trace.Given as goal

abbrev pub invariant-loop-spot : goal.invariant-loop-spot
invariant-loop-spot g l = PendingIn l.tables l.fn.root (held l.stack) l.picked.open × (room l.stack ≡ 128)

abbrev pub decreases-loop-spot : goal.decreases-loop-spot
decreases-loop-spot g l = load (size_at l.tables.plant.now) (held l.stack)
