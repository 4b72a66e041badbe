use Rattle.std.proofs.Common.{◌≡◌, ℕ, ◌-◌, ◌<◌, Bool, true, false, [], ◌∷◌, Some, None}
use Rattle.cells.specs.Tables.{bit}
use Rattle.cells.specs.Tops.{cell_of, joined_of}
use Rattle.solver.proofs.Splitting.{Nothing}
use Rattle.solver.proofs.trace.first_split.Given as goal

abbrev pub invariant-hours : goal.invariant-hours
invariant-hours g l =
    (l.found ≡ None) × ((k : ℕ) → k < l.i → joined_of g.Y.Yardstick.plus l.share.0 (cell_of l.first k) (cell_of l.second (l.count - 1 - k)) ≡ Some l.goal → ⊥)

abbrev pub invariant-states : goal.invariant-states
invariant-states g l =
    (l.found ≡ None) × (l.opened-items ≡ false ∷ true ∷ []) × ((m : Bool) → bit m < l.opened-index → Nothing l.joint l.goal m)
