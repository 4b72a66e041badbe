use Rattle.std.proofs.Common.{◌≡◌, ℕ, ◌<◌, ◌≤◌, None}
use Rattle.cells.specs.Tops.{cell_of}
use Rattle.filling.proofs.fill.clear.Given as goal

abbrev pub invariant-loop-at : goal.invariant-loop-at
invariant-loop-at g l =
    ((k : ℕ) → l.from ≤ k → k < l.at → cell_of l.cells k ≡ None)
    × ((k : ℕ) → k < l.from → cell_of l.cells k ≡ cell_of l.initial.cells k)
    × ((k : ℕ) → l.at ≤ k → cell_of l.cells k ≡ cell_of l.initial.cells k)
