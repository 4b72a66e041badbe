use Rattle.std.proofs.Common.{◌≡◌, ℕ, ◌+◌, ◌<◌, ◌≤◌}
use Rattle.cells.specs.Inside.{Choice}
use Rattle.cells.specs.Subtrees.{sub}
use Rattle.cells.specs.Tables.{row_start, memory}
use Rattle.cells.specs.Tops.{Tops, cell_of}
use Rattle.filling.specs.Sites.{site, scores, tree}
use Rattle.filling.proofs.fill.fill_row.Given as goal

abbrev pub invariant-loop-hours : goal.invariant-loop-hours
invariant-loop-hours g l =
    let y = g.Y.Yardstick in
    let p = l.plant in
    ((h : ℕ) → h < l.hours → Tops y.above (Choice y.nil y.plus (site p) (scores y.station y.line p) (sub (tree p) l.node) l.left l.right h) (memory (p.budget + 1) l.cells l.node l.left l.right h))
    × ((k : ℕ) → k < row_start (p.budget + 1) l.node l.left l.right → cell_of l.cells k ≡ cell_of l.initial.cells k)
    × ((k : ℕ) → row_start (p.budget + 1) l.node l.left l.right + (p.budget + 1) ≤ k → cell_of l.cells k ≡ cell_of l.initial.cells k)
