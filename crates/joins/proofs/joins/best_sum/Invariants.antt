use Rattle.std.proofs.Common.{◌≡◌, ◌+◌, ◌-◌, ◌≤◌, Some}
use Rattle.cells.specs.Tops.{Tops, cell_of, joined_of}
use Rattle.cells.proofs.Topping.{Below}
use Rattle.joins.proofs.joins.best_sum.Given as goal

abbrev pub invariant-loop-i : goal.invariant-loop-i
invariant-loop-i g l = let y = g.Y.Yardstick in Tops y.above (Below (λ k x. joined_of y.plus l.between (cell_of l.first k) (cell_of l.second (l.rest - k)) ≡ Some x) l.i) l.best × (l.i ≤ l.rest + 1)
