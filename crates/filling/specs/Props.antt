-- That a node stands as a join is a proposition: there is at most one proof of it.
use Rattle.std.specs.Prelude.{ℕ}
use mathlib.Core.HLevel.{×_prop}
use native.Mathlib.Bridge.{le_prop}
use base.Stored.{Coded-set}
use Rattle.plant.specs.contracts.tree.Shape.{the_row}
use Rattle.plant.specs.declared.tree.Join.{Join}
use Rattle.plant.specs.declared.tree.Shape.{Shape}
use Rattle.plant.specs.declared.site.Plant.{Plant}
use Rattle.filling.specs.Sites.{JoinAt}

shape_set : IsSet Shape
shape_set = Coded-set the_row.coded

pub join_prop : (p : Plant) (v : ℕ) (j : Join) (a b : ℕ) → IsProp (JoinAt p v j a b)
join_prop p v j a b = ×_prop le_prop (shape_set _ _)
