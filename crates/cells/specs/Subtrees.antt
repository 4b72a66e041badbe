-- The subtree with a number, where nodes are numbered from 0 in the order in which they are completed. Assumes nothing.
use Rattle.std.specs.Prelude.{ℕ, ◌+◌, ◌-◌, cond, nat_lt}
use Rattle.plant.specs.Nodes.{size}
use Rattle.plant.specs.Trees.{Tree, leaf, series, parallel}

abbrev pub sub : Tree → ℕ → Tree
sub (leaf k) v = leaf k
sub (series a b) v = cond (nat_lt v (size a)) (sub a v) (cond (nat_lt v (size a + size b)) (sub b (v - size a)) (series a b))
sub (parallel a b) v = cond (nat_lt v (size a)) (sub a v) (cond (nat_lt v (size a + size b)) (sub b (v - size a)) (parallel a b))

abbrev pub leaves : Tree → ℕ
leaves (leaf k) = 1
leaves (series a b) = leaves a + leaves b
leaves (parallel a b) = leaves a + leaves b
