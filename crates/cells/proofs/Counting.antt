-- How many leaves and nodes the tree of a plant has. Assumes nothing.
use Rattle.std.proofs.Common.{◌≡◌, ℕ, ◌+◌, ◌*◌, ◌<◌, ◌≤◌, true, refl, arith}
use Rattle.std.proofs.lemmas.Bool.{or_left, or_right, eq-eqb}
use Rattle.plant.specs.Nodes.{size}
use Rattle.plant.specs.Trees.{Tree, leaf, series, parallel, uses}
use Rattle.cells.specs.Inside.{Site, line_of}
use Rattle.cells.specs.Subtrees.{leaves}
use Rattle.cells.specs.Whole.{Whole}
use Rattle.cells.proofs.Leaves.{lines_apart}
use Rattle.cells.proofs.Numbered.{count_of, count_or, count_one, count_all, sum_ones}

pub size_leaves : (t : Tree) → size t + 1 ≡ 2 * leaves t
size_leaves (leaf k) = refl
size_leaves (series a b) = omega (arith, size_leaves a, size_leaves b)
size_leaves (parallel a b) = omega (arith, size_leaves a, size_leaves b)

leaves_numbered : (t : Tree) (m : ℕ) → ((k : ℕ) → uses t k ≤ 1) → ((k : ℕ) → line_of t k ≡ true → k < m) → leaves t ≡ count_of (line_of t) (λ k. 1) m
leaves_numbered (leaf k) m one lk = omega (arith, count_one k (λ i. 1) m (lk k (eq-eqb k k refl)))
leaves_numbered (series a b) m one lk = omega (
  arith,
  leaves_numbered a m (λ k. omega (arith, one k)) (λ k e. lk k (or_left _ _ e)),
  leaves_numbered b m (λ k. omega (arith, one k)) (λ k e. lk k (or_right (line_of a k) _ e)),
  count_or (line_of a) (line_of b) (λ i. 1) m (lines_apart a b one),
)
leaves_numbered (parallel a b) m one lk = omega (
  arith,
  leaves_numbered a m (λ k. omega (arith, one k)) (λ k e. lk k (or_left _ _ e)),
  leaves_numbered b m (λ k. omega (arith, one k)) (λ k e. lk k (or_right (line_of a k) _ e)),
  count_or (line_of a) (line_of b) (λ i. 1) m (lines_apart a b one),
)

pub whole_leaves : (N : Site) (n m : ℕ) (t : Tree) → Whole N n m t → leaves t ≡ m
whole_leaves N n m t w = omega (arith, leaves_numbered t m w.apart w.lines_within, count_all (line_of t) (λ k. 1) m w.lines, sum_ones m)
