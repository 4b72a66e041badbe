-- Filling the tables row by row: where rows lie, what a join's cells give, and what lies past a row's reach. Assumes nothing.
use Rattle.std.proofs.Common.{◌≡◌, ℕ, ◌+◌, ◌*◌, ◌<◌, ◌≤◌, Bool, true, false, List, Some, None, Option, refl, mul-le-mul_right, suc-mul, add-mul, arith}
use Rattle.plant.specs.declared.tree.Join.{Join}
use Rattle.plant.specs.declared.tree.Join.TheVariants.{Series, Parallel}
use Rattle.plant.specs.Nodes.{joined}
use Rattle.plant.specs.Selections.{Selection}
use Rattle.plant.specs.Trees.{Tree, leaf, series, parallel, right, Builds}
use Rattle.yardsticks.specs.Laws.{Ops, limit, record_limit}
use Rattle.cells.specs.Tops.{Tops, Split, cell_of}
use Rattle.cells.specs.Inside.{Site, Scores, mid_hours, inner_hours, Choice, records, Modest}
use Rattle.cells.specs.Joins.{between_figure, Through}
use Rattle.cells.specs.Tables.{bit, row_start, place, Done, most}
use Rattle.cells.proofs.Topping.{tops_same}
use Rattle.cells.proofs.Cells.{series_tops, parallel_tops, choice_size, mid_size}

-- ---- where rows lie

pub bit_small : (b : Bool) → bit b ≤ 1
bit_small true = omega arith
bit_small false = omega arith

-- what lies in a row that comes earlier lies before one that comes later
pub row_before : (a b w h : ℕ) → a < b → h < w → a * w + h < b * w
row_before a b w h lt in_row = omega (arith, mul-le-mul_right w lt, suc-mul a w)

pub place_before : (w u v : ℕ) (l r l' r' : Bool) (h : ℕ) → u < v → h < w → place w u l r h < row_start w v l' r'
place_before w u v l r l' r' h lt in_row =
    row_before (4 * u + 2 * bit l + bit r) (4 * v + 2 * bit l' + bit r') w h (omega (arith, bit_small l, bit_small r)) in_row

-- the rows of the first n nodes lie within their share of the memory
pub row_within : (w n v : ℕ) (l r : Bool) → v < n → row_start w v l r + w ≤ n * 4 * w
row_within w n v l r lt =
    let row = 4 * v + 2 * bit l + bit r in
    let le : row + 1 ≤ n * 4 = omega (arith, bit_small l, bit_small r) in
    omega (arith, mul-le-mul_right w le, add-mul row 1 w)

pub done_kept : {F : Type 0} (nil : F) (plus : F → F → F) (above : F → F → Bool) (N : Site) (P : Scores F) (t : Tree) (budget : ℕ) (xs ys : List (Option F)) (v : ℕ)
    → ((k : ℕ) → k < row_start (budget + 1) v false false → cell_of ys k ≡ cell_of xs k) → Done nil plus above N P t budget xs v → Done nil plus above N P t budget ys v
done_kept nil plus above N P t budget xs ys v same done u lt l r h le =
    rw (same (place (budget + 1) u l r h) (place_before (budget + 1) u v l r false false h lt (omega arith))) (done u lt l r h le)

-- ---- the reach

state_hours : (N : Site) (i : ℕ) (m : Bool) → mid_hours N i m ≤ N.hours i
state_hours N i true = omega arith
state_hours N i false = omega arith

pub most_enough : (N : Site) (t : Tree) (S : Selection) → inner_hours N t S ≤ most N t
most_enough N (leaf k) S = omega arith
most_enough N (series a b) S = omega (arith, most_enough N a S, most_enough N b S, state_hours N (right N.net a) (S (right N.net a)))
most_enough N (parallel a b) S = omega (arith, most_enough N a S, most_enough N b S)

-- a cell of no choice is absent
pub tops_absent : {F : Type 0} {above : F → F → Bool} (P : F → Type 0) (o : Option F) → ((x : F) → P x → ⊥) → Tops above P o → o ≡ None
tops_absent P None empty t = refl
tops_absent P (Some x) empty t = absurd (empty x (t.reached x refl))

module _ {F : Type 0} {nil : F} {plus : F → F → F} {above : F → F → Bool} {size : F → ℕ} (laws : Ops nil plus above size) (N : Site) (P : Scores F) (modest : Modest size record_limit P) where
  pub past_none : (t : Tree) (l r : Bool) (h : ℕ) → most N t < h → (x : F) → Choice nil plus N P t l r h x → ⊥
  past_none t l r h lt x c = omega (arith, most_enough N t c.0, c.1.takes)

  -- ---- joins

  parallel_through : (mid : ℕ) (first second : Bool → Bool → ℕ → Option F) (l r : Bool) (h : ℕ) (x : F) → Through nil plus N P Parallel mid first second l r h x → Split plus (first l r) (second l r) nil 0 h x
  parallel_through mid first second l r h x s = s.2

  pub join_tops : (j : Join) (a b : Tree) (l r : Bool) (h : ℕ) (first second : Bool → Bool → ℕ → Option F) (o : Option F) → Builds N.net (joined j a b) → records (joined j a b) * record_limit ≤ limit
      → ((l r : Bool) (i : ℕ) → i ≤ h → Tops above (Choice nil plus N P a l r i) (first l r i)) → ((l r : Bool) (i : ℕ) → i ≤ h → Tops above (Choice nil plus N P b l r i) (second l r i))
      → Tops above (Through nil plus N P j (right N.net a) first second l r h) o → Tops above (Choice nil plus N P (joined j a b) l r h) o
  join_tops Series a b l r h first second o w few ta tb t = series_tops laws N P modest a b l r h (λ m. first l m) (λ m. second m r) o w few (λ m. ta l m) (λ m. tb m r) t
  join_tops Parallel a b l r h first second o w few ta tb t = parallel_tops laws N P modest a b l r h (first l r) (second l r) o w few (ta l r) (tb l r)
      (tops_same (λ x. parallel_through (right N.net a) first second l r h x) (λ x s. (false, refl, s)) t)

  -- figures between two halves and their cells add up to what is allowed
  pub join_fair : (j : Join) (a b : Tree) (mid : ℕ) (m : Bool) (l r l' r' : Bool) (i i' : ℕ) (p q : F) → records (joined j a b) * record_limit ≤ limit
      → Choice nil plus N P a l r i p → Choice nil plus N P b l' r' i' q → size p + size q + size (between_figure nil P j mid m) ≤ limit
  join_fair Series a b mid m l r l' r' i i' p q few c d =
      omega (arith, choice_size laws N P modest a l r i p (omega arith) c, choice_size laws N P modest b l' r' i' q (omega arith) d, mid_size laws N P modest mid m)
  join_fair Parallel a b mid m l r l' r' i i' p q few c d =
      omega (arith, choice_size laws N P modest a l r i p (omega arith) c, choice_size laws N P modest b l' r' i' q (omega arith) d, laws.size_nil)
