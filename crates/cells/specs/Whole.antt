-- The whole plant by number, and what is read off the cells of its root. Assumes nothing.
use Rattle.std.specs.Prelude.{◌≡◌, ℕ, ◌+◌, ◌<◌, ◌≤◌, Bool, true, cond, Some, Option}
use Rattle.plant.specs.Selections.{Selection, upto}
use Rattle.plant.specs.Trees.{Tree, left, right, station_of, uses, Builds}
use Rattle.cells.specs.Inside.{Site, Scores, line_of, mid_figure, mid_hours}

abbrev pub sum_upto : (ℕ → ℕ) → ℕ → ℕ
sum_upto f n = upto 0 ◌+◌ f n

abbrev pub open_station : {F : Type 0} → F → Scores F → Selection → ℕ → F
open_station nil P S i = cond (S i) (P.gain i) nil

abbrev pub open_line : {F : Type 0} → F → Site → Scores F → Selection → ℕ → F
open_line nil N P S k = cond (S (N.net.from k)) (cond (S (N.net.to k)) (P.wire k) nil) nil

abbrev pub figure : {F : Type 0} → F → (F → F → F) → Site → Scores F → ℕ → ℕ → Selection → F
figure nil plus N P n m S = plus (upto nil plus (open_station nil P S) n) (upto nil plus (open_line nil N P S) m)

abbrev pub whole_hours : Site → ℕ → Selection → ℕ
whole_hours N n S = sum_upto (λ i. cond (S i) (N.hours i) 0) n

-- the tree builds the plant of n stations and m lines
pub record Whole (N : Site) (n m : ℕ) (t : Tree) : Type 0 where
  pub builds : Builds N.net t
  pub apart : (k : ℕ) → uses t k ≤ 1
  pub stations : (i : ℕ) → i < n → station_of N.net t i ≡ true
  pub lines : (k : ℕ) → k < m → line_of t k ≡ true
  pub starts : left N.net t ≡ 0
  pub ends : right N.net t + 1 ≡ n
  pub stations_within : (i : ℕ) → station_of N.net t i ≡ true → i < n
  pub lines_within : (k : ℕ) → line_of t k ≡ true → k < m

-- within the budget, and by every hold
pub record Fits (N : Site) (n budget : ℕ) (S : Selection) : Type 0 where
  pub affordable : whole_hours N n S ≤ budget
  pub held : (i : ℕ) → i < n → N.keeps i (S i) ≡ true

abbrev pub Fitting : {F : Type 0} → F → (F → F → F) → Site → Scores F → ℕ → ℕ → ℕ → F → Type 0
Fitting nil plus N P n m budget x = (S : Selection) × Fits N n budget S × (x ≡ figure nil plus N P n m S)

-- x is read off a cell of the root and its two ends
abbrev pub RootPairs : {F : Type 0} → F → (F → F → F) → Site → Scores F → ℕ → ℕ → ℕ → (Bool → Bool → ℕ → Option F) → F → Type 0
RootPairs {F} nil plus N P first last budget cells x =
    (l : Bool) × (r : Bool) × (h : ℕ) × (p : F) × (N.keeps first l ≡ true) × (N.keeps last r ≡ true) × (h + mid_hours N first l + mid_hours N last r ≤ budget)
    × (cells l r h ≡ Some p) × (x ≡ plus (plus p (mid_figure nil P first l)) (mid_figure nil P last r))
