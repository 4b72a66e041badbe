-- What a selection takes of the inside of a piece, by recursion on its tree. Assumes nothing.
use Rattle.std.specs.Prelude.{◌≡◌, ℕ, ◌+◌, ◌≤◌, Bool, true, cond, ◌||◌, List, Option, ◌==◌}
use Rattle.plant.specs.declared.records.Station.{Station}
use Rattle.plant.specs.declared.records.Line.{Line}
use Rattle.plant.specs.Records.{allows, station, line}
use Rattle.plant.specs.Selections.{Selection}
use Rattle.plant.specs.Trees.{Net, net_of, Tree, leaf, series, parallel, left, right, inner}
use Rattle.cells.specs.Tops.{Split}

-- a plant by number: where its lines run, the hours of a station, and which states its hold allows
pub record Site : Type 0 where
  pub net : Net
  pub hours : ℕ → ℕ
  pub keeps : ℕ → Bool → Bool

-- what each station and each line counts for
pub record Scores (F : Type 0) : Type 0 where
  pub gain : ℕ → F
  pub wire : ℕ → F

abbrev pub site_of : List Station → List Line → Site
site_of ss ls = record { net = net_of ls; hours = λ i. (station ss i).hours; keeps = λ i b. allows (station ss i).hold b }

abbrev pub scores_of : {F : Type 0} → (Station → F) → (Line → F) → List Station → List Line → Scores F
scores_of f g ss ls = record { gain = λ i. f (station ss i); wire = λ k. g (line ls k) }

-- whether a leaf of the tree is the line k
abbrev pub line_of : Tree → ℕ → Bool
line_of (leaf j) k = j == k
line_of (series a b) k = line_of a k || line_of b k
line_of (parallel a b) k = line_of a k || line_of b k

-- what a station counts for in a state, and the hours that it takes
abbrev pub mid_figure : {F : Type 0} → F → Scores F → ℕ → Bool → F
mid_figure nil P i m = cond m (P.gain i) nil

abbrev pub mid_hours : Site → ℕ → Bool → ℕ
mid_hours N i m = cond m (N.hours i) 0

abbrev pub inner_hours : Site → Tree → Selection → ℕ
inner_hours N (leaf k) S = 0
inner_hours N (series a b) S = inner_hours N a S + inner_hours N b S + mid_hours N (right N.net a) (S (right N.net a))
inner_hours N (parallel a b) S = inner_hours N a S + inner_hours N b S + 0

abbrev pub inner_figure : {F : Type 0} → F → (F → F → F) → Site → Scores F → Tree → Selection → F
inner_figure nil plus N P (leaf k) S = cond (S (N.net.from k)) (cond (S (N.net.to k)) (P.wire k) nil) nil
inner_figure nil plus N P (series a b) S = plus (plus (inner_figure nil plus N P a S) (inner_figure nil plus N P b S)) (mid_figure nil P (right N.net a) (S (right N.net a)))
inner_figure nil plus N P (parallel a b) S = plus (plus (inner_figure nil plus N P a S) (inner_figure nil plus N P b S)) nil

-- the selection opens the inside at these states of the ends, in h hours, by the holds
pub record Opens (N : Site) (t : Tree) (l r : Bool) (h : ℕ) (S : Selection) : Type 0 where
  pub at_left : S (left N.net t) ≡ l
  pub at_right : S (right N.net t) ≡ r
  pub holds : (i : ℕ) → inner N.net t i ≡ true → N.keeps i (S i) ≡ true
  pub takes : inner_hours N t S ≡ h

abbrev pub Choice : {F : Type 0} → F → (F → F → F) → Site → Scores F → Tree → Bool → Bool → ℕ → F → Type 0
Choice nil plus N P t l r h x = (S : Selection) × Opens N t l r h S × (x ≡ inner_figure nil plus N P t S)

-- a sum of two choices and what stands between them
abbrev pub Sums : {F : Type 0} → (F → F → F) → (ℕ → F → Type 0) → (ℕ → F → Type 0) → F → ℕ → ℕ → F → Type 0
Sums {F} plus A B mid spent h x = (i : ℕ) × (j : ℕ) × (p : F) × (q : F) × (i + j + spent ≡ h) × A i p × B j q × (x ≡ plus (plus p q) mid)

-- a choice of each half, through a state of the middle station that its hold allows
abbrev pub SeriesChoice : {F : Type 0} → F → (F → F → F) → Site → Scores F → Tree → Tree → Bool → Bool → ℕ → F → Type 0
SeriesChoice nil plus N P a b l r h x =
    (m : Bool) × (N.keeps (right N.net a) m ≡ true)
    × Sums plus (Choice nil plus N P a l m) (Choice nil plus N P b m r) (mid_figure nil P (right N.net a) m) (mid_hours N (right N.net a) m) h x

-- the same of two rows of cells for each state
abbrev pub SeriesPairs : {F : Type 0} → F → (F → F → F) → Site → Scores F → ℕ → (Bool → ℕ → Option F) → (Bool → ℕ → Option F) → ℕ → F → Type 0
SeriesPairs nil plus N P mid first second h x = (m : Bool) × (N.keeps mid m ≡ true) × Split plus (first m) (second m) (mid_figure nil P mid m) (mid_hours N mid m) h x

-- how many records the inside of a piece counts at most
abbrev pub records : Tree → ℕ
records (leaf k) = 1
records (series a b) = records a + records b + 1
records (parallel a b) = records a + records b

-- no station and no line counts for more than w
pub record Modest {F : Type 0} (size : F → ℕ) (w : ℕ) (P : Scores F) : Type 0 where
  pub gains : (i : ℕ) → size (P.gain i) ≤ w
  pub wires : (k : ℕ) → size (P.wire k) ≤ w
