-- Which selection a trace through the cells finds. A node has a number; of a join with number v the second half is v − 1, and the first
-- half stands before all nodes of the second. Assumes nothing.
use Rattle.std.specs.Prelude.{◌≡◌, ℕ, ◌+◌, ◌-◌, ◌<◌, ◌≤◌, Bool, true, false, ◌⊎◌, Some, Option}
use Rattle.plant.specs.Nodes.{size}
use Rattle.plant.specs.Selections.{Selection}
use Rattle.plant.specs.Trees.{Tree, leaf, series, parallel, left, right}
use Rattle.cells.specs.Tops.{Tops}
use Rattle.cells.specs.Inside.{Site, Scores, mid_figure, mid_hours, inner_figure, Opens, Choice}
use Rattle.cells.specs.Whole.{whole_hours, figure}
use Rattle.cells.specs.LineUp.{ShutBefore, NotAfter}

-- the numbers of the two halves of the join v, the second of which is b
abbrev pub first_of : ℕ → Tree → ℕ
first_of v b = v - 1 - size b

abbrev pub second_of : ℕ → ℕ
second_of v = v - 1

-- cells by node, states of the ends, and hours
abbrev pub Cells : Type 0 → Type 0
Cells F = ℕ → Bool → Bool → ℕ → Option F

-- the node v and every node below it have their best figures, up to H hours
abbrev pub Solved : {F : Type 0} → F → (F → F → F) → (F → F → Bool) → Site → Scores F → Cells F → ℕ → ℕ → Tree → Type 0
Solved nil plus above N P cells H v (leaf k) = (l r : Bool) (h : ℕ) → h ≤ H → Tops above (Choice nil plus N P (leaf k) l r h) (cells v l r h)
Solved nil plus above N P cells H v (series a b) =
    Solved nil plus above N P cells H (first_of v b) a × Solved nil plus above N P cells H (second_of v) b
    × ((l r : Bool) (h : ℕ) → h ≤ H → Tops above (Choice nil plus N P (series a b) l r h) (cells v l r h))
Solved nil plus above N P cells H v (parallel a b) =
    Solved nil plus above N P cells H (first_of v b) a × Solved nil plus above N P cells H (second_of v) b
    × ((l r : Bool) (h : ℕ) → h ≤ H → Tops above (Choice nil plus N P (parallel a b) l r h) (cells v l r h))

-- this split of the hours attains the goal
pub record Attains {F : Type 0} (plus : F → F → F) (first second : Option F) (mid : F) (spent h : ℕ) (goal : F) (i j : ℕ) : Type 0 where
  pub sum : i + j + spent ≡ h
  pub p : F
  pub q : F
  pub holds_p : first ≡ Some p
  pub holds_q : second ≡ Some q
  pub makes : goal ≡ plus (plus p q) mid

abbrev pub SeriesAttains : {F : Type 0} → F → (F → F → F) → Site → Scores F → Cells F → ℕ → Tree → Tree → Bool → Bool → ℕ → F → Bool → ℕ → ℕ → Type 0
SeriesAttains nil plus N P cells v a b l r h goal m i j =
    (N.keeps (right N.net a) m ≡ true)
    × Attains plus (cells (first_of v b) l m i) (cells (second_of v) m r j) (mid_figure nil P (right N.net a) m) (mid_hours N (right N.net a) m) h goal i j

abbrev pub ParallelAttains : {F : Type 0} → F → (F → F → F) → Cells F → ℕ → Tree → Tree → Bool → Bool → ℕ → F → ℕ → ℕ → Type 0
ParallelAttains nil plus cells v a b l r h goal i j = Attains plus (cells (first_of v b) l r i) (cells (second_of v) l r j) nil 0 h goal i j

-- (m, i) is (m', i') or stands before it
abbrev pub Leads : Bool → ℕ → Bool → ℕ → Type 0
Leads m i m' i' = ShutBefore m m' ⊎ ((m ≡ m') × (i ≤ i'))

-- S goes, at each node, by the first state of the middle and the fewest hours in the first half that attain the cell
abbrev pub Traces : {F : Type 0} → F → (F → F → F) → Site → Scores F → Cells F → ℕ → Tree → Bool → Bool → ℕ → Selection → Type 0
Traces nil plus N P cells v (leaf k) l r h S = (S (N.net.from k) ≡ l) × (S (N.net.to k) ≡ r) × (h ≡ 0)
Traces {F} nil plus N P cells v (series a b) l r h S =
    (goal : F) × (i : ℕ) × (j : ℕ) × (cells v l r h ≡ Some goal) × SeriesAttains nil plus N P cells v a b l r h goal (S (right N.net a)) i j
    × ((m : Bool) (i' j' : ℕ) → SeriesAttains nil plus N P cells v a b l r h goal m i' j' → Leads (S (right N.net a)) i m i')
    × Traces nil plus N P cells (first_of v b) a l (S (right N.net a)) i S × Traces nil plus N P cells (second_of v) b (S (right N.net a)) r j S
Traces {F} nil plus N P cells v (parallel a b) l r h S =
    (goal : F) × (i : ℕ) × (j : ℕ) × (cells v l r h ≡ Some goal) × ParallelAttains nil plus cells v a b l r h goal i j
    × ((i' j' : ℕ) → ParallelAttains nil plus cells v a b l r h goal i' j' → i ≤ i')
    × Traces nil plus N P cells (first_of v b) a l r i S × Traces nil plus N P cells (second_of v) b l r j S

-- S has the best figure of its hours and ends, and is the first of those that have it
pub record Picked {F : Type 0} (nil : F) (plus : F → F → F) (above : F → F → Bool) (N : Site) (P : Scores F) (t : Tree) (l r : Bool) (h : ℕ) (S : Selection) : Type 0 where
  pub opens : Opens N t l r h S
  pub best : (T : Selection) → Opens N t l r h T → above (inner_figure nil plus N P t T) (inner_figure nil plus N P t S) ≡ false
  pub first : (T : Selection) → Opens N t l r h T → inner_figure nil plus N P t T ≡ inner_figure nil plus N P t S → NotAfter N t S T

-- ---- the root

-- the selection keeps the holds, takes H hours and has this figure
pub record Reaches {F : Type 0} (nil : F) (plus : F → F → F) (N : Site) (P : Scores F) (n m H : ℕ) (goal : F) (S : Selection) : Type 0 where
  pub held : (i : ℕ) → i < n → N.keeps i (S i) ≡ true
  pub takes : whole_hours N n S ≡ H
  pub scores : figure nil plus N P n m S ≡ goal

-- with these ends and h hours inside, H hours in all, the root's cell attains the goal
pub record RootAttains {F : Type 0} (nil : F) (plus : F → F → F) (N : Site) (P : Scores F) (first last H : ℕ) (cells : Bool → Bool → ℕ → Option F) (goal : F) (l r : Bool) (h : ℕ) : Type 0 where
  pub keeps_left : N.keeps first l ≡ true
  pub keeps_right : N.keeps last r ≡ true
  pub sum : h + mid_hours N first l + mid_hours N last r ≡ H
  pub p : F
  pub holds_p : cells l r h ≡ Some p
  pub makes : goal ≡ plus (plus p (mid_figure nil P first l)) (mid_figure nil P last r)

-- (l, r) is (l', r') or stands before it
abbrev pub EndsLead : Bool → Bool → Bool → Bool → Type 0
EndsLead l r l' r' = ShutBefore l l' ⊎ ((l ≡ l') × (ShutBefore r r' ⊎ (r ≡ r')))

pub record RootTraces {F : Type 0} (nil : F) (plus : F → F → F) (N : Site) (P : Scores F) (v : ℕ) (t : Tree) (H : ℕ) (cells : Cells F) (goal : F) (S : Selection) : Type 0 where
  pub h : ℕ
  pub attains : RootAttains nil plus N P (left N.net t) (right N.net t) H (cells v) goal (S (left N.net t)) (S (right N.net t)) h
  pub least : (l r : Bool) (k : ℕ) → RootAttains nil plus N P (left N.net t) (right N.net t) H (cells v) goal l r k → EndsLead (S (left N.net t)) (S (right N.net t)) l r
  pub below : Traces nil plus N P cells v t (S (left N.net t)) (S (right N.net t)) h S
