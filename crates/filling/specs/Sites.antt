-- A plant that is lent, as the tables see it, and what stands while they are filled. Assumes nothing.
use Rattle.std.specs.Prelude.{◌≡◌, ℕ, ◌+◌, ◌*◌, ◌<◌, ◌≤◌, Bool, true, cond, List, length, Some, None, Option, ◌==◌, slice_index_or}
use Rattle.plant.specs.declared.records.Station.{Station}
use Rattle.plant.specs.declared.records.Line.{Line}
use Rattle.plant.specs.declared.tree.Join.{Join}
use Rattle.plant.specs.declared.site.Plant.{Plant}
use Rattle.plant.specs.declared.tree.Shape.TheVariants as S
use Rattle.plant.specs.Nodes.{tree_of, no_node, joined}
use Rattle.plant.specs.Trees.{Tree, right}
use Rattle.cells.specs.Traces.{first_of, second_of}
use Rattle.cells.specs.Inside.{Site, Scores, site_of, scores_of, Choice}
use Rattle.cells.specs.Joins.{first_right, second_left, passes, between_figure, between_hours}
use Rattle.cells.specs.Subtrees.{sub}
use Rattle.cells.specs.Tables.{Done, Reached, memory, need_of, row_start}
use Rattle.cells.specs.Tops.{Tops, Split, cell_of}
use Rattle.joins.specs.declared.share.Share.{Share}

abbrev pub site : Plant → Site
site p = site_of p.stations.now p.lines.now

abbrev pub scores : {F : Type 0} → (Station → F) → (Line → F) → Plant → Scores F
scores f g p = scores_of f g p.stations.now p.lines.now

abbrev pub tree : Plant → Tree
tree p = tree_of p.nodes.now

-- there is room for the rows of all nodes
abbrev pub Room : {F : Type 0} → Plant → List (Option F) → Type 0
Room p cells = need_of (length p.lines.now) p.budget ≤ length cells

-- the nodes below v are filled, and there is room for all
pub record Filled {F : Type 0} (nil : F) (plus : F → F → F) (above : F → F → Bool) (f : Station → F) (g : Line → F) (p : Plant) (cells : List (Option F)) (v : ℕ) : Type 0 where
  pub room : Room p cells
  pub done : Done nil plus above (site p) (scores f g p) (tree p) p.budget cells v

-- the reach of the nodes below v is known
pub record Known (p : Plant) (reach : List ℕ) (v : ℕ) : Type 0 where
  pub long : length reach ≡ 255
  pub is : Reached (site p) (tree p) p.budget reach v

-- the station where the halves of a join meet
abbrev pub middle : Plant → ℕ → ℕ
middle p a = (slice_index_or p.nodes.now a no_node).right

-- so the node v stands in the plant: as a join of the kind j, with the halves a and b
abbrev pub JoinAt : Plant → ℕ → Join → ℕ → ℕ → Type 0
JoinAt p v j a b = (v < length p.nodes.now) × ((slice_index_or p.nodes.now v no_node).shape ≡ S.Join j a b)

-- and so the tree: the node v is a join of the kind j, with the halves a and b
pub record HalvesAt (p : Plant) (v : ℕ) (j : Join) (a b : ℕ) : Type 0 where
  pub few : v < 255
  pub within : v < length p.nodes.now
  pub first_below : a < v
  pub second_below : b < v
  pub tree_is : sub (tree p) v ≡ joined j (sub (tree p) a) (sub (tree p) b)
  pub first_is : a ≡ first_of v (sub (tree p) b)
  pub second_is : b ≡ second_of v
  pub middle_is : middle p a ≡ right (site p).net (sub (tree p) a)
  pub middle_in : middle p a < length p.stations.now

-- what stands between the halves of a join in the state m of the middle, where that is gone through
abbrev pub between_share : {F : Type 0} → F → (Station → F) → (Line → F) → Plant → Join → ℕ → Bool → Option (Share F)
between_share nil f g p j mid m = cond (passes (site p) j mid m) (Some (record { figure = between_figure nil (scores f g p) j mid m; hours = between_hours (site p) j mid m })) None

-- x is a sum of a cell of each half and what stands between them, in the state m of the middle
abbrev pub Passing : {F : Type 0} → F → (F → F → F) → (Station → F) → (Line → F) → Plant → List (Option F) → Join → ℕ → ℕ → Bool → Bool → ℕ → Bool → F → Type 0
Passing nil plus f g p cells j a b l r h m x =
    (passes (site p) j (middle p a) m ≡ true)
    × Split plus (memory (p.budget + 1) cells a l (first_right j r m)) (memory (p.budget + 1) cells b (second_left j l m) r)
    (between_figure nil (scores f g p) j (middle p a) m) (between_hours (site p) j (middle p a) m) h x

-- the cell of a line with the figure x
abbrev pub leaf_cell : {F : Type 0} → F → F → Bool → Bool → ℕ → Option F
leaf_cell nil x l r h = cond (h == 0) (Some (cond l (cond r x nil) nil)) None

-- the row of a node and two states is filled, and all else is as it was
pub record RowFilled {F : Type 0} (nil : F) (plus : F → F → F) (above : F → F → Bool) (f : Station → F) (g : Line → F) (p : Plant) (before after : List (Option F)) (v : ℕ) (l r : Bool) : Type 0 where
  pub best : (h : ℕ) → h ≤ p.budget → Tops above (Choice nil plus (site p) (scores f g p) (sub (tree p) v) l r h) (memory (p.budget + 1) after v l r h)
  pub kept_below : (k : ℕ) → k < row_start (p.budget + 1) v l r → cell_of after k ≡ cell_of before k
  pub kept_past : (k : ℕ) → row_start (p.budget + 1) v l r + (p.budget + 1) ≤ k → cell_of after k ≡ cell_of before k

-- the nodes below v are filled, and past them all is as it was
pub record NodesFilled {F : Type 0} (nil : F) (plus : F → F → F) (above : F → F → Bool) (f : Station → F) (g : Line → F) (p : Plant) (before after : List (Option F)) (v : ℕ) : Type 0 where
  pub filled : Filled nil plus above f g p after v
  pub kept_past : (k : ℕ) → v * 4 * (p.budget + 1) ≤ k → cell_of after k ≡ cell_of before k
