-- What stands while cells are traced: the cells still to be traced, and the states written so far. Assumes nothing.
use Rattle.std.specs.Prelude.{◌≡◌, ℕ, ◌+◌, ◌<◌, ◌≤◌, Bool, true, false, ◌⊎◌, List, [], ◌∷◌, length, get_or, replicate, Some, Option, ◌≢◌, slice_index_or, slice_set}
use Rattle.plant.specs.declared.records.Station.{Station}
use Rattle.plant.specs.declared.records.Line.{Line}
use Rattle.plant.specs.declared.site.Plant.{Plant}
use Rattle.plant.specs.declared.tree.Join.{Join}
use Rattle.plant.specs.declared.tree.Join.TheVariants.{Series, Parallel}
use Rattle.plant.specs.Nodes.{size}
use Rattle.plant.specs.Selections.{Selection}
use Rattle.plant.specs.Trees.{Tree, left, right, inner, station_of}
use Rattle.cells.specs.Joins.{first_right, second_left}
use Rattle.cells.specs.Subtrees.{sub, leaves}
use Rattle.cells.specs.Tables.{memory}
use Rattle.cells.specs.Traces.{Traces}
use Rattle.joins.specs.declared.cell.Spot.{Spot}
use Rattle.solver.specs.declared.split.Split.{Split}
use Rattle.yardsticks.specs.declared.yardstick.Yardstick.{Ghosts}
use Rattle.filling.specs.declared.joint.Joint.{Joint}
use Rattle.filling.specs.declared.tables.Tables.{Tables}
use Rattle.filling.specs.Sites.{site, scores, tree}
use Rattle.solver.specs.Splits.{FirstSplit}

-- the states after a join is settled: a series has a middle, a parallel join has none
abbrev pub settled : Join → ℕ → Bool → List Bool → List Bool
settled Series mid m marks = slice_set marks mid m
settled Parallel mid m marks = marks

-- the cells of the halves that a split goes by
abbrev pub first_spot : Join → ℕ → Spot → Split → Spot
first_spot j a x s = record { node = a; left = x.left; right = first_right j x.right s.opened; hours = s.first }

abbrev pub second_spot : Join → ℕ → Spot → Split → Spot
second_spot j b x s = record { node = b; left = second_left j x.left s.opened; right = x.right; hours = s.second }

abbrev pub In : Spot → List Spot → Type 0
In e [] = ⊥
In e (x ∷ xs) = (e ≡ x) ⊎ In e xs

abbrev pub load : (Spot → ℕ) → List Spot → ℕ
load w [] = 0
load w (x ∷ xs) = w x + load w xs

-- the subtree of a cell, its leaves and its nodes
abbrev pub tree_at : Plant → Spot → Tree
tree_at p e = sub (tree p) e.node

abbrev pub leaves_at : Plant → Spot → ℕ
leaves_at p e = leaves (tree_at p e)

abbrev pub size_at : Plant → Spot → ℕ
size_at p e = size (tree_at p e)

-- no station of the one is inner to the other
abbrev pub Clear : Plant → Spot → Spot → Type 0
Clear p e x = (i : ℕ) → station_of (site p).net (tree_at p e) i ≡ true → inner (site p).net (tree_at p x) i ≢ true

abbrev pub Apart : Plant → List Spot → Type 0
Apart p [] = Unit {0}
Apart p (x ∷ xs) = ((e : Spot) → In e xs → Clear p x e × Clear p e x) × Apart p xs

-- the selection goes by the first splits from this cell down
abbrev pub Traced : {F : Type 0} → F → (F → F → F) → (Station → F) → (Line → F) → Plant → List (Option F) → Spot → Selection → Type 0
Traced nil plus f g p cells e S = Traces nil plus (site p) (scores f g p) (memory (p.budget + 1) cells) e.node (tree_at p e) e.left e.right e.hours S

-- a cell to be traced holds something, and the states of its ends are written
pub record Entry {F : Type 0} (p : Plant) (cells : List (Option F)) (marks : List Bool) (e : Spot) : Type 0 where
  pub within : e.node < length p.nodes.now
  pub hours : e.hours ≤ p.budget
  pub goal : F
  pub holds : memory (p.budget + 1) cells e.node e.left e.right e.hours ≡ Some goal
  pub at_left : get_or marks (left (site p).net (tree_at p e)) false ≡ e.left
  pub at_right : get_or marks (right (site p).net (tree_at p e)) false ≡ e.right

-- whoever goes by the cells to be traced, and elsewhere by what is written, goes by the root's cell
pub record Pending {F : Type 0} (nil : F) (plus : F → F → F) (f : Station → F) (g : Line → F) (p : Plant) (cells : List (Option F)) (top : Spot) (stack : List Spot) (marks : List Bool) : Type 0 where
  pub wide : length marks ≡ 64
  pub each : (e : Spot) → In e stack → Entry p cells marks e
  pub apart : Apart p stack
  pub complete : (S : Selection) → ((e : Spot) → In e stack → Traced nil plus f g p cells e S)
      → ((i : ℕ) → ((e : Spot) → In e stack → inner (site p).net (tree_at p e) i ≡ false) → S i ≡ slice_index_or marks i false) → Traced nil plus f g p cells top S
  pub light : load (leaves_at p) stack ≤ 128

-- the cell holds something
abbrev pub Holds : {F : Type 0} → Plant → List (Option F) → Spot → Type 0
Holds {F} p cells e = (goal : F) × (memory (p.budget + 1) cells e.node e.left e.right e.hours ≡ Some goal)

-- the split is the first that attains what the cell holds
abbrev pub SplitOf : {F : Type 0} → F → (F → F → F) → (Station → F) → (Line → F) → Plant → List (Option F) → Join → ℕ → ℕ → Spot → Split → Type 0
SplitOf {F} nil plus f g p cells j a b e s =
    (goal : F) × (memory (p.budget + 1) cells e.node e.left e.right e.hours ≡ Some goal) × FirstSplit nil plus f g p cells j a b e.left e.right e.hours goal s

-- the same in tables that are lent with their yardstick
abbrev pub TracedIn : {Y F : Type 0} {y : Ghosts Y F} → Tables Y F y → Spot → Selection → Type 0
TracedIn {y} t e S = Traced y.nil y.plus y.station y.line t.plant.now t.cells.now e S

abbrev pub PendingIn : {Y F : Type 0} {y : Ghosts Y F} → Tables Y F y → Spot → List Spot → List Bool → Type 0
PendingIn {y} t top stack marks = Pending y.nil y.plus y.station y.line t.plant.now t.cells.now top stack marks

abbrev pub SplitsCell : {Y F : Type 0} {y : Ghosts Y F} → Joint Y F y → Split → Type 0
SplitsCell {y} c s = SplitOf y.nil y.plus y.station y.line c.tables.now.plant.now c.tables.now.cells.now c.join c.first c.second c.spot s

-- the two ends of the plant in the states of the root's cell, and nothing else
abbrev pub with_ends : Plant → Spot → List Bool
with_ends p e = slice_set (slice_set (replicate 64 false) (left (site p).net (tree p)) e.left) (right (site p).net (tree p)) e.right
