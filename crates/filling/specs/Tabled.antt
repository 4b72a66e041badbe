-- What stands of the tables of a plant that are lent with their yardstick. That cells are the best of their choices names the choices, so
-- it is no proposition and stands in clauses, not in the type of the tables. Assumes nothing.
use Rattle.std.specs.Prelude.{ℕ, Bool, List, Option, length}
use Rattle.yardsticks.specs.declared.yardstick.Yardstick.{Ghosts}
use Rattle.plant.specs.declared.site.Plant.{Plant}
use Rattle.cells.specs.Inside.{Choice}
use Rattle.cells.specs.Subtrees.{sub}
use Rattle.cells.specs.Tops.{Tops}
use Rattle.joins.specs.declared.cell.Spot.{Spot}
use Rattle.filling.specs.declared.joint.Joint.{Joint}
use Rattle.filling.specs.declared.tables.Tables.{Tables}
use Rattle.filling.specs.Sites.{site, scores, tree, Filled, Passing, RowFilled, NodesFilled}

-- the nodes below v are filled
abbrev pub FilledBelow : {Y F : Type 0} {y : Ghosts Y F} → Tables Y F y → ℕ → Type 0
FilledBelow {y} t v = Filled y.nil y.plus y.above y.station y.line t.plant.now t.cells.now v

-- all nodes are
abbrev pub AllFilled : {Y F : Type 0} {y : Ghosts Y F} → Tables Y F y → Type 0
AllFilled t = FilledBelow t (length t.plant.now.nodes.now)

-- r is the best of the choices at a cell
abbrev pub BestAt : {Y F : Type 0} → Ghosts Y F → Plant → Spot → Option F → Type 0
BestAt y p s r = Tops y.above (Choice y.nil y.plus (site p) (scores y.station y.line p) (sub (tree p) s.node) s.left s.right s.hours) r

-- r is the best of those through the state m of the middle
abbrev pub BestThrough : {Y F : Type 0} {y : Ghosts Y F} → Joint Y F y → Bool → Option F → Type 0
BestThrough {y} c m r =
    Tops y.above (Passing y.nil y.plus y.station y.line c.tables.now.plant.now c.tables.now.cells.now c.join c.first c.second c.spot.left c.spot.right c.spot.hours m) r

-- the nodes below v are filled, of cells that are still written
abbrev pub Begun : {Y F : Type 0} → Ghosts Y F → Plant → List (Option F) → ℕ → Type 0
Begun y p cells v = Filled y.nil y.plus y.above y.station y.line p cells v

-- a row is filled, and all else is as it was
abbrev pub FillsRow : {Y F : Type 0} → Ghosts Y F → Plant → List (Option F) → List (Option F) → ℕ → Bool → Bool → Type 0
FillsRow y p before after v l r = RowFilled y.nil y.plus y.above y.station y.line p before after v l r

-- the rows of the nodes below v are, and past them all is
abbrev pub FillsNodes : {Y F : Type 0} → Ghosts Y F → Plant → List (Option F) → List (Option F) → ℕ → Type 0
FillsNodes y p before after v = NodesFilled y.nil y.plus y.above y.station y.line p before after v
