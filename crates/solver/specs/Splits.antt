-- Which splits of a join attain a figure, and which is the first. Assumes nothing.
use Rattle.std.specs.Prelude.{◌≡◌, ℕ, ◌+◌, ◌-◌, Bool, true, List, Option, MatchOption}
use Rattle.plant.specs.declared.records.Station.{Station}
use Rattle.plant.specs.declared.records.Line.{Line}
use Rattle.plant.specs.declared.site.Plant.{Plant}
use Rattle.plant.specs.declared.tree.Join.{Join}
use Rattle.cells.specs.Joins.{first_right, second_left, passes, between_figure, between_hours}
use Rattle.cells.specs.Tables.{memory}
use Rattle.cells.specs.Traces.{Attains, Leads}
use Rattle.joins.specs.declared.share.Share.{Share}
use Rattle.solver.specs.declared.split.Split.{Split}
use Rattle.yardsticks.specs.declared.yardstick.Yardstick.{Ghosts}
use Rattle.filling.specs.declared.joint.Joint.{Joint}
use Rattle.filling.specs.Sites.{site, scores, middle}

-- how many splits there are through a share, where the indices of the halves and its hours add up to the total
abbrev pub ways : {F : Type 0} → Share F → ℕ → ℕ
ways s total = total + 1 - s.hours

-- through the state m of the middle, i hours in the first half and i' in the second attain the goal
abbrev pub PassAttains : {F : Type 0} → F → (F → F → F) → (Station → F) → (Line → F) → Plant → List (Option F) → Join → ℕ → ℕ → Bool → Bool → ℕ → F → Bool → ℕ → ℕ → Type 0
PassAttains nil plus f g p cells j a b l r h goal m i i' =
    (passes (site p) j (middle p a) m ≡ true)
    × Attains plus (memory (p.budget + 1) cells a l (first_right j r m) i) (memory (p.budget + 1) cells b (second_left j l m) r i')
    (between_figure nil (scores f g p) j (middle p a) m) (between_hours (site p) j (middle p a) m) h goal i i'

-- the first of them: by the state of the middle, then by the hours in the first half
pub record FirstSplit {F : Type 0} (nil : F) (plus : F → F → F) (f : Station → F) (g : Line → F) (p : Plant) (cells : List (Option F)) (j : Join) (a b : ℕ) (l r : Bool) (h : ℕ) (goal : F) (s : Split) : Type 0 where
  pub attains : PassAttains nil plus f g p cells j a b l r h goal s.opened s.first s.second
  pub least : (m : Bool) (i i' : ℕ) → PassAttains nil plus f g p cells j a b l r h goal m i i' → Leads s.opened s.first m i

abbrev pub NoSplit : {F : Type 0} → F → (F → F → F) → (Station → F) → (Line → F) → Plant → List (Option F) → Join → ℕ → ℕ → Bool → Bool → ℕ → F → Type 0
NoSplit nil plus f g p cells j a b l r h goal = (m : Bool) (i i' : ℕ) → PassAttains nil plus f g p cells j a b l r h goal m i i' → ⊥

-- the first split of a cell of a join, if any
abbrev pub SplitsJoint : {Y F : Type 0} {y : Ghosts Y F} → Joint Y F y → F → Option Split → Type 0
SplitsJoint {y} c goal o =
    MatchOption o (NoSplit y.nil y.plus y.station y.line c.tables.now.plant.now c.tables.now.cells.now c.join c.first c.second c.spot.left c.spot.right c.spot.hours goal)
    (FirstSplit y.nil y.plus y.station y.line c.tables.now.plant.now c.tables.now.cells.now c.join c.first c.second c.spot.left c.spot.right c.spot.hours goal)
