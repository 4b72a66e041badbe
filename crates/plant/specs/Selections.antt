-- What a selection of stations takes, gains, and when it fits. Assumes nothing.
use Rattle.std.specs.Prelude.{◌≡◌, ℕ, zero, suc, ◌+◌, ◌<◌, ◌≤◌, Bool, true, false, cond, List, length, ℤ, pos, ◌+ℤ◌, slice_index_or}
use Rattle.plant.specs.declared.records.Station.{Station}
use Rattle.plant.specs.declared.records.Line.{Line}
use Rattle.plant.specs.declared.selection.Selection.{Selection as Marks}
use Rattle.plant.specs.Records.{allows, station, line}

-- which stations are open, by number
abbrev pub Selection : Type 0
Selection = ℕ → Bool

abbrev pub among : Marks → Selection
among s i = slice_index_or s.open i false

-- f 0, f 1 and so on below n, added up
abbrev pub upto : {F : Type 0} → F → (F → F → F) → (ℕ → F) → ℕ → F
upto nil plus f zero = nil
upto nil plus f (suc n) = plus (upto nil plus f n) (f n)

-- what a station counts for: its figure where it is open
abbrev pub open_station : {F : Type 0} → F → (Station → F) → List Station → Selection → ℕ → F
open_station nil f ss S i = cond (S i) (f (station ss i)) nil

-- what a line counts for: its figure where both of its stations are open
abbrev pub open_line : {F : Type 0} → F → (Line → F) → List Line → Selection → ℕ → F
open_line nil f ls S k = cond (S (line ls k).from) (cond (S (line ls k).to) (f (line ls k)) nil) nil

-- The figure of a selection: those of its stations, and on top of them those of the lines with both ends in it, parallel lines each.
-- A line's figure is not that of the pair: the two stations count besides.
abbrev pub figure : {F : Type 0} → F → (F → F → F) → (Station → F) → (Line → F) → List Station → List Line → Selection → F
figure nil plus f g ss ls S = plus (upto nil plus (open_station nil f ss S) (length ss)) (upto nil plus (open_line nil g ls S) (length ls))

-- its gain is its figure in cents
abbrev pub gain : List Station → List Line → Selection → ℤ
gain ss ls S = figure (pos 0) ◌+ℤ◌ (λ s. s.gain) (λ l. l.gain) ss ls S

-- its hours are those of its stations
abbrev pub hours : List Station → Selection → ℕ
hours ss S = upto 0 ◌+◌ (open_station 0 (λ s. s.hours) ss S) (length ss)

-- it fits: within the budget, every station held open in it, every station held shut not
pub record Fits (ss : List Station) (budget : ℕ) (S : Selection) : Type 0 where
  pub affordable : hours ss S ≤ budget
  pub held : (i : ℕ) → i < length ss → allows (station ss i).hold (S i) ≡ true
