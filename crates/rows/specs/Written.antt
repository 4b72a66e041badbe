-- How stations and lines are written as a table. Assumes nothing.
use Rattle.std.specs.Prelude.{◌≡◌, ℕ, ◌+◌, ◌≤◌, Bool, true, false, List, [], ◌∷◌, map, length, codes}
use Rattle.std.specs.List.{AllByRecursion}
use Rattle.plant.specs.declared.records.Hold.{Hold}
use Rattle.plant.specs.declared.records.Hold.TheVariants as H
use Rattle.plant.specs.declared.records.Line.{Line}
use Rattle.plant.specs.declared.records.Station.{Station}
use Rattle.plant.specs.Records.{StationInRange, LineInRange, LineBetween}
use Rattle.tables.specs.Numerals.{spelled, spelledℤ}
use Rattle.tables.specs.Written as W

-- How a kind of rows is written: the header's words, what the fields of the k-th row mean, counted from 0, which rows have their values in
-- range, which run between the stations they may, and how few and how many rows there may be.
pub record Form (A : Type 0) : Type 1 where
  pub head : List (List ℕ)
  pub cells : ℕ → A → List (List ℕ)
  pub InRange : A → Type 0
  pub Between : A → Type 0
  pub least : ℕ
  pub most : ℕ

-- a row that may stand in a table
abbrev pub Fair : {A : Type 0} → Form A → A → Type 0
Fair F a = F.InRange a × F.Between a

-- what the fields of these rows mean, the first of which is the k-th
abbrev pub cells_from : {A : Type 0} → Form A → ℕ → List A → List (List (List ℕ))
cells_from F k [] = []
cells_from F k (a ∷ rows) = F.cells k a ∷ cells_from F (k + 1) rows

-- what the fields of a record mean
abbrev pub meant : W.Row → List (List ℕ)
meant r = map W.contents (W.fields r)

-- these records are the header and these rows
pub record Lists {A : Type 0} (F : Form A) (records : List W.Row) (rows : List A) : Type 0 where
  pub cells : map meant records ≡ F.head ∷ cells_from F 0 rows
  pub fair : AllByRecursion (Fair F) rows
  pub few : length rows ≤ F.most

-- the text is a table of the header and these rows, and they are enough
pub record Writes {A : Type 0} (F : Form A) (s : List ℕ) (rows : List A) : Type 0 where
  pub table : W.Table
  pub whole : W.Whole table
  pub text : s ≡ W.text table
  pub lists : Lists F (W.rows table) rows
  pub enough : F.least ≤ length rows

-- ---- stations

-- a hold is one of three words
abbrev pub word : Hold → List ℕ
word H.Free = codes "free"
word H.Open = codes "open"
word H.Shut = codes "shut"

-- an urgent station is marked by 1
abbrev pub mark : Bool → ℕ
mark true = 1
mark false = 0

abbrev pub station_cells : ℕ → Station → List (List ℕ)
station_cells k s = spelled k ∷ spelled s.hours ∷ spelledℤ s.gain ∷ spelled (mark s.urgent) ∷ word s.hold ∷ []

-- a station runs between nothing
abbrev pub station_form : Form Station
station_form =
    record {
      head = codes "station" ∷ codes "hours" ∷ codes "gain" ∷ codes "urgent" ∷ codes "hold" ∷ [];
      cells = station_cells;
      InRange = StationInRange;
      Between = λ s. Unit {0};
      least = 2;
      most = 64;
    }

-- ---- lines

abbrev pub line_cells : ℕ → Line → List (List ℕ)
line_cells k l = spelled k ∷ spelled l.from ∷ spelled l.to ∷ spelledℤ l.gain ∷ []

-- a line runs between two different stations of n
abbrev pub line_form : ℕ → Form Line
line_form n =
    record {
      head = codes "line" ∷ codes "from" ∷ codes "to" ∷ codes "gain" ∷ [];
      cells = line_cells;
      InRange = LineInRange;
      Between = LineBetween n;
      least = 1;
      most = 128;
    }
