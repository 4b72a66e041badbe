-- The ranges of a plant's records, and what a hold allows. Assumes nothing.
use Rattle.std.specs.Prelude.{◌≡◌, ℕ, ◌<◌, ◌≤◌, Bool, true, false, not, cond, List, length, pos, ◌≢◌, ◌==◌, Some, None, Option, Ok, Err, Result, slice_index_or, unsigned_abs}
use Rattle.plant.specs.declared.records.Hold.{Hold}
use Rattle.plant.specs.declared.records.Hold.TheVariants.{Free, Open, Shut}
use Rattle.plant.specs.declared.records.Station.{Station}
use Rattle.plant.specs.declared.records.Line.{Line}

-- gang hours of a station, and of the budget
abbrev pub max_hours : ℕ
max_hours = 1000

-- cents, with either sign
abbrev pub max_gain : ℕ
max_gain = 1000000000

abbrev pub max_stations : ℕ
max_stations = 64

abbrev pub max_lines : ℕ
max_lines = 128

abbrev pub StationInRange : Station → Type 0
StationInRange s = (s.hours ≤ max_hours) × (unsigned_abs s.gain ≤ max_gain)

abbrev pub LineInRange : Line → Type 0
LineInRange l = unsigned_abs l.gain ≤ max_gain

-- a hold by its number
abbrev pub hold_of : ℕ → Option Hold
hold_of n = cond (n == 0) (Some Free) (cond (n == 1) (Some Open) (cond (n == 2) (Some Shut) None))

-- the hold of a number is given, or the number handed back where it is of none
abbrev pub GivesHold : ℕ → Result Hold ℕ → Type 0
GivesHold n (Ok h) = hold_of n ≡ Some h
GivesHold n (Err e) = (hold_of n ≡ None) × (e ≡ n)

-- whether a hold allows a station to be open, or shut
abbrev pub allows : Hold → Bool → Bool
allows Free b = true
allows Open b = b
allows Shut b = not b

-- what stands at a number that has no station, or no line
abbrev pub no_station : Station
no_station = record { hours = 0; gain = pos 0; urgent = false; hold = Free }

abbrev pub no_line : Line
no_line = record { from = 0; to = 0; gain = pos 0 }

abbrev pub station : List Station → ℕ → Station
station ss i = slice_index_or ss i no_station

abbrev pub line : List Line → ℕ → Line
line ls k = slice_index_or ls k no_line

abbrev pub StationsInRange : List Station → Type 0
StationsInRange ss = (i : ℕ) → i < length ss → StationInRange (station ss i)

abbrev pub LinesInRange : List Line → Type 0
LinesInRange ls = (k : ℕ) → k < length ls → LineInRange (line ls k)

-- a line runs between two different stations of n
abbrev pub LineBetween : ℕ → Line → Type 0
LineBetween n l = (l.from < n) × (l.to < n) × (l.from ≢ l.to)

abbrev pub LinesBetween : ℕ → List Line → Type 0
LinesBetween n ls = (k : ℕ) → k < length ls → LineBetween n (line ls k)
