-- The sheet of a list, and the line of a refusal, as records of comma-separated values. Assumes nothing.
use Rattle.std.specs.Prelude.{ℕ, cond, List, [], ◌∷◌, ◌++◌, length, ℤ, codes}
use Rattle.plant.specs.declared.records.Station.{Station}
use Rattle.plant.specs.declared.refusal.Refusal.{Refusal}
use Rattle.plant.specs.Records.{station}
use Rattle.plant.specs.Refusals.{number, part_number}
use Rattle.plant.specs.Selections.{Selection, among, upto}
use Rattle.tables.specs.Numerals.{spelled, spelledℤ}
use Rattle.plan.specs.declared.pick.Pick.{Pick}
use Rattle.plan.specs.Ledger.{stations_in}

abbrev pub comma : List ℕ
comma = 44 ∷ []

-- every record ends in CR and LF
abbrev pub line_end : List ℕ
line_end = 13 ∷ 10 ∷ []

-- hours and gain, which end a record
abbrev pub figures : ℕ → ℤ → List ℕ
figures h g = spelled h ++ (comma ++ (spelledℤ g ++ line_end))

-- a station of the list: its number, hours and gain
abbrev pub row : ℕ → Station → List ℕ
row k s = spelled k ++ (comma ++ figures s.hours s.gain)

-- the stations of a selection, by number
abbrev pub rows : List Station → Selection → ℕ → List ℕ
rows ss S = upto [] ◌++◌ (λ k. cond (S k) (row k (station ss k)) [])

abbrev pub sheet : List Station → Selection → ℕ → ℤ → List ℕ
sheet ss S h g = (codes "station,hours,gain" ++ line_end) ++ (rows ss S (length ss) ++ (codes "total" ++ (comma ++ figures h g)))

abbrev pub sheet_of : Pick → List ℕ
sheet_of k = sheet (stations_in k.plan.now.filled) (among k.selection) k.hours k.gain

-- a refusal's number, part and place
abbrev pub refusal_line : Refusal → List ℕ
refusal_line e = codes "refused" ++ (comma ++ (spelled (number e.reason) ++ (comma ++ (spelled (part_number e.part) ++ (comma ++ (spelled e.place ++ line_end))))))
