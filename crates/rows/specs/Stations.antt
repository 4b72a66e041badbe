-- The rows of the stations' table. Assumes nothing.
use Rattle.std.specs.Prelude.{ℕ, ◌+◌, Bool, cond, ◌&&◌, List, length, Ok, Err, codes, Option, Result, ◌==◌, nat_lt}
use Rattle.std.specs.Str.{bytes_eq}
use Rattle.plant.specs.declared.records.Station.{Station}
use Rattle.plant.specs.declared.refusal.Reason.{Reason}
use Rattle.plant.specs.declared.refusal.Reason.TheVariants as R
use Rattle.tables.specs.Numerals.{numeral, signed_by}
use Rattle.rows.specs.Fields.{limited, limitedℤ, marked, hold_from, need, field}
use Rattle.rows.specs.Verdict.{Rules}

-- the header is station, hours, gain, urgent, hold
abbrev pub titled : List ℕ → List ℕ → List ℕ → List ℕ → List ℕ → Bool
titled a b c d e = bytes_eq a (codes "station") && (bytes_eq b (codes "hours") && (bytes_eq c (codes "gain") && (bytes_eq d (codes "urgent") && bytes_eq e (codes "hold"))))

-- the k-th record by the contents of its fields, where num reads numbers
abbrev pub station_by : (List ℕ → Option ℕ) → ℕ → List ℕ → List ℕ → List ℕ → List ℕ → List ℕ → Result Station Reason
station_by num k place hours gain urgent hold =
    need (num place) (λ n.
    need (limited 1000 (num hours)) (λ h.
    need (limitedℤ (signed_by num gain)) (λ g.
    need (marked (num urgent)) (λ u.
    need (hold_from hold) (λ o.
    cond (n + 1 == k) (Ok (record { hours = h; gain = g; urgent = u; hold = o })) (Err R.RowNumber))))))

-- its parts: not past the 64th, five of them, and these right
abbrev pub judge_by : (List ℕ → Option ℕ) → ℕ → List (List ℕ) → Result Station Reason
judge_by num k ps =
    cond (nat_lt 64 k) (Err R.RowCount)
    (cond (length ps == 5) (station_by num k (field ps 0) (field ps 1) (field ps 2) (field ps 3) (field ps 4)) (Err R.FieldCount))

abbrev pub heads : List (List ℕ) → Bool
heads ps = length ps == 5 && titled (field ps 0) (field ps 1) (field ps 2) (field ps 3) (field ps 4)

abbrev pub stations : Rules Station
stations = record { heads = heads; judge = judge_by numeral; least = 2 }
