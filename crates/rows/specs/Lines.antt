-- The rows of the lines' table. Assumes nothing.
use Rattle.std.specs.Prelude.{ℕ, ◌+◌, Bool, cond, not, ◌&&◌, List, length, Ok, Err, codes, Option, Result, ◌==◌, nat_lt}
use Rattle.std.specs.Str.{bytes_eq}
use Rattle.plant.specs.declared.records.Line.{Line}
use Rattle.plant.specs.declared.refusal.Reason.{Reason}
use Rattle.plant.specs.declared.refusal.Reason.TheVariants as R
use Rattle.tables.specs.Numerals.{numeral, signed_by}
use Rattle.rows.specs.Fields.{limitedℤ, need, field}
use Rattle.rows.specs.Verdict.{Rules}

-- the header is line, from, to, gain
abbrev pub titled : List ℕ → List ℕ → List ℕ → List ℕ → Bool
titled a b c d = bytes_eq a (codes "line") && (bytes_eq b (codes "from") && (bytes_eq c (codes "to") && bytes_eq d (codes "gain")))

-- two different stations of n
abbrev pub apart : ℕ → ℕ → ℕ → Bool
apart n f t = nat_lt f n && (nat_lt t n && not (f == t))

-- the k-th record by the contents of its fields, where num reads numbers
abbrev pub line_by : (List ℕ → Option ℕ) → ℕ → ℕ → List ℕ → List ℕ → List ℕ → List ℕ → Result Line Reason
line_by num n k place from to gain =
    need (num place) (λ i.
    need (num from) (λ f.
    need (num to) (λ t.
    need (limitedℤ (signed_by num gain)) (λ g.
    cond (i + 1 == k) (cond (apart n f t) (Ok (record { from = f; to = t; gain = g })) (Err R.LineEnds)) (Err R.RowNumber)))))

-- its parts: not past the 128th, four of them, and these right
abbrev pub judge_by : (List ℕ → Option ℕ) → ℕ → ℕ → List (List ℕ) → Result Line Reason
judge_by num n k ps =
    cond (nat_lt 128 k) (Err R.RowCount)
    (cond (length ps == 4) (line_by num n k (field ps 0) (field ps 1) (field ps 2) (field ps 3)) (Err R.FieldCount))

abbrev pub heads : List (List ℕ) → Bool
heads ps = length ps == 4 && titled (field ps 0) (field ps 1) (field ps 2) (field ps 3)

abbrev pub lines : ℕ → Rules Line
lines n = record { heads = heads; judge = judge_by numeral n; least = 1 }
