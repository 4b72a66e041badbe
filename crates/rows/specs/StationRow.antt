-- A record of the stations' table: its numbers may be read capped, and six of its parts tell what all do.
use Rattle.std.specs.Prelude.{◌≡◌, ℕ, ◌+◌, ◌<◌, ◌≤◌, Bool, cond, ◌&&◌, List, length, ℤ, Ok, Err, Option, Result, ◌==◌, nat_lt, refl}
use Rattle.std.proofs.Common.{sym, ◌∙◌, arith}
use Rattle.std.proofs.lemmas.Bool.{lt-ltb}
use Rattle.plant.specs.declared.records.Hold.{Hold}
use Rattle.plant.specs.declared.records.Station.{Station}
use Rattle.plant.specs.declared.refusal.Reason.{Reason}
use Rattle.plant.specs.declared.refusal.Reason.TheVariants as R
use Rattle.tables.specs.Numerals.{numeral, signed_by}
use Rattle.rows.specs.Fields.{cap, limited, limitedℤ, marked, hold_from, need, field}
use Rattle.rows.specs.Stations.{titled, station_by, judge_by, stations}
use Rattle.rows.specs.Verdict.{Lawful}
use Rattle.rows.specs.Plain.{limited_capped, marked_capped, signed_capped, need_capped}
use Rattle.rows.specs.Columns.{columns_six, field_six, right_columns}

row_capped : (k : ℕ) → k ≤ 64 → (a b c d e : List ℕ) → station_by cap k a b c d e ≡ station_by numeral k a b c d e
row_capped k h a b c d e =
    (λ i. need (cap a) (λ n. need (limited_capped 1000 (omega arith) (numeral b) i) (λ x. need (signed_capped c i) (λ g. need (marked_capped (numeral d) i) (λ u. need (hold_from e) (λ o. cond (n + 1 == k) (Ok (record { hours = x; gain = g; urgent = u; hold = o })) (Err R.RowNumber)))))))
    ∙ need_capped k (omega arith) (numeral a) (λ t. need (limited 1000 (numeral b)) (λ x. need (limitedℤ (signed_by numeral c)) (λ g. need (marked (numeral d)) (λ u. need (hold_from e) (λ o. cond t (Ok (record { hours = x; gain = g; urgent = u; hold = o })) (Err R.RowNumber))))))

-- the code's answers
abbrev of : (List ℕ → Option ℕ) → ℕ → List (List ℕ) → Result Station Reason
of num k ps = station_by num k (field ps 0) (field ps 1) (field ps 2) (field ps 3) (field ps 4)

pub right_count : (k : ℕ) (ps : List (List ℕ)) → k ≤ 64 → length ps ≡ 5 → of cap k ps ≡ judge_by numeral k ps
right_count k ps h n =
    row_capped k h (field ps 0) (field ps 1) (field ps 2) (field ps 3) (field ps 4)
    ∙ sym (right_columns 64 5 k ps (of numeral k ps) h n)

-- the fields read one by one
abbrev pub station_from : ℕ → Option ℕ → Option ℕ → Option ℤ → Option Bool → Option Hold → Result Station Reason
station_from k place hours gain urgent hold =
    need place (λ n. need hours (λ h. need gain (λ g. need urgent (λ u. need hold (λ o. cond (n + 1 == k) (Ok (record { hours = h; gain = g; urgent = u; hold = o })) (Err R.RowNumber))))))

full : (k : ℕ) (ps : List (List ℕ)) → 64 < k → judge_by numeral k ps ≡ Err R.RowCount
full k ps h = rw (lt-ltb 64 k h) refl

pub lawful : Lawful stations 2 64
lawful =
    record {
      heads_six = λ ps i. columns_six 5 (omega arith) ps i && titled (field_six ps 0 (omega arith) i) (field_six ps 1 (omega arith) i) (field_six ps 2 (omega arith) i) (field_six ps 3 (omega arith) i) (field_six ps 4 (omega arith) i);
      judge_six = λ k ps i. cond (nat_lt 64 k) (Err R.RowCount) (cond (columns_six 5 (omega arith) ps i) (station_by numeral k (field_six ps 0 (omega arith) i) (field_six ps 1 (omega arith) i) (field_six ps 2 (omega arith) i) (field_six ps 3 (omega arith) i) (field_six ps 4 (omega arith) i)) (Err R.FieldCount));
      full = full;
      least_is = refl;
    }
