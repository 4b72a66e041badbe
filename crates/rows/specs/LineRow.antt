-- A record of the lines' table: its numbers may be read capped, and six of its parts tell what all do.
use Rattle.std.specs.Prelude.{◌≡◌, ℕ, ◌+◌, ◌<◌, ◌≤◌, min, Bool, false, cond, not, ◌&&◌, List, length, ℤ, Some, None, Ok, Err, Option, Result, ◌==◌, nat_lt, refl}
use Rattle.std.proofs.Common.{sym, ap, ◌∙◌, ⊎_elim, arith}
use Rattle.std.proofs.lemmas.Bool.{cases_Bool, cases_lt, le-ltb, lt-ltb}
use Rattle.plant.specs.declared.records.Line.{Line}
use Rattle.plant.specs.declared.refusal.Reason.{Reason}
use Rattle.plant.specs.declared.refusal.Reason.TheVariants as R
use Rattle.tables.specs.Numerals.{numeral, signed_by, capped}
use Rattle.rows.specs.Fields.{cap, limitedℤ, need, field}
use Rattle.rows.specs.Lines.{titled, apart, line_by, judge_by, lines}
use Rattle.rows.specs.Verdict.{Lawful}
use Rattle.rows.specs.Plain.{signed_capped, need_capped}
use Rattle.rows.specs.Columns.{columns_six, field_six, right_columns}

-- past every station a number names none, capped or not
past : (n : ℕ) → n ≤ 64 → (f t : ℕ) → 1000000001 ≤ f → apart n f t ≡ false
past n h f t ge = let p : n ≤ f = omega arith in ap (λ b. b && (nat_lt t n && not (f == t))) (le-ltb f n p)

past_second : (n : ℕ) → n ≤ 64 → (f t : ℕ) → 1000000001 ≤ t → apart n f t ≡ false
past_second n h f t ge =
    let p : n ≤ t = omega arith in
    ap (λ b. nat_lt f n && (b && not (f == t))) (le-ltb t n p) ∙ ⊎_elim (λ e. ap (λ b. b && false) e) (λ e. ap (λ b. b && false) e) (cases_Bool (nat_lt f n))

-- what becomes of two ends
abbrev pub ended : ℕ → ℤ → ℕ → ℕ → Result Line Reason
ended n g f t = cond (apart n f t) (Ok (record { from = f; to = t; gain = g })) (Err R.LineEnds)

ended_first : (n : ℕ) → n ≤ 64 → (g : ℤ) (f t : ℕ) → ended n g (min f 1000000001) t ≡ ended n g f t
ended_first n h g f t =
    ⊎_elim
    (λ lt. let e : min f 1000000001 ≡ f = omega arith in ap (λ x. ended n g x t) e)
    (λ ge.
    let big : 1000000001 ≤ min f 1000000001 = omega arith in
    ap (λ b. cond b (Ok (record { from = min f 1000000001; to = t; gain = g })) (Err R.LineEnds)) (past n h (min f 1000000001) t big)
    ∙ sym (ap (λ b. cond b (Ok (record { from = f; to = t; gain = g })) (Err R.LineEnds)) (past n h f t ge)))
    (cases_lt f 1000000001)

ended_second : (n : ℕ) → n ≤ 64 → (g : ℤ) (f t : ℕ) → ended n g f (min t 1000000001) ≡ ended n g f t
ended_second n h g f t =
    ⊎_elim
    (λ lt. let e : min t 1000000001 ≡ t = omega arith in ap (λ x. ended n g f x) e)
    (λ ge.
    let big : 1000000001 ≤ min t 1000000001 = omega arith in
    ap (λ b. cond b (Ok (record { from = f; to = min t 1000000001; gain = g })) (Err R.LineEnds)) (past_second n h f (min t 1000000001) big)
    ∙ sym (ap (λ b. cond b (Ok (record { from = f; to = t; gain = g })) (Err R.LineEnds)) (past_second n h f t ge)))
    (cases_lt t 1000000001)

both_capped : (n : ℕ) → n ≤ 64 → (o p : Option ℕ) (q : Option ℤ) (num : Bool)
    → need (capped o) (λ f. need (capped p) (λ t. need q (λ g. cond num (ended n g f t) (Err R.RowNumber))))
    ≡ need o (λ f. need p (λ t. need q (λ g. cond num (ended n g f t) (Err R.RowNumber))))
both_capped n h None p q num = refl
both_capped n h (Some f) None q num = refl
both_capped n h (Some f) (Some t) None num = refl
both_capped n h (Some f) (Some t) (Some g) num = ap (λ x. cond num x (Err R.RowNumber)) (ended_first n h g f (min t 1000000001) ∙ ended_second n h g f t)

row_capped : (n k : ℕ) → n ≤ 64 → k ≤ 128 → (a b c d : List ℕ) → line_by cap n k a b c d ≡ line_by numeral n k a b c d
row_capped n k few h a b c d =
    (λ i. need (cap a) (λ x. need (cap b) (λ f. need (cap c) (λ t. need (signed_capped d i) (λ g. cond (x + 1 == k) (ended n g f t) (Err R.RowNumber))))))
    ∙ (λ i. need (cap a) (λ x. both_capped n few (numeral b) (numeral c) (limitedℤ (signed_by numeral d)) (x + 1 == k) i))
    ∙ need_capped k h (numeral a) (λ e. need (numeral b) (λ f. need (numeral c) (λ t. need (limitedℤ (signed_by numeral d)) (λ g. cond e (ended n g f t) (Err R.RowNumber)))))

-- the code's answers
abbrev of : (List ℕ → Option ℕ) → ℕ → ℕ → List (List ℕ) → Result Line Reason
of num n k ps = line_by num n k (field ps 0) (field ps 1) (field ps 2) (field ps 3)

pub right_count : (n k : ℕ) (ps : List (List ℕ)) → n ≤ 64 → k ≤ 128 → length ps ≡ 4 → of cap n k ps ≡ judge_by numeral n k ps
right_count n k ps few h m =
    row_capped n k few h (field ps 0) (field ps 1) (field ps 2) (field ps 3)
    ∙ sym (right_columns 128 4 k ps (of numeral n k ps) h m)

-- the fields read one by one
abbrev pub line_from : ℕ → ℕ → Option ℕ → Option ℕ → Option ℕ → Option ℤ → Result Line Reason
line_from n k place from to gain =
    need place (λ i. need from (λ f. need to (λ t. need gain (λ g. cond (i + 1 == k) (ended n g f t) (Err R.RowNumber)))))

full : (n k : ℕ) (ps : List (List ℕ)) → 128 < k → judge_by numeral n k ps ≡ Err R.RowCount
full n k ps h = rw (lt-ltb 128 k h) refl

pub lawful : (n : ℕ) → Lawful (lines n) 1 128
lawful n =
    record {
      heads_six = λ ps i. columns_six 4 (omega arith) ps i && titled (field_six ps 0 (omega arith) i) (field_six ps 1 (omega arith) i) (field_six ps 2 (omega arith) i) (field_six ps 3 (omega arith) i);
      judge_six = λ k ps i. cond (nat_lt 128 k) (Err R.RowCount) (cond (columns_six 4 (omega arith) ps i) (line_by numeral n k (field_six ps 0 (omega arith) i) (field_six ps 1 (omega arith) i) (field_six ps 2 (omega arith) i) (field_six ps 3 (omega arith) i)) (Err R.FieldCount));
      full = full n;
      least_is = refl;
    }
