-- The lines' rules judge what is written as lines.
use Rattle.std.proofs.Common.{◌≡◌, ℕ, ◌+◌, ◌<◌, true, cond, not, ◌&&◌, eqb, ltb, ◌⊎◌, List, [], ◌∷◌, map, length, get_or, Ok, Err, codes, Result, sym, refl, ap, ◌∙◌, inr, arith}
use Rattle.std.proofs.lemmas.Slice.Eq.{bytes_eq-Decides}
use Rattle.std.proofs.lemmas.List.{length-map}
use Rattle.std.proofs.lemmas.Bool.{eqb-true, eqb-false, eq-eqb, ne_eqb, lt-ltb, ltb-true, and_parts, and_from, not-true, not_from_false}
use Rattle.plant.specs.declared.records.Line.{Line}
use Rattle.plant.specs.declared.refusal.Reason.{Reason}
use Rattle.plant.specs.declared.refusal.Reason.TheVariants as R
use Rattle.plant.specs.Records.{LineInRange, LineBetween}
use Rattle.tables.specs.Laws.{meaning}
use Rattle.tables.specs.Numerals.{numeral, signed_by}
use Rattle.rows.specs.Faults.{Formed}
use Rattle.rows.specs.Fields.{limitedℤ, need, field}
use Rattle.rows.specs.Lines.{titled, apart, line_by, heads, lines}
use Rattle.rows.specs.Written.{line_form, line_cells}
use Rattle.rows.proofs.Judging.{Judges, settled}
use Rattle.rows.proofs.Values.{need_cases, field_is, number_read, gain_read, number_written, gain_written}

four : (ps : List (List ℕ)) → length ps ≡ 4 → map meaning ps ≡ field ps 0 ∷ field ps 1 ∷ field ps 2 ∷ field ps 3 ∷ []
four [] h = absurd (omega arith)
four (a ∷ []) h = absurd (omega arith)
four (a ∷ b ∷ []) h = absurd (omega arith)
four (a ∷ b ∷ c ∷ []) h = absurd (omega arith)
four (a ∷ b ∷ c ∷ d ∷ []) h = refl
four (a ∷ b ∷ c ∷ d ∷ e ∷ ps) h = absurd (omega arith)

abbrev body : ℕ → ℕ → List (List ℕ) → Result Line Reason
body n k ps = line_by numeral n k (field ps 0) (field ps 1) (field ps 2) (field ps 3)

formed : (n k : ℕ) (ps : List (List ℕ)) → length ps ≡ 4 → (body n k ps ≡ Err R.FieldForm) ⊎ Formed (line_form n) (map meaning ps)
formed n k ps four_of =
    need_cases (numeral (field ps 0)) _ (λ i a.
    need_cases (numeral (field ps 1)) _ (λ f b.
    need_cases (numeral (field ps 2)) _ (λ t c.
    need_cases (limitedℤ (signed_by numeral (field ps 3))) _ (λ g d.
    let A = number_read (field ps 0) i a in
    let B = number_read (field ps 1) f b in
    let C = number_read (field ps 2) t c in
    let D = gain_read (field ps 3) g d in
    let made : Line = record { from = f; to = t; gain = g } in
    let range : LineInRange made = D.1 in
    let is : map meaning ps ≡ line_cells i made = four ps four_of ∙ (λ j. A j ∷ B j ∷ C j ∷ D.0 j ∷ []) in
    inr (i, made, range, is)))))

written : (n k i : ℕ) (l : Line) (ps : List (List ℕ)) → map meaning ps ≡ line_cells i l → LineInRange l → body n k ps ≡ settled (eqb (i + 1) k) (apart n l.from l.to) l
written n k i l ps e range =
    let four_of : length ps ≡ 4 = sym (length-map ps meaning) ∙ ap length e in
    let f : (j : ℕ) → j < 4 → field ps j ≡ get_or (line_cells i l) j [] = λ j h. field_is ps (line_cells i l) j e (omega arith) in
    let A = number_written i in
    let B = number_written l.from in
    let C = number_written l.to in
    let D = gain_written l.gain range in
    (λ j. line_by numeral n k (f 0 (omega arith) j) (f 1 (omega arith) j) (f 2 (omega arith) j) (f 3 (omega arith) j))
    ∙ (λ j. need (A j) (λ i. need (B j) (λ f. need (C j) (λ t. need (D j) (λ g. cond (eqb (i + 1) k) (cond (apart n f t) (Ok (record { from = f; to = t; gain = g })) (Err R.LineEnds)) (Err R.RowNumber))))))

apart_true : (n : ℕ) (l : Line) → apart n l.from l.to ≡ true → LineBetween n l
apart_true n l e =
    let p = and_parts (ltb l.from n) (ltb l.to n && not (eqb l.from l.to)) e in
    let q = and_parts (ltb l.to n) (not (eqb l.from l.to)) p.1 in
    (ltb-true l.from n p.0, ltb-true l.to n q.0, eqb-false l.from l.to (not-true (eqb l.from l.to) q.1))

true_apart : (n : ℕ) (l : Line) → LineBetween n l → apart n l.from l.to ≡ true
true_apart n l h =
    and_from (ltb l.from n) (ltb l.to n && not (eqb l.from l.to)) (lt-ltb l.from n h.0)
    (and_from (ltb l.to n) (not (eqb l.from l.to)) (lt-ltb l.to n h.1) (not_from_false (eqb l.from l.to) (ne_eqb l.from l.to h.2)))

heads_true : (n : ℕ) (ps : List (List ℕ)) → heads ps ≡ true → map meaning ps ≡ (line_form n).head
heads_true n ps e =
    let p₀ = and_parts _ _ e in
    let p₁ = and_parts _ _ p₀.1 in
    let p₂ = and_parts _ _ p₁.1 in
    let p₃ = and_parts _ _ p₂.1 in
    four ps (eqb-true (length ps) 4 p₀.0)
    ∙ (λ k. (bytes_eq-Decides (field ps 0) (codes "line")).0 p₁.0 k ∷ (bytes_eq-Decides (field ps 1) (codes "from")).0 p₂.0 k ∷ (bytes_eq-Decides (field ps 2) (codes "to")).0 p₃.0 k ∷ (bytes_eq-Decides (field ps 3) (codes "gain")).0 p₃.1 k ∷ [])

true_heads : (n : ℕ) (ps : List (List ℕ)) → map meaning ps ≡ (line_form n).head → heads ps ≡ true
true_heads n ps e =
    let four_of : length ps ≡ 4 = sym (length-map ps meaning) ∙ ap length e in
    let f : (j : ℕ) → j < 4 → field ps j ≡ get_or (line_form n).head j [] = λ j l. field_is ps (line_form n).head j e (omega arith) in
    (λ k. eq-eqb (length ps) 4 four_of k && titled (f 0 (omega arith) k) (f 1 (omega arith) k) (f 2 (omega arith) k) (f 3 (omega arith) k))

pub judges : (n : ℕ) → Judges (lines n) (line_form n)
judges n =
    record {
      body = body n;
      judge_is = λ k ps. refl;
      least_is = refl;
      between = λ l. apart n l.from l.to;
      between_true = apart_true n;
      true_between = true_apart n;
      first_cell = λ i l. refl;
      columns = λ i l. refl;
      written = written n;
      formed = formed n;
      heads_true = heads_true n;
      true_heads = true_heads n;
    }
