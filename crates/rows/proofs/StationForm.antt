-- The stations' rules judge what is written as stations.
use Rattle.std.proofs.Common.{◌≡◌, ℕ, ◌+◌, ◌<◌, true, cond, ◌&&◌, eqb, ◌⊎◌, List, [], ◌∷◌, map, length, get_or, Ok, Err, codes, Result, sym, refl, ap, ◌∙◌, inr, arith}
use Rattle.std.proofs.lemmas.Slice.Eq.{bytes_eq-Decides}
use Rattle.std.proofs.lemmas.List.{length-map}
use Rattle.std.proofs.lemmas.Bool.{eqb-true, eq-eqb, and_parts}
use Rattle.plant.specs.declared.records.Station.{Station}
use Rattle.plant.specs.declared.refusal.Reason.{Reason}
use Rattle.plant.specs.declared.refusal.Reason.TheVariants as R
use Rattle.plant.specs.Records.{StationInRange}
use Rattle.tables.specs.Laws.{meaning}
use Rattle.tables.specs.Numerals.{numeral, signed_by}
use Rattle.rows.specs.Faults.{Formed}
use Rattle.rows.specs.Fields.{limited, limitedℤ, marked, hold_from, need, field}
use Rattle.rows.specs.Stations.{titled, station_by, heads, stations}
use Rattle.rows.specs.Written.{station_form, station_cells}
use Rattle.rows.proofs.Judging.{Judges, settled}
use Rattle.rows.proofs.Values.{need_cases, field_is, number_read, hours_read, gain_read, mark_read, hold_read, number_written, hours_written, gain_written, mark_written, hold_written}

five : (ps : List (List ℕ)) → length ps ≡ 5 → map meaning ps ≡ field ps 0 ∷ field ps 1 ∷ field ps 2 ∷ field ps 3 ∷ field ps 4 ∷ []
five [] h = absurd (omega arith)
five (a ∷ []) h = absurd (omega arith)
five (a ∷ b ∷ []) h = absurd (omega arith)
five (a ∷ b ∷ c ∷ []) h = absurd (omega arith)
five (a ∷ b ∷ c ∷ d ∷ []) h = absurd (omega arith)
five (a ∷ b ∷ c ∷ d ∷ e ∷ []) h = refl
five (a ∷ b ∷ c ∷ d ∷ e ∷ f ∷ ps) h = absurd (omega arith)

abbrev body : ℕ → List (List ℕ) → Result Station Reason
body k ps = station_by numeral k (field ps 0) (field ps 1) (field ps 2) (field ps 3) (field ps 4)

formed : (k : ℕ) (ps : List (List ℕ)) → length ps ≡ 5 → (body k ps ≡ Err R.FieldForm) ⊎ Formed station_form (map meaning ps)
formed k ps n =
    need_cases (numeral (field ps 0)) _ (λ i a.
    need_cases (limited 1000 (numeral (field ps 1))) _ (λ h b.
    need_cases (limitedℤ (signed_by numeral (field ps 2))) _ (λ g c.
    need_cases (marked (numeral (field ps 3))) _ (λ u d.
    need_cases (hold_from (field ps 4)) _ (λ o e.
    let A = number_read (field ps 0) i a in
    let B = hours_read (field ps 1) h b in
    let C = gain_read (field ps 2) g c in
    let D = mark_read (field ps 3) u d in
    let E = hold_read (field ps 4) o e in
    let made : Station = record { hours = h; gain = g; urgent = u; hold = o } in
    let range : StationInRange made = (B.1, C.1) in
    let is : map meaning ps ≡ station_cells i made = five ps n ∙ (λ j. A j ∷ B.0 j ∷ C.0 j ∷ D j ∷ E j ∷ []) in
    inr (i, made, range, is))))))

written : (k i : ℕ) (s : Station) (ps : List (List ℕ)) → map meaning ps ≡ station_cells i s → StationInRange s → body k ps ≡ settled (eqb (i + 1) k) true s
written k i s ps e range =
    let n : length ps ≡ 5 = sym (length-map ps meaning) ∙ ap length e in
    let f : (j : ℕ) → j < 5 → field ps j ≡ get_or (station_cells i s) j [] = λ j l. field_is ps (station_cells i s) j e (omega arith) in
    let A = number_written i in
    let B = hours_written s.hours range.0 in
    let C = gain_written s.gain range.1 in
    let D = mark_written s.urgent in
    let E = hold_written s.hold in
    (λ j. station_by numeral k (f 0 (omega arith) j) (f 1 (omega arith) j) (f 2 (omega arith) j) (f 3 (omega arith) j) (f 4 (omega arith) j))
    ∙ (λ j. need (A j) (λ n. need (B j) (λ h. need (C j) (λ g. need (D j) (λ u. need (E j) (λ o. cond (eqb (n + 1) k) (Ok (record { hours = h; gain = g; urgent = u; hold = o })) (Err R.RowNumber)))))))

heads_true : (ps : List (List ℕ)) → heads ps ≡ true → map meaning ps ≡ station_form.head
heads_true ps e =
    let p₀ = and_parts _ _ e in
    let p₁ = and_parts _ _ p₀.1 in
    let p₂ = and_parts _ _ p₁.1 in
    let p₃ = and_parts _ _ p₂.1 in
    let p₄ = and_parts _ _ p₃.1 in
    five ps (eqb-true (length ps) 5 p₀.0)
    ∙ (λ k. (bytes_eq-Decides (field ps 0) (codes "station")).0 p₁.0 k ∷ (bytes_eq-Decides (field ps 1) (codes "hours")).0 p₂.0 k ∷ (bytes_eq-Decides (field ps 2) (codes "gain")).0 p₃.0 k ∷ (bytes_eq-Decides (field ps 3) (codes "urgent")).0 p₄.0 k ∷ (bytes_eq-Decides (field ps 4) (codes "hold")).0 p₄.1 k ∷ [])

true_heads : (ps : List (List ℕ)) → map meaning ps ≡ station_form.head → heads ps ≡ true
true_heads ps e =
    let n : length ps ≡ 5 = sym (length-map ps meaning) ∙ ap length e in
    let f : (j : ℕ) → j < 5 → field ps j ≡ get_or station_form.head j [] = λ j l. field_is ps station_form.head j e (omega arith) in
    (λ k. eq-eqb (length ps) 5 n k && titled (f 0 (omega arith) k) (f 1 (omega arith) k) (f 2 (omega arith) k) (f 3 (omega arith) k) (f 4 (omega arith) k))

pub judges : Judges stations station_form
judges =
    record {
      body = body;
      judge_is = λ k ps. refl;
      least_is = refl;
      between = λ s. true;
      between_true = λ s h. tt;
      true_between = λ s h. refl;
      first_cell = λ i s. refl;
      columns = λ i s. refl;
      written = written;
      formed = formed;
      heads_true = heads_true;
      true_heads = true_heads;
    }
