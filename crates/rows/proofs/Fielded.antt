-- A record's fields, taken from a slice.
use Rattle.std.proofs.Common.{◌≡◌, ℕ, ◌+◌, ◌<◌, ◌≤◌, Bool, List, [], length, get_or, ℤ, Option, sym, ap, ◌∙◌, arith, Bor}
use Rattle.std.proofs.lemmas.List.{get_or-map, length-map}
use Rattle.plant.specs.declared.records.Hold.{Hold}
use Rattle.tables.specs.Fields.{part_bytes}
use Rattle.tables.specs.Laws.{meaning}
use Rattle.tables.specs.Numerals.{numeral, signed_by}
use Rattle.rows.specs.Fields.{cap, limited, limitedℤ, marked, hold_from, field}
use Rattle.rows.specs.Lines as Lines
use Rattle.rows.specs.LineRow as LineRow
use Rattle.rows.specs.Stations as Stations
use Rattle.rows.specs.StationRow as StationRow

abbrev now_of : Bor (List ℕ) → List ℕ
now_of p = p.now

module _ (fs : List (Bor (List ℕ))) (d : Bor (List ℕ)) where
  -- what the i-th of the fields means
  abbrev pub at : ℕ → List ℕ
  at i = meaning (get_or fs i d).now

  at_is : (i : ℕ) → i < length fs → at i ≡ field (part_bytes fs) i
  at_is i lt = sym (ap meaning (get_or-map now_of fs i d [] lt))

  pub held_length : (n : ℕ) → n ≤ length fs → length fs < n + 1 → length (part_bytes fs) ≡ n
  held_length n le lt = omega (arith, length-map fs now_of)

  pub line_is : (n k : ℕ) → n ≤ 64 → k ≤ 128 → 4 ≤ length fs → length fs < 5 → (place from to : Option ℕ) (gain : Option ℤ)
      → place ≡ cap (at 0) → from ≡ cap (at 1) → to ≡ cap (at 2) → gain ≡ limitedℤ (signed_by cap (at 3))
      → LineRow.line_from n k place from to gain ≡ Lines.judge_by numeral n k (part_bytes fs)
  line_is n k few h le lt place from to gain p f t g =
      let a = at_is 0 (omega arith) in
      let b = at_is 1 (omega arith) in
      let c = at_is 2 (omega arith) in
      let e = at_is 3 (omega arith) in
      (λ i. LineRow.line_from n k (p i) (f i) (t i) (g i)) ∙ (λ i. Lines.line_by cap n k (a i) (b i) (c i) (e i)) ∙ LineRow.right_count n k (part_bytes fs) few h (held_length 4 le lt)

  pub station_is : (k : ℕ) → k ≤ 64 → 5 ≤ length fs → length fs < 6 → (place hours : Option ℕ) (gain : Option ℤ) (urgent : Option Bool) (hold : Option Hold)
      → place ≡ cap (at 0) → hours ≡ limited 1000 (cap (at 1)) → gain ≡ limitedℤ (signed_by cap (at 2)) → urgent ≡ marked (cap (at 3)) → hold ≡ hold_from (at 4)
      → StationRow.station_from k place hours gain urgent hold ≡ Stations.judge_by numeral k (part_bytes fs)
  station_is k h le lt place hours gain urgent hold p x g u o =
      let a = at_is 0 (omega arith) in
      let b = at_is 1 (omega arith) in
      let c = at_is 2 (omega arith) in
      let e = at_is 3 (omega arith) in
      let f = at_is 4 (omega arith) in
      (λ i. StationRow.station_from k (p i) (x i) (g i) (u i) (o i)) ∙ (λ i. Stations.station_by cap k (a i) (b i) (c i) (e i) (f i)) ∙ StationRow.right_count k (part_bytes fs) h (held_length 5 le lt)
