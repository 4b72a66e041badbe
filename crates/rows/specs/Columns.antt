-- The parts of a record: six tell what all do, and where they are as many as they should be, they are judged one by one.
use Rattle.std.specs.Prelude.{◌≡◌, ℕ, ◌<◌, ◌≤◌, cond, List, [], length, take, Err, Result, ◌==◌, nat_eq, nat_lt, refl}
use Rattle.std.proofs.Common.{sym, ap, ◌∙◌, ⊎_elim, arith}
use Rattle.std.proofs.lemmas.Bool.{cases_lt, eq-eqb, le-ltb, ne_eqb}
use Rattle.std.proofs.lemmas.List.{length-take-le, get_or-take, take_all}
use Rattle.plant.specs.declared.refusal.Reason.{Reason}
use Rattle.plant.specs.declared.refusal.Reason.TheVariants.{FieldCount, RowCount}
use Rattle.tables.specs.Laws.{meaning}
use Rattle.rows.specs.Fields.{field}

pub columns_six : (n : ℕ) → n < 6 → (ps : List (List ℕ)) → (length (take 6 ps) == n) ≡ (length ps == n)
columns_six n few ps =
    ⊎_elim
    (λ lt. let le : length ps ≤ 6 = omega arith in ap (λ l. nat_eq (length l) n) (take_all 6 ps le))
    (λ ge.
    let a : length (take 6 ps) ≡ n → ⊥ = omega (arith, length-take-le 6 ps ge) in
    let b : length ps ≡ n → ⊥ = omega arith in
    ne_eqb (length (take 6 ps)) n a ∙ sym (ne_eqb (length ps) n b))
    (cases_lt (length ps) 6)

pub field_six : (ps : List (List ℕ)) (i : ℕ) → i < 6 → field (take 6 ps) i ≡ field ps i
field_six ps i h = ap meaning (get_or-take 6 ps i [] h)

-- a record of the right count, up to the most, is judged by its fields
pub right_columns : {A : Type 0} (most columns k : ℕ) (ps : List (List ℕ)) (r : Result A Reason) → k ≤ most → length ps ≡ columns → cond (nat_lt most k) (Err RowCount) (cond (length ps == columns) r (Err FieldCount)) ≡ r
right_columns most columns k ps r h n = rw (le-ltb most k h, eq-eqb (length ps) columns n) refl
