-- A number is read from its digits, and from nothing else. Assumes nothing.
use Rattle.std.proofs.Common.{◌≡◌, ℕ, ◌+◌, ◌-◌, ◌*◌, ◌/◌, ◌%◌, ◌<◌, ◌≤◌, true, eqb, leb, List, [], ◌∷◌, ◌++◌, map, get_or, sym, refl, ap, ◌∙◌, ⊎_elim, append_assoc, arith}
use Rattle.std.specs.Int.Digits.{digits_of, number_from_digits_after, AllBelowBase}
use Rattle.std.proofs.lemmas.Int.Digits.{digits_of_step, all_below_base_digits_of, first_digits_of, number_digits_of}
use Rattle.std.proofs.lemmas.List.{map-append}
use Rattle.std.proofs.lemmas.Bool.{cases_eq, eqb-true, eqb-false, ne_eqb, le-leb, leb-true, and_parts, and_from}
use Rattle.plant.specs.declared.refusal.Reason.{Reason}
use Rattle.plant.specs.declared.refusal.Reason.TheVariants.{TreeGrammar, TooDeep, LeafNumber, HalvesApart, NotThePlant}
use Rattle.drawing.specs.Marks.{digit}
use Rattle.drawing.specs.Grammar.{good, bad, digits, after_zero, number}
use Rattle.drawing.specs.Written.{spelled}
use Rattle.drawing.specs.Faults.{NoDigit}
use Rattle.drawing.proofs.Bytes.{by_bool}

-- a refusal is not a value
pub clash : {A : Type 0} {P : Type 0} (r : Reason) (s u : List ℕ) (x : A) → bad r s ≡ good x u → P
clash r s u x e = let z : ◌≡◌ {A = ℕ} 0 1 = cc in absurd (omega arith)

-- the other reasons are not the grammar's
pub too_deep : TooDeep ≡ TreeGrammar → ⊥
too_deep e = let z : ◌≡◌ {A = ℕ} 0 1 = cc in omega arith

pub leaf_number : LeafNumber ≡ TreeGrammar → ⊥
leaf_number e = let z : ◌≡◌ {A = ℕ} 0 1 = cc in omega arith

pub halves_apart : HalvesApart ≡ TreeGrammar → ⊥
halves_apart e = let z : ◌≡◌ {A = ℕ} 0 1 = cc in omega arith

pub not_plant : NotThePlant ≡ TreeGrammar → ⊥
not_plant e = let z : ◌≡◌ {A = ℕ} 0 1 = cc in omega arith

pub same_good : {A : Type 0} (x y : A) (s u : List ℕ) → good x s ≡ good y u → (x ≡ y) × (s ≡ u)
same_good x y s u e = (cc, cc)

abbrev text : List ℕ → List ℕ
text ds = map (λ d. 48 + d) ds

pub record IsDigit (b : ℕ) : Type 0 where
  pub low : 48 ≤ b
  pub high : b ≤ 57

pub is_digit : (b : ℕ) → digit b ≡ true → IsDigit b
is_digit b e = let both = and_parts (leb 48 b) (leb b 57) e in record { low = leb-true 48 b both.0; high = leb-true b 57 both.1 }

pub digit_is : (b : ℕ) → 48 ≤ b → b ≤ 57 → digit b ≡ true
digit_is b low high = and_from _ _ (le-leb 48 b low) (le-leb b 57 high)

pub spelled_some : (n : ℕ) → 0 < n → spelled n ≡ text (digits_of 10 n)
spelled_some n p = let e : n ≡ 0 → ⊥ = omega arith in rw (ne_eqb n 0 e) refl

-- one digit more
pub spelled_more : (n b : ℕ) → 0 < n → 48 ≤ b → b ≤ 57 → spelled (n * 10 + (b - 48)) ≡ spelled n ++ b ∷ []
spelled_more n b p low high =
    let m = n * 10 + (b - 48) in
    let some : 0 < m = omega arith in
    let q : m / 10 ≡ n = omega arith in
    let r : 48 + m % 10 ≡ b = omega arith in
    spelled_some m some ∙ ap text (digits_of_step 10 m (omega arith) some) ∙ map-append (λ d. 48 + d) (digits_of 10 (m / 10)) (m % 10 ∷ []) ∙ (λ i. text (digits_of 10 (q i)) ++ r i ∷ []) ∙ ap (λ l. l ++ b ∷ []) (sym (spelled_some n p))

pub one_digit : (b : ℕ) → 48 ≤ b → b ≤ 57 → spelled (b - 48) ≡ b ∷ []
one_digit b low high =
    ⊎_elim
    (λ z. let e : b - 48 ≡ 0 = omega arith in ap spelled e ∙ ap (λ x. x ∷ []) (sym z))
    (λ n.
    let m = b - 48 in
    let some : 0 < m = omega arith in
    let q : m / 10 ≡ 0 = omega arith in
    let r : 48 + m % 10 ≡ b = omega arith in
    spelled_some m some ∙ ap text (digits_of_step 10 m (omega arith) some) ∙ map-append (λ d. 48 + d) (digits_of 10 (m / 10)) (m % 10 ∷ []) ∙ (λ i. text (digits_of 10 (q i)) ++ r i ∷ []))
    (cases_eq b 48)

-- ---- what is read is spelled

pub digits_good : (s : List ℕ) (n k : ℕ) (u : List ℕ) → 0 < n → digits n s ≡ good k u → spelled n ++ s ≡ spelled k ++ u
digits_good [] n k u p e = let g = same_good n k [] u e in (λ i. spelled (g.0 i) ++ g.1 i)
digits_good (b ∷ s) n k u p e =
    by_bool (digit b)
    (λ d.
    let w = is_digit b d in
    let more : 0 < n * 10 + (b - 48) = omega arith in
    sym (ap (λ l. l ++ s) (spelled_more n b p w.low w.high) ∙ append_assoc (spelled n) (b ∷ []) s) ∙ digits_good s (n * 10 + (b - 48)) k u more (rw d at e))
    (λ d. let g = same_good n k (b ∷ s) u (rw d at e) in (λ i. spelled (g.0 i) ++ g.1 i))

zero_good : (s : List ℕ) (k : ℕ) (u : List ℕ) → after_zero s ≡ good k u → 48 ∷ s ≡ spelled k ++ u
zero_good [] k u e = let g = same_good 0 k [] u e in (λ i. spelled (g.0 i) ++ g.1 i)
zero_good (b ∷ s) k u e =
    by_bool (digit b)
    (λ d. clash _ _ u k (rw d at e))
    (λ d. let g = same_good 0 k (b ∷ s) u (rw d at e) in (λ i. spelled (g.0 i) ++ g.1 i))

pub number_good : (s : List ℕ) (k : ℕ) (u : List ℕ) → number s ≡ good k u → s ≡ spelled k ++ u
number_good [] k u e = clash _ _ u k e
number_good (b ∷ s) k u e =
    by_bool (digit b)
    (λ d.
    let w = is_digit b d in
    let f = rw d at e in
    by_bool (eqb (b - 48) 0)
    (λ z. let zero_at : b ≡ 48 = omega (arith, w.low, eqb-true (b - 48) 0 z) in ap (λ x. x ∷ s) zero_at ∙ zero_good s k u (rw z at f))
    (λ z.
    let ne = eqb-false (b - 48) 0 z in
    let some : 0 < b - 48 = omega arith in
    ap (λ l. l ++ s) (sym (one_digit b w.low w.high)) ∙ digits_good s (b - 48) k u some (rw z at f)))
    (λ d. clash _ _ u k (rw d at e))

-- ---- what is spelled is read

digits_text : (ds : List ℕ) (n : ℕ) (u : List ℕ) → AllBelowBase 10 ds → NoDigit u → digits n (text ds ++ u) ≡ good (number_from_digits_after 10 n ds) u
digits_text [] n [] w h = refl
digits_text [] n (b ∷ u) w h = rw h refl
digits_text (d ∷ ds) n u w h =
    let low : 48 ≤ 48 + d = omega arith in
    let high : 48 + d ≤ 57 = omega arith in
    let e : 48 + d - 48 ≡ d = omega arith in
    rw (digit_is (48 + d) low high, e) (digits_text ds (n * 10 + d) u w.1 h)

-- where the first digit is not 0
number_text : (ds : List ℕ) (u : List ℕ) → AllBelowBase 10 ds → 0 < get_or ds 0 0 → NoDigit u → number (text ds ++ u) ≡ good (number_from_digits_after 10 0 ds) u
number_text [] u w p h = absurd (omega arith)
number_text (d ∷ ds) u w p h =
    let low : 48 ≤ 48 + d = omega arith in
    let high : 48 + d ≤ 57 = omega arith in
    let e : 48 + d - 48 ≡ d = omega arith in
    let ne : d ≡ 0 → ⊥ = omega arith in
    let z : 0 * 10 + d ≡ d = omega arith in
    rw (digit_is (48 + d) low high, e, ne_eqb d 0 ne) (digits_text ds d u w.1 h ∙ ap (λ x. good (number_from_digits_after 10 x ds) u) (sym z))

zero_reads : (u : List ℕ) → NoDigit u → after_zero u ≡ good 0 u
zero_reads [] h = refl
zero_reads (b ∷ u) h = rw h refl

pub number_reads : (k : ℕ) (u : List ℕ) → NoDigit u → number (spelled k ++ u) ≡ good k u
number_reads k u h =
    ⊎_elim
    (λ z. ap (λ x. number (spelled x ++ u)) z ∙ zero_reads u h ∙ ap (λ x. good x u) (sym z))
    (λ n.
    let p : 0 < k = omega arith in
    let w = all_below_base_digits_of 10 k (omega arith) in
    ap (λ l. number (l ++ u)) (spelled_some k p) ∙ number_text (digits_of 10 k) u w (first_digits_of 10 k (omega arith) p) h ∙ ap (λ x. good x u) (number_digits_of 10 k (omega arith)))
    (cases_eq k 0)

-- a number begins with a digit
pub record Begins (k : ℕ) : Type 0 where
  pub first : ℕ
  pub others : List ℕ
  pub is : spelled k ≡ first ∷ others
  pub low : 48 ≤ first
  pub high : first ≤ 57

begins_text : (k : ℕ) (ds : List ℕ) → spelled k ≡ text ds → AllBelowBase 10 ds → 0 < get_or ds 0 0 → Begins k
begins_text k [] e w p = absurd (omega arith)
begins_text k (d ∷ ds) e w p = record { first = 48 + d; others = text ds; is = e; low = omega arith; high = omega arith }

pub begins : (k : ℕ) → Begins k
begins k =
    ⊎_elim
    (λ z. record { first = 48; others = []; is = ap spelled z; low = omega arith; high = omega arith })
    (λ n.
    let p : 0 < k = omega arith in
    begins_text k (digits_of 10 k) (spelled_some k p) (all_below_base_digits_of 10 k (omega arith)) (first_digits_of 10 k (omega arith) p))
    (cases_eq k 0)
