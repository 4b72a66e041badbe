-- A number's digits are read as the number, and nothing else is. Assumes nothing.
use Rattle.std.proofs.Common.{◌≡◌, ℕ, zero, suc, ◌+◌, ◌-◌, ◌*◌, ◌/◌, ◌%◌, ◌<◌, ◌≤◌, eqb, leb, List, [], ◌∷◌, ◌++◌, map, get_or, ℤ, pos, negsuc, Some, None, Option, sym, refl, ap, ◌∙◌, ⊎_elim, append_assoc, append-nil, arith}
use Rattle.std.specs.Int.Digits.{digits_of, number_from_digits_after, AllBelowBase}
use Rattle.std.proofs.lemmas.Int.Digits.{digits_of_step, all_below_base_digits_of, first_digits_of, number_digits_of}
use Rattle.std.proofs.lemmas.List.{map-append}
use Rattle.std.proofs.lemmas.Bool.{cases_Bool, cases_eq, eqb-true, eqb-false, ne_eqb, le-leb, leb-true, and_parts}
use Rattle.tables.specs.Numerals.{spelled, spelledℤ, digit, digits, numeral, plus, minus, signed_by, Spelled}

abbrev text : List ℕ → List ℕ
text ds = map (λ d. 48 + d) ds

-- digits are read one by one
digits_text : (ds : List ℕ) (n : ℕ) → AllBelowBase 10 ds → digits n (text ds) ≡ Some (number_from_digits_after 10 n ds)
digits_text [] n u = refl
digits_text (d ∷ ds) n u =
    let low : 48 ≤ 48 + d = omega arith in
    let high : 48 + d ≤ 57 = omega arith in
    let e : 48 + d - 48 ≡ d = omega arith in
    rw (le-leb 48 (48 + d) low, le-leb (48 + d) 57 high, e) (digits_text ds (n * 10 + d) u.1)

numeral_text : (ds : List ℕ) → AllBelowBase 10 ds → 0 < get_or ds 0 0 → numeral (text ds) ≡ digits 0 (text ds)
numeral_text [] u p = absurd (omega arith)
numeral_text (d ∷ []) u p = refl
numeral_text (d ∷ e ∷ ds) u p = let n : 48 + d ≡ 48 → ⊥ = omega arith in rw (ne_eqb (48 + d) 48 n) refl

pub spelled_some : (n : ℕ) → 0 < n → spelled n ≡ text (digits_of 10 n)
spelled_some n p = let e : n ≡ 0 → ⊥ = omega arith in rw (ne_eqb n 0 e) refl

written : (n : ℕ) → numeral (spelled n) ≡ Some n
written n =
    ⊎_elim
    (λ z. let e : spelled n ≡ 48 ∷ [] = ap spelled z in ap numeral e ∙ ap {B = Option ℕ} (λ x. Some x) (sym z))
    (λ p.
    let q : 0 < n = omega arith in
    let u = all_below_base_digits_of 10 n (omega arith) in
    ap numeral (spelled_some n q) ∙ numeral_text (digits_of 10 n) u (first_digits_of 10 n (omega arith) q) ∙ digits_text (digits_of 10 n) 0 u ∙ ap {B = Option ℕ} (λ x. Some x) (number_digits_of 10 n (omega arith)))
    (cases_eq n 0)

-- one digit more
pub spelled_more : (n b : ℕ) → 0 < n → 48 ≤ b → b ≤ 57 → spelled (n * 10 + (b - 48)) ≡ spelled n ++ b ∷ []
spelled_more n b p low high =
    let m = n * 10 + (b - 48) in
    let some : 0 < m = omega arith in
    let q : m / 10 ≡ n = omega arith in
    let r : 48 + m % 10 ≡ b = omega arith in
    spelled_some m some ∙ ap text (digits_of_step 10 m (omega arith) some) ∙ map-append (λ d. 48 + d) (digits_of 10 (m / 10)) (m % 10 ∷ []) ∙ (λ i. text (digits_of 10 (q i)) ++ r i ∷ []) ∙ ap (λ l. l ++ b ∷ []) (sym (spelled_some n p))

one_digit : (b : ℕ) → 48 ≤ b → b ≤ 57 → spelled (0 * 10 + (b - 48)) ≡ b ∷ []
one_digit b low high =
    ⊎_elim
    (λ z. let e : 0 * 10 + (b - 48) ≡ 0 = omega arith in ap spelled e ∙ ap (λ x. x ∷ []) (sym z))
    (λ n.
    let m = 0 * 10 + (b - 48) in
    let some : 0 < m = omega arith in
    let q : m / 10 ≡ 0 = omega arith in
    let r : 48 + m % 10 ≡ b = omega arith in
    spelled_some m some ∙ ap text (digits_of_step 10 m (omega arith) some) ∙ map-append (λ d. 48 + d) (digits_of 10 (m / 10)) (m % 10 ∷ []) ∙ (λ i. text (digits_of 10 (q i)) ++ r i ∷ []))
    (cases_eq b 48)

record First (b : ℕ) (s : List ℕ) (m n : ℕ) : Type 0 where
  low : 48 ≤ b
  high : b ≤ 57
  rest : digits (m * 10 + (b - 48)) s ≡ Some n

first_digit : (b : ℕ) (s : List ℕ) (m n : ℕ) → digits m (b ∷ s) ≡ Some n → First b s m n
first_digit b s m n e =
    ⊎_elim
    (λ d. let both = and_parts (leb 48 b) (leb b 57) d in record { low = leb-true 48 b both.0; high = leb-true b 57 both.1; rest = rw d at e })
    (λ d. let f = rw d at e in cc)
    (cases_Bool (digit b))

digits_read : (s : List ℕ) (m n : ℕ) → 0 < m → digits m s ≡ Some n → spelled m ++ s ≡ spelled n
digits_read [] m n p e = let f : m ≡ n = cc in append-nil (spelled m) ∙ ap spelled f
digits_read (b ∷ s) m n p e =
    let f = first_digit b s m n e in
    let q : 0 < m * 10 + (b - 48) = omega arith in
    sym (ap (λ l. l ++ s) (spelled_more m b p f.low f.high) ∙ append_assoc (spelled m) (b ∷ []) s) ∙ digits_read s (m * 10 + (b - 48)) n q f.rest

read : (s : List ℕ) (n : ℕ) → numeral s ≡ Some n → s ≡ spelled n
read [] n e = cc
read (b ∷ []) n e =
    let f = first_digit b [] 0 n e in
    let last : 0 * 10 + (b - 48) ≡ n = cc in
    sym (one_digit b f.low f.high) ∙ ap spelled last
read (b ∷ d ∷ s) n e =
    ⊎_elim
    (λ z. let f = rw z at e in cc)
    (λ z.
    let f = first_digit b (d ∷ s) 0 n (rw z at e) in
    let ne = eqb-false b 48 z in
    let p : 0 < 0 * 10 + (b - 48) = omega (arith, f.low) in
    ap (λ l. l ++ d ∷ s) (sym (one_digit b f.low f.high)) ∙ digits_read (d ∷ s) (0 * 10 + (b - 48)) n p f.rest)
    (cases_Bool (eqb b 48))

-- what a number is read from does not begin with a minus
no_minus : (s : List ℕ) (n : ℕ) → numeral s ≡ Some n → signed_by numeral s ≡ Some (pos n)
no_minus [] n e = cc
no_minus (b ∷ s) n e =
    ⊎_elim
    (λ h. let f = minus_none b s (eqb-true b 45 h) in cc)
    (λ h. rw h (ap plus e))
    (cases_Bool (eqb b 45))
  where
    minus_none : (b : ℕ) (s : List ℕ) → b ≡ 45 → numeral (b ∷ s) ≡ None
    minus_none b [] h = ap (λ x. numeral (x ∷ [])) h
    minus_none b (d ∷ s) h = ap (λ x. numeral (x ∷ d ∷ s)) h

writtenℤ : (z : ℤ) → signed_by numeral (spelledℤ z) ≡ Some z
writtenℤ (pos n) = no_minus (spelled n) n (written n)
writtenℤ (negsuc n) = ap minus (written (suc n))

record Minus (o : Option ℕ) (z : ℤ) : Type 0 where
  n : ℕ
  some : o ≡ Some (suc n)
  is : z ≡ negsuc n

minus_some : (o : Option ℕ) (z : ℤ) → minus o ≡ Some z → Minus o z
minus_some None z e = cc
minus_some (Some zero) z e = cc
minus_some (Some (suc n)) z e = record { n = n; some = refl; is = cc }

record Plus (o : Option ℕ) (z : ℤ) : Type 0 where
  n : ℕ
  some : o ≡ Some n
  is : z ≡ pos n

plus_some : (o : Option ℕ) (z : ℤ) → plus o ≡ Some z → Plus o z
plus_some None z e = cc
plus_some (Some n) z e = record { n = n; some = refl; is = cc }

readℤ : (s : List ℕ) (z : ℤ) → signed_by numeral s ≡ Some z → s ≡ spelledℤ z
readℤ [] z e = cc
readℤ (b ∷ s) z e =
    ⊎_elim
    (λ h. let m = minus_some (numeral s) z (rw h at e) in (λ i. eqb-true b 45 h i ∷ read s (suc m.n) m.some i) ∙ ap spelledℤ (sym m.is))
    (λ h. let m = plus_some (numeral (b ∷ s)) z (rw h at e) in read (b ∷ s) m.n m.some ∙ ap spelledℤ (sym m.is))
    (cases_Bool (eqb b 45))

pub spelled_law : Spelled
spelled_law = record { written = written; read = read; writtenℤ = writtenℤ; readℤ = readℤ }
