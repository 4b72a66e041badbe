-- Words and numbers have no quotes, and numbers past every limit are alike.
use Rattle.std.specs.Prelude.{◌≡◌, ℕ, zero, suc, ◌+◌, ◌-◌, ◌*◌, ◌<◌, ◌≤◌, min, Bool, true, false, cond, not, ◌&&◌, List, [], ◌∷◌, length, pos, negsuc, Some, None, Option, Result, ◌==◌, nat_eq, nat_le, refl}
use Rattle.std.proofs.Common.{sym, ap, ◌∙◌, ⊎_elim, arith}
use Rattle.std.proofs.lemmas.Bool.{cases_Bool, cases_lt, eqb-true, eqb-false, ne_eqb, lt-leb, le-ltb, and_parts, not-true, cond_both}
use Rattle.std.specs.Str.{bytes_eq}
use Rattle.std.specs.Char.{is_ascii_digit}
use Rattle.plant.specs.declared.refusal.Reason.{Reason}
use Rattle.tables.specs.Laws.{single}
use Rattle.tables.specs.Numerals.{digits, numeral, capped, plus, minus, signed_by}
use Rattle.rows.specs.Fields.{clean, cap, limited, limitedℤ, marked, need}

digits_single : (x : List ℕ) (n : ℕ) → digits n (single x) ≡ digits n x
digits_single [] n = refl
digits_single (b ∷ []) n = refl
digits_single (b ∷ d ∷ s) n =
    cond_both (b == 34) _ _ (λ l. digits n l ≡ digits n (b ∷ d ∷ s))
    (λ e. sym (ap (λ x. digits n (x ∷ d ∷ s)) (eqb-true b 34 e)))
    (λ e. ap (λ o. cond (is_ascii_digit b) o None) (digits_single (d ∷ s) (n * 10 + (b - 48))))

single_some : (d : ℕ) (s : List ℕ) → 0 < length (single (d ∷ s))
single_some d [] = omega arith
single_some d (e ∷ s) = cond_both (d == 34) _ _ (λ l. 0 < length l) (λ h. omega arith) (λ h. omega arith)

numeral_more : (b : ℕ) (z : List ℕ) → 0 < length z → numeral (b ∷ z) ≡ cond (b == 48) None (digits 0 (b ∷ z))
numeral_more b [] h = absurd (omega arith)
numeral_more b (e ∷ z) h = refl

numeral_quote : (z : List ℕ) → numeral (34 ∷ z) ≡ None
numeral_quote [] = refl
numeral_quote (e ∷ z) = refl

pub numeral_single : (x : List ℕ) → numeral (single x) ≡ numeral x
numeral_single [] = refl
numeral_single (b ∷ []) = refl
numeral_single (b ∷ d ∷ s) =
    cond_both (b == 34) _ _ (λ l. numeral l ≡ numeral (b ∷ d ∷ s))
    (λ e. numeral_quote (single s) ∙ sym (ap (λ x. numeral (x ∷ d ∷ s)) (eqb-true b 34 e)))
    (λ e. numeral_more b (single (d ∷ s)) (single_some d s) ∙ ap (λ o. cond (b == 48) None (cond (is_ascii_digit b) o None)) (digits_single (d ∷ s) (0 * 10 + (b - 48))))

pub cap_single : (x : List ℕ) → cap (single x) ≡ cap x
cap_single x = ap capped (numeral_single x)

signed_at : (num : List ℕ → Option ℕ) (b d : ℕ) (s l : List ℕ) → ((b == 34) ≡ true → l ≡ 34 ∷ single s) → ((b == 34) ≡ false → l ≡ b ∷ single (d ∷ s)) → ((x : List ℕ) → num (single x) ≡ num x) → num l ≡ num (b ∷ d ∷ s) → signed_by num l ≡ signed_by num (b ∷ d ∷ s)
signed_at num b d s l yes34 no34 h e =
    ⊎_elim
    (λ q.
    let is = eqb-true b 34 q in
    ap (signed_by num) (yes34 q) ∙ ap plus (ap num (sym (yes34 q)) ∙ e) ∙ ap (λ t. cond t (minus (num (d ∷ s))) (plus (num (b ∷ d ∷ s)))) (sym (ap (λ x. nat_eq x 45) is)))
    (λ q. ap (signed_by num) (no34 q) ∙ (λ i. cond (b == 45) (minus (h (d ∷ s) i)) (plus ((ap num (sym (no34 q)) ∙ e) i))))
    (cases_Bool (b == 34))

pub signed_single : (num : List ℕ → Option ℕ) → ((x : List ℕ) → num (single x) ≡ num x) → (x : List ℕ) → signed_by num (single x) ≡ signed_by num x
signed_single num h [] = refl
signed_single num h (b ∷ []) = refl
signed_single num h (b ∷ d ∷ s) = signed_at num b d s (single (b ∷ d ∷ s)) (λ q. rw q refl) (λ q. rw q refl) h (h (b ∷ d ∷ s))

and_false : (t : Bool) → t ≡ false → (u : Bool) → (t && u) ≡ false
and_false t e u = ap (λ x. x && u) e

pub same_single : (x w : List ℕ) → clean w ≡ true → bytes_eq (single x) w ≡ bytes_eq x w
same_single [] w c = refl
same_single (b ∷ []) w c = refl
same_single (b ∷ d ∷ s) [] c = cond_both (b == 34) _ _ (λ l. bytes_eq l [] ≡ false) (λ e. refl) (λ e. refl)
same_single (b ∷ d ∷ s) (y ∷ ys) c =
    let both = and_parts (not (y == 34)) (clean ys) c in
    let ne = eqb-false y 34 (not-true (y == 34) both.0) in
    cond_both (b == 34) _ _ (λ l. bytes_eq l (y ∷ ys) ≡ bytes_eq (b ∷ d ∷ s) (y ∷ ys))
    (λ e.
    let q = eqb-true b 34 e in
    let n : b ≡ y → ⊥ = omega arith in
    let m : 34 ≡ y → ⊥ = omega arith in
    and_false (34 == y) (ne_eqb 34 y m) (bytes_eq (single s) ys) ∙ sym (and_false (b == y) (ne_eqb b y n) (bytes_eq (d ∷ s) ys)))
    (λ e. ap (λ t. (b == y) && t) (same_single (d ∷ s) ys both.1))

-- a number past the limits is refused as any other
pub limited_capped : (most : ℕ) → most < 1000000001 → (o : Option ℕ) → limited most (capped o) ≡ limited most o
limited_capped most h None = refl
limited_capped most h (Some n) =
    ⊎_elim
    (λ lt. let e : min n 1000000001 ≡ n = omega arith in ap (λ x. cond (nat_le x most) (Some x) None) e)
    (λ ge.
    let e : most < min n 1000000001 = omega arith in
    let f : most < n = omega arith in
    ap (λ t. cond t (Some (min n 1000000001)) None) (lt-leb (min n 1000000001) most e) ∙ sym (ap (λ t. cond t (Some n) None) (lt-leb n most f)))
    (cases_lt n 1000000001)

pub marked_capped : (o : Option ℕ) → marked (capped o) ≡ marked o
marked_capped None = refl
marked_capped (Some n) =
    ⊎_elim
    (λ lt. let e : min n 1000000001 ≡ n = omega arith in ap (λ x. marked (Some x)) e)
    (λ ge.
    let m = min n 1000000001 in
    let a : m ≡ 0 → ⊥ = omega arith in
    let b : m ≡ 1 → ⊥ = omega arith in
    let c : n ≡ 0 → ⊥ = omega arith in
    let d : n ≡ 1 → ⊥ = omega arith in
    rw (ne_eqb m 0 a, ne_eqb m 1 b, ne_eqb n 0 c, ne_eqb n 1 d) refl)
    (cases_lt n 1000000001)

plus_capped : (o : Option ℕ) → limitedℤ (plus (capped o)) ≡ limitedℤ (plus o)
plus_capped None = refl
plus_capped (Some n) =
    ⊎_elim
    (λ lt. let e : min n 1000000001 ≡ n = omega arith in ap (λ x. limitedℤ (plus (Some x))) e)
    (λ ge.
    let e : 1000000000 < min n 1000000001 = omega arith in
    let f : 1000000000 < n = omega arith in
    ap (λ t. cond t (Some (pos (min n 1000000001))) None) (lt-leb (min n 1000000001) 1000000000 e) ∙ sym (ap (λ t. cond t (Some (pos n)) None) (lt-leb n 1000000000 f)))
    (cases_lt n 1000000001)

minus_large : (n : ℕ) → 1000000000 < n → limitedℤ (minus (Some n)) ≡ None
minus_large zero h = absurd (omega arith)
minus_large (suc n) h = let g : 1000000000 ≤ n = omega arith in ap (λ t. cond t (Some (negsuc n)) None) (le-ltb n 1000000000 g)

minus_capped : (o : Option ℕ) → limitedℤ (minus (capped o)) ≡ limitedℤ (minus o)
minus_capped None = refl
minus_capped (Some n) =
    ⊎_elim
    (λ lt. let e : min n 1000000001 ≡ n = omega arith in ap (λ x. limitedℤ (minus (Some x))) e)
    (λ ge.
    let e : 1000000000 < min n 1000000001 = omega arith in
    let f : 1000000000 < n = omega arith in
    minus_large (min n 1000000001) e ∙ sym (minus_large n f))
    (cases_lt n 1000000001)

pub signed_capped : (s : List ℕ) → limitedℤ (signed_by cap s) ≡ limitedℤ (signed_by numeral s)
signed_capped [] = refl
signed_capped (b ∷ s) = cond_both (b == 45) (minus (cap s)) (plus (cap (b ∷ s))) (λ o. limitedℤ o ≡ limitedℤ (signed_by numeral (b ∷ s))) (λ e. rw e (minus_capped (numeral s))) (λ e. rw e (plus_capped (numeral (b ∷ s))))

-- a capped number of a row is its number where the number itself is
pub need_capped : {B : Type 0} (k : ℕ) → k ≤ 128 → (o : Option ℕ) (f : Bool → Result B Reason) → need (capped o) (λ n. f (n + 1 == k)) ≡ need o (λ n. f (n + 1 == k))
need_capped k h None f = refl
need_capped k h (Some n) f =
    ⊎_elim
    (λ lt. let e : min n 1000000001 ≡ n = omega arith in ap (λ x. f (x + 1 == k)) e)
    (λ ge.
    let a : min n 1000000001 + 1 ≡ k → ⊥ = omega arith in
    let b : n + 1 ≡ k → ⊥ = omega arith in
    ap f (ne_eqb (min n 1000000001 + 1) k a ∙ sym (ne_eqb (n + 1) k b)))
    (cases_lt n 1000000001)
