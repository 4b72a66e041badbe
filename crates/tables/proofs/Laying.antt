-- Bytes laid one after another, and numbers among them.
use Rattle.std.proofs.Common.{◌≡◌, ℕ, suc, ◌+◌, ◌-◌, ◌^◌, ◌<◌, ◌≤◌, ◌⊎◌, min, List, [], ◌∷◌, ◌++◌, ℤ, pos, negsuc, length, take, drop, set, refl, sym, ap, ◌∙◌, subst, w64, SFits, to_z, of_z, inl, inr, ⊎_elim, append_assoc, arith}
use Rattle.std.proofs.lemmas.List.{length-set, length-append, length-map, take_more_set, take_all, take_min, drop_all, drop_min, drop-drop, drop-set-lt, take-append-drop, set_past}
use Rattle.std.proofs.Math.Seq.{take-nil}
use Rattle.std.proofs.lemmas.Int.Digits.{length-digits_of-le}
use Rattle.std.proofs.lemmas.Int.{to_z-of_z}
use Rattle.std.proofs.lemmas.Fmt.{decimal_digit, decimal-digits_of}
use Rattle.std.proofs.lemmas.Bool.{cases_eq, cases_lt}
use Rattle.std.specs.Fmt.{decimal, signed_decimal}
use Rattle.std.specs.Int.Signed.{mag}
use Rattle.std.specs.Int.Digits.{digits_of}
use Rattle.tables.specs.Laid.{laid, Adds}
use Rattle.tables.specs.declared.write.Writer.{Writer}
use Rattle.tables.specs.Numerals.{spelled, spelledℤ}
use Rattle.tables.proofs.Spelling.{spelled_some}

pub laid_append : (m : List ℕ) (p : ℕ) (xs ys : List ℕ) → laid m p (xs ++ ys) ≡ laid (laid m p xs) (p + length xs) ys
laid_append m p [] ys = ap (λ k. laid m k ys) (omega arith)
laid_append m p (x ∷ xs) ys = laid_append (set m p x) (p + 1) xs ys ∙ ap (λ k. laid (laid (set m p x) (p + 1) xs) k ys) (omega arith)

cases_zero : (n : ℕ) → (n ≡ 0) ⊎ (0 < n)
cases_zero n = ⊎_elim (λ e. inl e) (λ e. inr (omega arith)) (cases_eq n 0)

pub spelled_short : (n : ℕ) → n < 2 ^ 64 → length (spelled n) ≤ 20
spelled_short n h =
    ⊎_elim
    (λ z. let e : length (spelled n) ≡ 1 = ap (λ k. length (spelled k)) z in omega arith)
    (λ s. let e : length (spelled n) ≡ length (digits_of 10 n) = ap length (spelled_some n s) ∙ length-map (digits_of 10 n) (λ k. 48 + k) in omega (arith, length-digits_of-le 10 20 n (omega arith) (omega arith)))
    (cases_zero n)

-- what std prints of a number is how it is spelled
pub decimal_spelled : (n : ℕ) → n < 2 ^ 64 → decimal n ≡ spelled n
decimal_spelled n h =
    ⊎_elim
    (λ z. ap decimal z ∙ decimal_digit 0 (omega arith) ∙ sym (ap spelled z))
    (λ s. decimal-digits_of n s h ∙ sym (spelled_some n s))
    (cases_zero n)

pub signed_spelled : (z : ℤ) → mag z < 2 ^ 63 → signed_decimal z ≡ spelledℤ z
signed_spelled (pos n) h = decimal_spelled n (omega arith)
signed_spelled (negsuc n) h = ap (λ l. 45 ∷ l) (decimal_spelled (suc n) (omega arith))

pub spelledℤ_short : (z : ℤ) → mag z < 2 ^ 63 → length (spelledℤ z) ≤ 21
spelledℤ_short (pos n) h = omega (arith, spelled_short n (omega arith))
spelledℤ_short (negsuc n) h = omega (arith, spelled_short (suc n) (omega arith))

-- where bytes are laid, those stand that fit
laid_is : (m : List ℕ) (p : ℕ) (bs : List ℕ) → laid m p bs ≡ take p m ++ (take (length m - p) bs ++ drop (p + length bs) m)
laid_is m p [] = sym (ap (λ l. take p m ++ (l ++ drop (p + 0) m)) (take-nil (length m - p)) ∙ ap (λ n. take p m ++ drop n m) (omega arith) ∙ take-append-drop p m)
laid_is m p (b ∷ bs) =
    laid_is (set m p b) (p + 1) bs
    ∙ ⊎_elim
    (λ less.
    let one : length m - p ≡ suc (length (set m p b) - (p + 1)) = omega (arith, length-set m p b) in
    (λ i. take_more_set m p b less i ++ (take (length (set m p b) - (p + 1)) bs ++ drop (p + 1 + length bs) (set m p b)))
    ∙ append_assoc (take p m) (b ∷ []) (take (length (set m p b) - (p + 1)) bs ++ drop (p + 1 + length bs) (set m p b))
    ∙ ap (λ l. take p m ++ (b ∷ (take (length (set m p b) - (p + 1)) bs ++ l))) (drop-set-lt (p + 1 + length bs) m p b (omega arith) ∙ ap (λ n. drop n m) (omega arith))
    ∙ ap (λ n. take p m ++ (take n (b ∷ bs) ++ drop (p + length (b ∷ bs)) m)) (sym one))
    (λ past.
    let none : length m - p ≡ 0 = omega arith in
    let none_after : length m - (p + 1) ≡ 0 = omega arith in
    ap (λ n. take (p + 1) n ++ (take (length n - (p + 1)) bs ++ drop (p + 1 + length bs) n)) (set_past m p b past)
    ∙ (λ i. take_all (p + 1) m (omega arith) i ++ (take (none_after i) bs ++ drop_all (p + 1 + length bs) m (omega arith) i))
    ∙ sym (λ i. take_all p m past i ++ (take (none i) (b ∷ bs) ++ drop_all (p + length (b ∷ bs)) m (omega arith) i)))
    (cases_lt p (length m))

-- past the end nothing is laid
pub laid_past : (m bs : List ℕ) (p : ℕ) → length m ≤ p → laid m p bs ≡ m
laid_past m [] p h = refl
laid_past m (b ∷ bs) p h = ap (λ l. laid l (p + 1) bs) (set_past m p b h) ∙ laid_past m bs (p + 1) (omega arith)

pub laid_part : (m bs : List ℕ) (p a k : ℕ) → a ≡ min p (length m) → k ≡ min (length bs) (length m - a) → laid m p bs ≡ take a m ++ (take k bs ++ drop k (drop a m))
laid_part m bs p a k at fit =
    let few : k ≡ min (length m - p) (length bs) = omega arith in
    let end : a + k ≡ min (p + length bs) (length m) = omega arith in
    laid_is m p bs
    ∙ sym ((λ i. take (at i) m ++ (take (few i) bs ++ drop-drop k a m i))
    ∙ (λ i. take_min p m i ++ (take_min (length m - p) bs i ++ drop (end i) m))
    ∙ ap (λ l. take p m ++ (take (length m - p) bs ++ l)) (drop_min (p + length bs) m))

pub laid_whole : (m bs : List ℕ) → length bs ≤ length m → laid m 0 bs ≡ bs ++ drop (length bs) m
laid_whole m bs h = laid_is m 0 bs ∙ (λ i. take_all (length m - 0) bs (omega arith) i ++ drop (0 + length bs) m) ∙ ap (λ n. bs ++ drop n m) (omega arith)

-- what a writer laid from the start of its memory on stands there whole
pub adds_whole : (m : List ℕ) (w w' : Writer) (bs : List ℕ) → Adds w bs w' → w.at ≡ 0 → w.out.now ≡ m → length bs < 2 ^ 64 → length bs ≤ length m → w'.out.now ≡ bs ++ drop (length bs) m
adds_whole m w w' bs a start is short fits = (a.wrote (omega arith)).memory ∙ (λ i. laid (is i) (start i) bs) ∙ laid_whole m bs fits

pub adds_count : (w w' : Writer) (bs : List ℕ) → Adds w bs w' → w.at ≡ 0 → length bs < 2 ^ 64 → w'.at ≡ length bs
adds_count w w' bs a start short = let p = (a.wrote (omega arith)).place in omega arith

-- bytes added one after another
pub then : (w v u : Writer) (xs ys : List ℕ) → Adds w xs v → Adds v ys u → Adds w (xs ++ ys) u
then w v u xs ys a b =
    record {
      same_reference = b.same_reference ∙ a.same_reference;
      wrote = λ h.
          let all = length-append xs ys in
          let first = a.wrote (omega arith) in
          let second = b.wrote (omega arith) in
          record {
            memory = second.memory ∙ (λ i. laid (first.memory i) (first.place i) ys) ∙ sym (laid_append w.out.now w.at xs ys);
            place = omega arith;
          };
    }

-- a number that fits is added as it is spelled
pub number_added : (w v : Writer) (m n : ℕ) → m ≡ n → m < 2 ^ 64 → Adds w (decimal m) v → Adds w (spelled n) v
number_added w v m n e h a = subst (λ (bs : List ℕ). Adds w bs v) (decimal_spelled m h ∙ ap spelled e) a

pub integer_added : (w v : Writer) (z : ℤ) → SFits w64 z → Adds w (signed_decimal (to_z w64 (of_z w64 z))) v → Adds w (spelledℤ z) v
integer_added w v z h a = subst (λ (bs : List ℕ). Adds w bs v) (ap signed_decimal (to_z-of_z w64 z h) ∙ signed_spelled z h.sfits) a
