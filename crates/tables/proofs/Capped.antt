-- Numbers read up to a limit. Assumes nothing.
use Rattle.std.proofs.Common.{◌≡◌, ℕ, ◌+◌, ◌-◌, ◌*◌, ◌<◌, ◌≤◌, min, true, false, cond, List, [], ◌∷◌, length, get_or, drop, Some, None, Option, sym, refl, ap, ◌∙◌, arith}
use Rattle.std.proofs.lemmas.List.{drop_more, drop_all}
use Rattle.std.proofs.lemmas.Bool.{cond_both}
use Rattle.std.proofs.lemmas.Bool.Decides.{nat_tests}
use Rattle.std.proofs.lemmas.Str.{digit_value_digit}
use Rattle.std.proofs.lemmas.Str.Parse.{digit_from_value}
use Rattle.std.specs.Char.{is_ascii_digit, digit_value, NotDecimalDigitIn}
use Rattle.std.specs.Int.{IsInRange}
use Rattle.tables.specs.Numerals.{digit, digits, capped}

abbrev pub up_to : ℕ → List ℕ → Option ℕ
up_to n [] = Some n
up_to n (b ∷ s) = cond (digit b) (up_to (min (n * 10 + (b - 48)) 1000000001) s) None

pub capped_digits : (s : List ℕ) (n : ℕ) → capped (digits n s) ≡ up_to (min n 1000000001) s
capped_digits [] n = refl
capped_digits (b ∷ s) n =
    let v = n * 10 + (b - 48) in
    let same : min v 1000000001 ≡ min (min n 1000000001 * 10 + (b - 48)) 1000000001 = omega arith in
    cond_both (digit b) (digits v s) None (λ x. capped x ≡ up_to (min n 1000000001) (b ∷ s))
    (λ e. rw e (capped_digits s v ∙ ap (λ m. up_to m s) same))
    (λ e. rw e refl)

some_digit : (c : ℕ) → IsInRange 48 57 c → is_ascii_digit c ≡ true
some_digit c h = grind (arith, nat_tests)

no_digit : (c : ℕ) → NotDecimalDigitIn 10 c → is_ascii_digit c ≡ false
no_digit c h = grind (arith, nat_tests)

pub digits_on : (xs : List ℕ) (i n d m : ℕ) → i < length xs → digit_value (get_or xs i 0) < 10 → d ≡ digit_value (get_or xs i 0) → m ≡ min (n * 10 + d) 1000000001 → up_to m (drop (i + 1) xs) ≡ up_to n (drop i xs)
digits_on xs i n d m lt low is e =
    let c = get_or xs i 0 in
    let range = digit_from_value c low in
    let value : d ≡ c - 48 = omega (arith, digit_value_digit c range) in
    let total : m ≡ min (n * 10 + (c - 48)) 1000000001 = omega arith in
    sym (ap (up_to n) (drop_more xs i 0 lt) ∙ ap (λ t. cond t (up_to (min (n * 10 + (c - 48)) 1000000001) (drop (i + 1) xs)) None) (some_digit c range) ∙ ap (λ k. up_to k (drop (i + 1) xs)) (sym total))

pub digits_off : (xs : List ℕ) (i n : ℕ) → i < length xs → NotDecimalDigitIn 10 (get_or xs i 0) → up_to n (drop i xs) ≡ None
digits_off xs i n lt d = ap (up_to n) (drop_more xs i 0 lt) ∙ ap (λ t. cond t (up_to (min (n * 10 + (get_or xs i 0 - 48)) 1000000001) (drop (i + 1) xs)) None) (no_digit (get_or xs i 0) d)

pub digits_all : (xs : List ℕ) (i n : ℕ) → length xs ≤ i → up_to n (drop i xs) ≡ Some n
digits_all xs i n le = ap (up_to n) (drop_all i xs le)
