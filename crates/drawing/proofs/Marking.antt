-- Stations as marks, and how many marks are set. Assumes nothing.
use Rattle.std.proofs.Common.{◌≡◌, ℕ, ◌+◌, ◌<◌, Bool, true, false, cond, List, length, get_or, set, Decides, sym, refl, ap, ◌∙◌, subst, ⊎_elim, arith}
use Rattle.std.proofs.lemmas.List.FromFn.{fill_by_all, length-map-range_with_len, get_or-map-range_with_len}
use Rattle.std.proofs.lemmas.List.{get_or_past, get_or_default}
use Rattle.std.proofs.lemmas.List.FromFn.{length-enumerate_from, get_or-enumerate_from}
use Rattle.std.proofs.lemmas.List.Sums.{sum_by-set}
use Rattle.std.proofs.lemmas.Slice.Zip.{length-zip, get_or-zip}
use Rattle.std.proofs.lemmas.Bool.{cases_lt}
use Rattle.std.specs.List.{enumerate_from, zip, AllWithin, HoldsAt}
use Rattle.std.proofs.lemmas.Bool.{false≢true}
use Rattle.std.specs.Array.{IsFromFnResult}
use Rattle.std.specs.Bool.{MatchBool}
use denote.Param.Members.{Mut, Called}
use Rattle.plant.proofs.Made.{made}
use Rattle.drawing.specs.Halves.{marks, tally}

pub marks_all : (f : ℕ → Bool) (xs : List Bool) → length xs ≡ 64 → ((k : ℕ) → k < 64 → get_or xs k false ≡ f k) → xs ≡ marks f
unfolding marks
marks_all f xs long all = fill_by_all f xs 64 false long all

pub length-marks : (f : ℕ → Bool) → length (marks f) ≡ 64
unfolding marks
length-marks f = length-map-range_with_len f 0 64

pub get_or-marks : (f : ℕ → Bool) (i : ℕ) → i < 64 → get_or (marks f) i false ≡ f i
unfolding marks
get_or-marks f i lt = get_or-map-range_with_len f 0 64 i i false lt (omega arith)

pub marks_same : (f g : ℕ → Bool) → ((i : ℕ) → i < 64 → f i ≡ g i) → marks f ≡ marks g
marks_same f g all = marks_all g (marks f) (length-marks f) (λ k lt. get_or-marks f k lt ∙ all k lt)

-- one mark more
pub tally_more : (xs : List Bool) (k : ℕ) → k < length xs → get_or xs k false ≡ false → tally (set xs k true) ≡ tally xs + 1
tally_more xs k lt free =
    let none : ◌≡◌ {A = ℕ} (cond (get_or xs k false) 1 0) 0 = rw free refl in
    omega (arith, sum_by-set (λ b. cond b 1 0) xs k true false lt, none)

-- an array that is made station by station
pub marks_made : {F : Type 0} (g : Mut F (ℕ × Unit {0}) Bool) (h : ℕ → Bool) (f : F) → ((i : ℕ) (y : Bool) (q : F) → i < 64 → Called g f (i, tt) y q → (y ≡ h i) × (q ≡ f)) → (xs : List Bool) → IsFromFnResult g f xs 64 → xs ≡ marks h
marks_made g h f once xs m = marks_all h xs m.long (λ k lt. made g h f 64 once xs m k false lt)

-- what `all` answers decides a fact that each mark bears out or one contradicts
pub decides_from_all : {P Q R : Type 0} (r : Bool) → MatchBool r P Q → (P → R) → (R → Q → ⊥) → Decides r R
decides_from_all true w holds fails = (λ e. holds w, λ h. refl)
decides_from_all false w holds fails = (λ e. absurd (false≢true e), λ h. absurd (fails h w))

marked_within : (b : List Bool) (i : ℕ) → get_or b i false ≡ true → i < length b
marked_within b i on = ⊎_elim (λ lt. lt) (λ ge. absurd (false≢true (sym (get_or_past b i false ge) ∙ on))) (cases_lt i (length b))

pair_at : (a b : List Bool) (i : ℕ) (d : ℕ × (Bool × Bool)) → i < length a → i < length b → get_or (enumerate_from 0 (zip a b)) i d ≡ (i, (get_or a i false, get_or b i false))
pair_at a b i d x y =
    let z : i < length (zip a b) = omega (arith, length-zip a b) in
    let none : 0 + i ≡ i = omega arith in
    get_or-enumerate_from 0 (zip a b) i d z ∙ ap (λ j. (j, get_or (zip a b) i d.1)) none
    ∙ ap (λ p. (i, p)) (get_or-zip a b i d.1 x y ∙ (λ k. (get_or_default a i d.1.0 false x k, get_or_default b i d.1.1 false y k)))

-- what holds of each pair of marks, by its index
pub each_pair : (P : ℕ → Bool → Bool → Type 0) (a b : List Bool) → AllWithin (λ p. P p.0 p.1.0 p.1.1) (enumerate_from 0 (zip a b)) 0 (length (enumerate_from 0 (zip a b))) → (i : ℕ) → i < length a → get_or b i false ≡ true → P i (get_or a i false) (get_or b i false)
each_pair P a b all i lt on =
    let within = marked_within b i on in
    let long : i < length (enumerate_from 0 (zip a b)) = omega (arith, length-enumerate_from 0 (zip a b), length-zip a b) in
    let d : ℕ × (Bool × Bool) = (0, (false, false)) in
    subst (λ p. P p.0 p.1.0 p.1.1) (pair_at a b i d lt within) (all i d (omega arith) long)

-- a pair of which it holds, by its index
pub some_pair : (P : ℕ → Bool → Bool → Type 0) (a b : List Bool) → (i : ℕ) × (i < length (enumerate_from 0 (zip a b))) × HoldsAt (λ p. P p.0 p.1.0 p.1.1) (enumerate_from 0 (zip a b)) i → (i : ℕ) × (i < length a) × P i (get_or a i false) (get_or b i false)
some_pair P a b w =
    let i = w.0 in
    let x : i < length a = omega (arith, w.1, length-enumerate_from 0 (zip a b), length-zip a b) in
    let y : i < length b = omega (arith, w.1, length-enumerate_from 0 (zip a b), length-zip a b) in
    let d : ℕ × (Bool × Bool) = (0, (false, false)) in
    (i, x, subst (λ p. P p.0 p.1.0 p.1.1) (pair_at a b i d x y) (w.2 d))
