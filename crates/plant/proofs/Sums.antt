-- The step of a sum by number, and how large sums get.
use Rattle.std.proofs.Common.{◌≡◌, ℕ, zero, suc, ◌+◌, ◌≤◌, Bool, true, false, cond, not, ◌&&◌, List, length, sym, refl, ap, ◌∙◌, add-one, arith}
use Rattle.std.proofs.lemmas.Bool.{false≢true}
use Rattle.plant.specs.declared.records.Station.{Station}
use Rattle.plant.specs.Records.{station}
use Rattle.plant.specs.Selections.{upto, open_station, hours}

pub upto_more : {F : Type 0} (nil : F) (plus : F → F → F) (f : ℕ → F) (n : ℕ) → upto nil plus f (n + 1) ≡ plus (upto nil plus f n) (f n)
upto_more nil plus f n = rw add-one

-- what counts or not is no larger than where it counts
pub cond_small : (b : Bool) (x w : ℕ) → x ≤ w → cond b x 0 ≤ w
cond_small true x w h = h
cond_small false x w h = omega arith

-- ---- what a selection takes is what a part of it takes and what the rest does

part_of : (b t : Bool) (x : ℕ) → (t ≡ true → b ≡ true) → cond b x 0 ≡ cond t x 0 + cond (b && not t) x 0
part_of true true x h = omega arith
part_of true false x h = omega arith
part_of false false x h = omega arith
part_of false true x h = absurd (false≢true (h refl))

upto_split : (f g h : ℕ → ℕ) (n : ℕ) → ((i : ℕ) → f i ≡ g i + h i) → upto 0 ◌+◌ f n ≡ upto 0 ◌+◌ g n + upto 0 ◌+◌ h n
upto_split f g h zero e = refl
upto_split f g h (suc n) e = omega (arith, upto_split f g h n e, e n)

pub hours_split : (ss : List Station) (S T R : ℕ → Bool) → ((k : ℕ) → T k ≡ true → S k ≡ true) → ((k : ℕ) → R k ≡ (S k && not (T k))) → hours ss S ≡ hours ss T + hours ss R
hours_split ss S T R inside rest =
    upto_split (open_station 0 (λ s. s.hours) ss S) (open_station 0 (λ s. s.hours) ss T) (open_station 0 (λ s. s.hours) ss R) (length ss)
    (λ i. part_of (S i) (T i) (station ss i).hours (inside i) ∙ ap (λ b. cond (T i) (station ss i).hours 0 + cond b (station ss i).hours 0) (sym (rest i)))
