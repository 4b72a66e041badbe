-- What `urgent_above` says, by its two ways, and the laws of pairs of a count and a gain. Assumes nothing.
use Rattle.std.specs.Prelude.{◌≡◌, ℕ, ◌+◌, ◌<◌, true, ◌⊎◌, ℤ, ◌+ℤ◌, ◌==◌, int_lt, nat_lt}
use Rattle.std.proofs.Common.{inl, inr, refl, ⊎_elim, arith}
use Rattle.std.proofs.lemmas.Int.{ints}
use Rattle.std.proofs.lemmas.Bool.{cases_eq, eq-eqb, ne_eqb, ltb-true}
use Rattle.std.proofs.lemmas.Bool.Decides.{nat_tests}
use Rattle.yardsticks.specs.Laws.{Ops}
use Rattle.yardsticks.specs.Models.{urgent_zero, urgent_above, urgent_plus, urgent_size}
use Rattle.yardsticks.specs.declared.figures.UrgentGain.{UrgentGain}

pub pair : {c d : ℕ} {x y : ℤ} → c ≡ d → x ≡ y → ◌≡◌ {A = UrgentGain} (record { urgent = c; gain = x }) (record { urgent = d; gain = y })
pair e f = cc

-- more urgent stations, or as many and more gain
pub Ways : UrgentGain → UrgentGain → Type 0
Ways a b = (b.urgent < a.urgent) ⊎ ((a.urgent ≡ b.urgent) × (int_lt b.gain a.gain ≡ true))

pub ways : (a b : UrgentGain) → urgent_above a b ≡ true → Ways a b
unfolding Ways
ways a b h = ⊎_elim (λ e. inr (e, rw (eq-eqb a.urgent b.urgent e) at h)) (λ n. inl (ltb-true _ _ (rw (ne_eqb a.urgent b.urgent n) at h))) (cases_eq a.urgent b.urgent)

pub from_ways : (a b : UrgentGain) → Ways a b → urgent_above a b ≡ true
unfolding Ways
from_ways a b = ⊎_elim (λ lt. grind (arith, nat_tests)) (λ p. rw (eq-eqb a.urgent b.urgent p.0) p.1)

pub ways_chain : (a b c : UrgentGain) → Ways a b → Ways b c → Ways a c
unfolding Ways
ways_chain a b c = ⊎_elim (λ p. ⊎_elim (λ q. inl (omega arith)) (λ q. inl (omega arith))) (λ p. ⊎_elim (λ q. inl (omega arith)) (λ q. inr (omega arith, grind (arith, ints))))

eqb_add : (a b c : ℕ) → (a + c == b + c) ≡ (a == b)
eqb_add a b c = grind (arith, nat_tests)

ltb_add : (a b c : ℕ) → nat_lt (a + c) (b + c) ≡ nat_lt a b
ltb_add a b c = grind (arith, nat_tests)

int_lt_add : (x y z : ℤ) → int_lt (x +ℤ z) (y +ℤ z) ≡ int_lt x y
int_lt_add x y z = grind (arith, ints)

pub urgent_shift : (a b c : UrgentGain) → urgent_above (urgent_plus a c) (urgent_plus b c) ≡ urgent_above a b
urgent_shift a b c = rw (eqb_add, ltb_add, int_lt_add)

pub urgent_ops : Ops urgent_zero urgent_plus urgent_above urgent_size
urgent_ops = record {
  unit = λ a h. pair (omega arith) (omega (arith, ints));
  comm = λ a b h. pair (omega arith) (omega (arith, ints));
  assoc = λ a b c h. pair (omega arith) (omega (arith, ints));
  irreflexive = λ a. grind (arith, ints, nat_tests);
  transitive = λ a b c h k. from_ways a c (ways_chain a b c (ways a b h) (ways b c k));
  tied = λ a b h k. pair (grind (arith, nat_tests)) (grind (arith, ints, nat_tests));
  shift = λ a b c h k. urgent_shift a b c;
  size_nil = refl;
  size_plus = λ a b h. grind (arith, ints);
}
