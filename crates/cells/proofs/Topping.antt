-- The best of candidates, one index after another. Assumes nothing.
use Rattle.std.proofs.Common.{◌≡◌, ℕ, ◌+◌, ◌<◌, Bool, true, false, cond, ◌⊎◌, List, length, Some, None, Option, sym, refl, ◌∙◌, inl, inr, ⊎_elim, arith}
use Rattle.std.proofs.lemmas.Bool.{cases_lt}
use Rattle.std.proofs.lemmas.List.{get_or_past}
use Rattle.yardsticks.specs.Laws.{Ops}
use Rattle.cells.specs.Tops.{Tops, Order, cell_of, better_of, joined_of}

-- some index below i has the candidate x
abbrev pub Below : {F : Type 0} → (ℕ → F → Type 0) → ℕ → F → Type 0
Below P i x = (k : ℕ) × (k < i) × P k x

pub none_some : {F : Type 0} {X : Type 0} (m : F) → ◌≡◌ {A = Option F} None (Some m) → X
none_some m e = let z : ◌≡◌ {A = ℕ} 0 1 = cc in absurd (omega arith)

pub some_is : {F : Type 0} (x y : F) → ◌≡◌ {A = Option F} (Some x) (Some y) → x ≡ y
some_is x y e = cc

-- a cell that holds something stands below the length
pub held_within : {F : Type 0} (cells : List (Option F)) (k : ℕ) (x : F) → cell_of cells k ≡ Some x → k < length cells
held_within cells k x e = ⊎_elim (λ lt. lt) (λ ge. none_some x (sym (get_or_past cells k None ge) ∙ e)) (cases_lt k (length cells))

pub joined_parts : {F : Type 0} (plus : F → F → F) (mid : F) (a b : Option F) (x : F) → joined_of plus mid a b ≡ Some x → (p : F) × (q : F) × (a ≡ Some p) × (b ≡ Some q) × (x ≡ plus (plus p q) mid)
joined_parts plus mid None b x e = none_some x e
joined_parts plus mid (Some p) None x e = none_some x e
joined_parts plus mid (Some p) (Some q) x e = (p, q, refl, refl, cc)

pub order : {F : Type 0} {nil : F} {plus : F → F → F} {above : F → F → Bool} {size : F → ℕ} → Ops nil plus above size → Order above
order laws = record { irreflexive = laws.irreflexive; transitive = laws.transitive; tied = laws.tied }

module _ {F : Type 0} {above : F → F → Bool} where
  pub tops_none : (P : F → Type 0) → ((x : F) → P x → ⊥) → Tops above P None
  tops_none P empty = record { reached = λ m e. none_some m e; covers = λ x h. absurd (empty x h) }

  pub tops_same : {P Q : F → Type 0} {r : Option F} → ((x : F) → P x → Q x) → ((x : F) → Q x → P x) → Tops above P r → Tops above Q r
  tops_same to from t = record { reached = λ m e. to m (t.reached m e); covers = λ x q. t.covers x (from x q) }

module _ {F : Type 0} {above : F → F → Bool} (laws : Order above) where
  pub not_above_chain : (x m n : F) → above x m ≡ false → above m n ≡ false → above x n ≡ false
  not_above_chain x m n h k = grind (arith, laws.transitive m x n, laws.tied x m)

  pub above_one_way : (p q : F) → above q p ≡ true → above p q ≡ false
  above_one_way p q h = grind (arith, laws.transitive p q p, laws.irreflexive p)

  pub tops_one : (o : Option F) → Tops above (λ x. o ≡ Some x) o
  tops_one o = record { reached = λ m e. e; covers = λ x e. (x, e, laws.irreflexive x) }

  better_two : {P Q : F → Type 0} (p q : F) → Tops above P (Some p) → Tops above Q (Some q) → (b : Bool) → above q p ≡ b → Tops above (λ x. P x ⊎ Q x) (Some (cond b q p))
  better_two p q t u true e = record {
    reached = λ m f. inr (u.reached m f);
    covers = λ x. ⊎_elim
        (λ h. let c = t.covers x h in (q, refl, not_above_chain x p q (let f : c.0 ≡ p = cc in rw f at c.2) (above_one_way p q e)))
        (λ h. u.covers x h);
  }
  better_two p q t u false e = record {
    reached = λ m f. inl (t.reached m f);
    covers = λ x. ⊎_elim
        (λ h. t.covers x h)
        (λ h. let c = u.covers x h in (p, refl, not_above_chain x q p (let f : c.0 ≡ q = cc in rw f at c.2) e));
  }

  pub tops_better : {P Q : F → Type 0} (r s : Option F) → Tops above P r → Tops above Q s → Tops above (λ x. P x ⊎ Q x) (better_of above r s)
  tops_better None s t u = record {
    reached = λ m e. inr (u.reached m e);
    covers = λ x. ⊎_elim (λ h. let c = t.covers x h in none_some c.0 c.1) (λ h. u.covers x h);
  }
  tops_better (Some p) None t u = record {
    reached = λ m e. inl (t.reached m e);
    covers = λ x. ⊎_elim (λ h. t.covers x h) (λ h. let c = u.covers x h in none_some c.0 c.1);
  }
  tops_better (Some p) (Some q) t u = better_two p q t u (above q p) refl

  -- two tops of the same candidates are equal
  pub tops_unique : {P : F → Type 0} (r s : Option F) → Tops above P r → Tops above P s → r ≡ s
  tops_unique None None t u = refl
  tops_unique None (Some q) t u = let c = t.covers q (u.reached q refl) in none_some c.0 c.1
  tops_unique (Some p) None t u = let c = u.covers p (t.reached p refl) in none_some c.0 c.1
  tops_unique (Some p) (Some q) t u =
      let c = t.covers q (u.reached q refl) in
      let d = u.covers p (t.reached p refl) in
      let m : c.0 ≡ p = cc in
      let n : d.0 ≡ q = cc in
      let e : p ≡ q = laws.tied p q (rw n at d.2) (rw m at c.2) in
      cc

  -- a loop's step
  pub tops_step : (P : ℕ → F → Type 0) (i : ℕ) (r s : Option F) → Tops above (Below P i) r → Tops above (P i) s → Tops above (Below P (i + 1)) (better_of above r s)
  tops_step P i r s t u = tops_same
      (λ x. ⊎_elim (λ h. (h.0, omega (arith, h.1), h.2)) (λ h. (i, omega arith, h)))
      (λ x h. ⊎_elim (λ lt. inl (h.0, lt, h.2)) (λ ge. let e : h.0 ≡ i = omega (arith, h.1) in inr (rw e at h.2)) (cases_lt h.0 i))
      (tops_better r s t u)
