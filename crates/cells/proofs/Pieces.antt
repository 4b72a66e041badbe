-- What the sharing rules give. Assumes nothing.
use Rattle.std.proofs.Common.{◌≡◌, ℕ, true, ◌||◌, eqb, ◌⊎◌, sym, refl, ◌∙◌, inl, inr, ⊎_elim}
use Rattle.std.proofs.lemmas.Bool.{eqb-true, eq-eqb, cases_eq, or_cases, or_left, or_right, both_ways}
use Rattle.plant.specs.Trees.{Net, Tree, leaf, series, parallel, left, right, inner, station_of, InParallel, Builds}

module _ (N : Net) where
  pub left_on : (t : Tree) → station_of N t (left N t) ≡ true
  left_on t = or_left _ _ (or_right (inner N t (left N t)) _ (eq-eqb (left N t) (left N t) refl))

  pub right_on : (t : Tree) → station_of N t (right N t) ≡ true
  right_on t = or_right (inner N t (right N t) || eqb (left N t) (right N t)) _ (eq-eqb (right N t) (right N t) refl)

  pub inner_on : (t : Tree) (i : ℕ) → inner N t i ≡ true → station_of N t i ≡ true
  inner_on t i e = or_left _ _ (or_left _ _ e)

  pub on_cases : (t : Tree) (i : ℕ) {X : Type 0} → station_of N t i ≡ true → (inner N t i ≡ true → X) → (i ≡ left N t → X) → (i ≡ right N t → X) → X
  on_cases t i e f g h = ⊎_elim (λ u. ⊎_elim f (λ v. g (sym (eqb-true _ _ v))) (or_cases (inner N t i) _ u)) (λ u. h (sym (eqb-true _ _ u))) (or_cases (inner N t i || eqb (left N t) i) _ e)

  -- what two halves in parallel share is an end
  pub shares : (a b : Tree) (i : ℕ) → InParallel N a b → station_of N a i ≡ true → station_of N b i ≡ true → (i ≡ left N a) ⊎ (i ≡ right N a)
  shares a b i fits e f = ⊎_elim (λ is. inl is) (λ ne. inr (fits.share i e f ne)) (cases_eq i (left N a))

  pub ends_differ : (t : Tree) → Builds N t → left N t ≡ right N t → ⊥
  ends_differ (leaf k) w e = w e
  ends_differ (series a b) w e = ends_differ a w.0 (w.2.share (left N a) (left_on a) (rw e (right_on b)))
  ends_differ (parallel a b) w e = ends_differ a w.0 e

  -- the ends are not inner
  pub left_not_inner : (t : Tree) → Builds N t → inner N t (left N t) ≡ true → ⊥
  left_not_inner (leaf k) w e = both_ways _ refl e
  left_not_inner (series a b) w e = ⊎_elim
      (λ u. ⊎_elim (λ v. left_not_inner a w.0 v) (λ v. ends_differ a w.0 (w.2.share _ (left_on a) (inner_on b _ v))) (or_cases (inner N a (left N a)) _ u))
      (λ u. ends_differ a w.0 (sym (eqb-true _ _ u)))
      (or_cases (inner N a (left N a) || inner N b (left N a)) _ e)
  left_not_inner (parallel a b) w e = ⊎_elim (λ v. left_not_inner a w.0 v) (λ v. left_not_inner b w.1 (rw w.2.lefts at v)) (or_cases (inner N a (left N a)) _ e)

  pub right_not_inner : (t : Tree) → Builds N t → inner N t (right N t) ≡ true → ⊥
  right_not_inner (leaf k) w e = both_ways _ refl e
  right_not_inner (series a b) w e = ⊎_elim
      (λ u. ⊎_elim (λ v. ends_differ b w.1 (sym w.2.meet ∙ sym (w.2.share _ (inner_on a _ v) (right_on b)))) (λ v. right_not_inner b w.1 v) (or_cases (inner N a (right N b)) _ u))
      (λ u. ends_differ b w.1 (sym w.2.meet ∙ eqb-true _ _ u))
      (or_cases (inner N a (right N b) || inner N b (right N b)) _ e)
  right_not_inner (parallel a b) w e = ⊎_elim (λ v. right_not_inner a w.0 v) (λ v. right_not_inner b w.1 (rw w.2.rights at v)) (or_cases (inner N a (right N a)) _ e)

  -- the two insides and the middle are apart
  pub series_insides : (a b : Tree) (i : ℕ) → Builds N (series a b) → inner N a i ≡ true → inner N b i ≡ true → ⊥
  series_insides a b i w e f = let is = w.2.share i (inner_on a i e) (inner_on b i f) in right_not_inner a w.0 (rw is at e)

  pub series_first_middle : (a b : Tree) (i : ℕ) → Builds N (series a b) → inner N a i ≡ true → right N a ≡ i → ⊥
  series_first_middle a b i w e is = right_not_inner a w.0 (rw is e)

  pub series_second_middle : (a b : Tree) (i : ℕ) → Builds N (series a b) → inner N b i ≡ true → right N a ≡ i → ⊥
  series_second_middle a b i w e is = left_not_inner b w.1 (rw (sym w.2.meet ∙ is) e)

  pub parallel_insides : (a b : Tree) (i : ℕ) → Builds N (parallel a b) → inner N a i ≡ true → inner N b i ≡ true → ⊥
  parallel_insides a b i w e f = ⊎_elim (λ is. left_not_inner a w.0 (rw is at e)) (λ is. right_not_inner a w.0 (rw is at e)) (shares a b i w.2 (inner_on a i e) (inner_on b i f))
