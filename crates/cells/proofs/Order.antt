-- The line-up is a strict order, and total up to what is the same inside. Assumes nothing.
use Rattle.std.proofs.Common.{◌≡◌, ℕ, ◌<◌, Bool, true, false, ◌⊎◌, sym, refl, ◌∙◌, inl, inr, ⊎_elim, arith}
use Rattle.std.proofs.lemmas.Bool.{cases_order, or_left, or_right, or_cases, both_ways}
use Rattle.plant.specs.Trees.{Tree, leaf, series, parallel, right, inner}
use Rattle.plant.specs.Selections.{Selection}
use Rattle.cells.specs.Inside.{Site, inner_hours}
use Rattle.cells.specs.LineUp.{Same, ShutBefore, Before, NotAfter, Alike, WholeBefore}
use Rattle.cells.proofs.Gluing.{series_has_middle, series_has_first, series_has_second, series_inner_cases}

cases_states : (s t : Bool) → ShutBefore s t ⊎ ((s ≡ t) ⊎ ShutBefore t s)
cases_states true true = inr (inl refl)
cases_states true false = inr (inr (refl, refl))
cases_states false true = inl (refl, refl)
cases_states false false = inr (inl refl)

states_clash : (s t : Bool) → ShutBefore s t → s ≡ t → ⊥
states_clash s t h e = both_ways t (sym e ∙ h.0) h.1

states_turn : (s t : Bool) → ShutBefore s t → ShutBefore t s → ⊥
states_turn s t h k = both_ways s h.0 k.1

module _ (N : Site) where
  -- one selection before another by a first part, and then by a second
  abbrev Then : Tree → Tree → Selection → Selection → Type 0
  Then a b S T = (inner_hours N a S < inner_hours N a T) ⊎ ((inner_hours N a S ≡ inner_hours N a T) × (Before N a S T ⊎ (Same N a S T × Before N b S T)))

  same_first : (a b : Tree) (S T : Selection) → Same N (series a b) S T → Same N a S T
  same_first a b S T s i e = s i (series_has_first N a b i e)

  same_second : (a b : Tree) (S T : Selection) → Same N (series a b) S T → Same N b S T
  same_second a b S T s i e = s i (series_has_second N a b i e)

  pub same_series : (a b : Tree) (S T : Selection) → S (right N.net a) ≡ T (right N.net a) → Same N a S T → Same N b S T → Same N (series a b) S T
  same_series a b S T m x y i e = series_inner_cases N a b i e (x i) (y i) (λ is. rw is m)

  pub same_parallel : (a b : Tree) (S T : Selection) → Same N a S T → Same N b S T → Same N (parallel a b) S T
  same_parallel a b S T x y i e = ⊎_elim (x i) (y i) (or_cases (inner N.net a i) _ e)

  pub inside_hours : (t : Tree) (S T : Selection) → Same N t S T → inner_hours N t S ≡ inner_hours N t T
  inside_hours (leaf k) S T s = refl
  inside_hours (series a b) S T s = rw (inside_hours a S T (same_first a b S T s), inside_hours b S T (same_second a b S T s), s (right N.net a) (series_has_middle N a b))
  inside_hours (parallel a b) S T s = rw (inside_hours a S T (λ i e. s i (or_left _ _ e)), inside_hours b S T (λ i e. s i (or_right (inner N.net a i) _ e)))

  -- never before what is the same
  then_differs : (a b : Tree) (S T : Selection) → (Before N a S T → Same N a S T → ⊥) → (Before N b S T → Same N b S T → ⊥) → Then a b S T → Same N a S T → Same N b S T → ⊥
  then_differs a b S T f g c x y = ⊎_elim (λ lt. omega (arith, inside_hours a S T x)) (λ u. ⊎_elim (λ v. f v x) (λ v. g v.1 y) u.1) c

  pub before_differs : (t : Tree) (S T : Selection) → Before N t S T → Same N t S T → ⊥
  before_differs (leaf k) S T c s = c
  before_differs (series a b) S T c s = ⊎_elim
      (λ u. states_clash _ _ u (s (right N.net a) (series_has_middle N a b)))
      (λ u. then_differs a b S T (before_differs a S T) (before_differs b S T) u.1 (same_first a b S T s) (same_second a b S T s)) c
  before_differs (parallel a b) S T c s = then_differs a b S T (before_differs a S T) (before_differs b S T) c (λ i e. s i (or_left _ _ e)) (λ i e. s i (or_right (inner N.net a i) _ e))

  -- never both ways
  then_turns : (a b : Tree) (S T : Selection) → (Before N a S T → Before N a T S → ⊥) → (Before N b S T → Before N b T S → ⊥) → Then a b S T → Then a b T S → ⊥
  then_turns a b S T f g c d = ⊎_elim
      (λ lt. ⊎_elim (λ gt. omega arith) (λ v. omega (arith, v.0)) d)
      (λ u. ⊎_elim (λ gt. omega (arith, u.0))
      (λ v. ⊎_elim
      (λ x. ⊎_elim (λ y. f x y) (λ y. before_differs a S T x (λ i e. sym (y.0 i e))) v.1)
      (λ x. ⊎_elim (λ y. before_differs a T S y (λ i e. sym (x.0 i e))) (λ y. g x.1 y.1) v.1)
      u.1) d) c

  pub before_turns : (t : Tree) (S T : Selection) → Before N t S T → Before N t T S → ⊥
  before_turns (leaf k) S T c d = c
  before_turns (series a b) S T c d = ⊎_elim
      (λ u. ⊎_elim (λ v. states_turn _ _ u v) (λ v. states_clash _ _ u (sym v.0)) d)
      (λ u. ⊎_elim (λ v. states_clash _ _ v (sym u.0)) (λ v. then_turns a b S T (before_turns a S T) (before_turns b S T) u.1 v.1) d) c
  before_turns (parallel a b) S T c d = then_turns a b S T (before_turns a S T) (before_turns b S T) c d

  -- one of the three
  abbrev Three : Tree → Selection → Selection → Type 0
  Three t S T = Before N t S T ⊎ (Same N t S T ⊎ Before N t T S)

  then_cases : (a b : Tree) (S T : Selection) → Three a S T → Three b S T → Then a b S T ⊎ ((Same N a S T × Same N b S T) ⊎ Then a b T S)
  then_cases a b S T x y = ⊎_elim
      (λ eq. ⊎_elim
      (λ u. inl (inr (eq, inl u)))
      (⊎_elim
      (λ u. ⊎_elim (λ v. inl (inr (eq, inr (u, v)))) (⊎_elim (λ v. inr (inl (u, v))) (λ v. inr (inr (inr (sym eq, inr ((λ i e. sym (u i e)), v)))))) y)
      (λ u. inr (inr (inr (sym eq, inl u))))) x)
      (⊎_elim (λ lt. inl (inl lt)) (λ gt. inr (inr (inl gt)))) (cases_order (inner_hours N a S) (inner_hours N a T))

  pub before_total : (t : Tree) (S T : Selection) → Three t S T
  before_total (leaf k) S T = inr (inl (λ i e. absurd (both_ways false refl e)))
  before_total (series a b) S T = ⊎_elim
      (λ u. inl (inl u))
      (⊎_elim
      (λ m. ⊎_elim (λ u. inl (inr (m, u))) (⊎_elim (λ u. inr (inl (same_series a b S T m u.0 u.1))) (λ u. inr (inr (inr (sym m, u))))) (then_cases a b S T (before_total a S T) (before_total b S T)))
      (λ u. inr (inr (inl u)))) (cases_states (S (right N.net a)) (T (right N.net a)))
  before_total (parallel a b) S T = ⊎_elim (λ u. inl u) (⊎_elim (λ u. inr (inl (same_parallel a b S T u.0 u.1))) (λ u. inr (inr u))) (then_cases a b S T (before_total a S T) (before_total b S T))

  -- only one can be first
  pub first_unique : (t : Tree) (S T : Selection) → NotAfter N t S T → NotAfter N t T S → Same N t S T
  first_unique t S T = ⊎_elim (λ u. ⊎_elim (λ v. absurd (before_turns t S T u v)) (λ v i e. sym (v i e))) (λ u v. u)

  -- what is the same inside stands in the same place
  then_right : (a b : Tree) (S T U : Selection) → (Before N a S T → Before N a S U) → (Before N b S T → Before N b S U) → Same N a T U → Then a b S T → Then a b S U
  then_right a b S T U f g s c =
      let e = inside_hours a T U s in
      ⊎_elim (λ lt. let k : inner_hours N a S < inner_hours N a U = omega arith in inl k)
      (λ u. inr (u.0 ∙ e, ⊎_elim (λ v. inl (f v)) (λ v. inr ((λ i q. v.0 i q ∙ s i q), g v.1)) u.1)) c

  pub before_right : (t : Tree) (S T U : Selection) → Before N t S T → Same N t T U → Before N t S U
  before_right (leaf k) S T U c s = c
  before_right (series a b) S T U c s =
      let e = s (right N.net a) (series_has_middle N a b) in
      ⊎_elim (λ u. inl (u.0, sym e ∙ u.1))
      (λ u. inr (u.0 ∙ e, then_right a b S T U (λ v. before_right a S T U v (same_first a b T U s)) (λ v. before_right b S T U v (same_second a b T U s)) (same_first a b T U s) u.1)) c
  before_right (parallel a b) S T U c s =
      let x : Same N a T U = λ i e. s i (or_left _ _ e) in
      let y : Same N b T U = λ i e. s i (or_right (inner N.net a i) _ e) in
      then_right a b S T U (λ v. before_right a S T U v x) (λ v. before_right b S T U v y) x c

  then_left : (a b : Tree) (S T U : Selection) → (Before N a T U → Before N a S U) → (Before N b T U → Before N b S U) → Same N a S T → Then a b T U → Then a b S U
  then_left a b S T U f g s c =
      let e = inside_hours a S T s in
      ⊎_elim (λ lt. let k : inner_hours N a S < inner_hours N a U = omega arith in inl k)
      (λ u. inr (e ∙ u.0, ⊎_elim (λ v. inl (f v)) (λ v. inr ((λ i q. s i q ∙ v.0 i q), g v.1)) u.1)) c

  pub before_left : (t : Tree) (S T U : Selection) → Same N t S T → Before N t T U → Before N t S U
  before_left (leaf k) S T U s c = c
  before_left (series a b) S T U s c =
      let e = s (right N.net a) (series_has_middle N a b) in
      ⊎_elim (λ u. inl (e ∙ u.0, u.1))
      (λ u. inr (e ∙ u.0, then_left a b S T U (λ v. before_left a S T U (same_first a b S T s) v) (λ v. before_left b S T U (same_second a b S T s) v) (same_first a b S T s) u.1)) c
  before_left (parallel a b) S T U s c =
      let x : Same N a S T = λ i e. s i (or_left _ _ e) in
      let y : Same N b S T = λ i e. s i (or_right (inner N.net a i) _ e) in
      then_left a b S T U (λ v. before_left a S T U x v) (λ v. before_left b S T U y v) x c

  then_chain : (a b : Tree) (S T U : Selection) → (Before N a S T → Before N a T U → Before N a S U) → (Before N b S T → Before N b T U → Before N b S U) → Then a b S T → Then a b T U → Then a b S U
  then_chain a b S T U f g c d = ⊎_elim
      (λ lt. let k : inner_hours N a S < inner_hours N a U = ⊎_elim (λ v. omega arith) (λ v. omega (arith, v.0)) d in inl k)
      (λ u. ⊎_elim
      (λ lt. let k : inner_hours N a S < inner_hours N a U = omega (arith, u.0) in inl k)
      (λ v. inr (
        u.0 ∙ v.0,
        ⊎_elim
            (λ x. ⊎_elim (λ y. inl (f x y)) (λ y. inl (before_right a S T U x y.0)) v.1)
            (λ x. ⊎_elim (λ y. inl (before_left a S T U x.0 y)) (λ y. inr ((λ i q. x.0 i q ∙ y.0 i q), g x.1 y.1)) v.1)
            u.1,
      )) d) c

  pub before_chain : (t : Tree) (S T U : Selection) → Before N t S T → Before N t T U → Before N t S U
  before_chain (leaf k) S T U c d = c
  before_chain (series a b) S T U c d = ⊎_elim
      (λ u. ⊎_elim (λ v. inl (u.0, v.1)) (λ v. inl (u.0, sym v.0 ∙ u.1)) d)
      (λ u. ⊎_elim (λ v. inl (u.0 ∙ v.0, v.1)) (λ v. inr (u.0 ∙ v.0, then_chain a b S T U (before_chain a S T U) (before_chain b S T U) u.1 v.1)) d) c
  before_chain (parallel a b) S T U c d = then_chain a b S T U (before_chain a S T U) (before_chain b S T U) c d

  -- ---- whole selections
  whole_turns : (t : Tree) (S T : Selection) → WholeBefore N t S T → WholeBefore N t T S → ⊥
  whole_turns t S T c d = ⊎_elim
      (λ u. ⊎_elim (λ v. states_turn _ _ u v) (λ v. states_clash _ _ u (sym v.0)) d)
      (λ u. ⊎_elim (λ v. states_clash _ _ v (sym u.0))
      (λ v. ⊎_elim
      (λ x. ⊎_elim (λ y. states_turn _ _ x y) (λ y. states_clash _ _ x (sym y.0)) v.1)
      (λ x. ⊎_elim (λ y. states_clash _ _ y (sym x.0)) (λ y. before_turns t S T x.1 y.1) v.1)
      u.1) d) c

  -- only one whole selection can be first
  pub whole_unique : (t : Tree) (n : ℕ) (S T : Selection) → WholeBefore N t S T ⊎ Alike n S T → WholeBefore N t T S ⊎ Alike n T S → Alike n S T
  whole_unique t n S T = ⊎_elim (λ u. ⊎_elim (λ v. absurd (whole_turns t S T u v)) (λ v i lt. sym (v i lt))) (λ u v. u)
