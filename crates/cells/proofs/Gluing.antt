-- Choices of a join are choices of its halves. Assumes nothing.
use Rattle.std.proofs.Common.{◌≡◌, ℕ, ◌+◌, Bool, true, cond, ◌||◌, sym, refl, ap, ◌∙◌, ⊎_elim}
use Rattle.std.proofs.lemmas.Bool.{eqb-true, eq-eqb, cases_Bool, or_cases, or_left, or_right, cond-true, cond-false}
use Rattle.plant.specs.Trees.{Tree, leaf, series, parallel, left, right, inner, station_of, InSeries, InParallel, Builds}
use Rattle.plant.specs.Selections.{Selection}
use Rattle.cells.specs.Inside.{Site, Scores, inner_hours, inner_figure, Opens, Choice, Sums, mid_hours, SeriesChoice}
use Rattle.cells.proofs.Pieces.{shares, left_on, right_on, inner_on, on_cases}

module _ (N : Site) where
  abbrev pub Agree : Tree → Selection → Selection → Type 0
  Agree t S T = (i : ℕ) → station_of N.net t i ≡ true → S i ≡ T i

  -- a half's stations are the join's
  pub series_has_middle : (a b : Tree) → inner N.net (series a b) (right N.net a) ≡ true
  series_has_middle a b = or_right (inner N.net a (right N.net a) || inner N.net b (right N.net a)) _ (eq-eqb (right N.net a) (right N.net a) refl)

  pub series_has_first : (a b : Tree) (i : ℕ) → inner N.net a i ≡ true → inner N.net (series a b) i ≡ true
  series_has_first a b i e = or_left _ _ (or_left _ _ e)

  pub series_has_second : (a b : Tree) (i : ℕ) → inner N.net b i ≡ true → inner N.net (series a b) i ≡ true
  series_has_second a b i e = or_left _ _ (or_right (inner N.net a i) _ e)

  pub series_inner_cases : (a b : Tree) (i : ℕ) {X : Type 0} → inner N.net (series a b) i ≡ true → (inner N.net a i ≡ true → X) → (inner N.net b i ≡ true → X) → (i ≡ right N.net a → X) → X
  series_inner_cases a b i e f g h = ⊎_elim (λ u. ⊎_elim f g (or_cases (inner N.net a i) _ u)) (λ u. h (sym (eqb-true _ _ u))) (or_cases (inner N.net a i || inner N.net b i) _ e)

  pub first_in_series : (a b : Tree) (i : ℕ) → station_of N.net a i ≡ true → station_of N.net (series a b) i ≡ true
  first_in_series a b i e = on_cases N.net a i e
      (λ u. inner_on N.net (series a b) i (series_has_first a b i u))
      (λ is. rw is (left_on N.net (series a b)))
      (λ is. rw is (inner_on N.net (series a b) (right N.net a) (series_has_middle a b)))

  pub second_in_series : (a b : Tree) (i : ℕ) → right N.net a ≡ left N.net b → station_of N.net b i ≡ true → station_of N.net (series a b) i ≡ true
  second_in_series a b i meet e = on_cases N.net b i e
      (λ u. inner_on N.net (series a b) i (series_has_second a b i u))
      (λ is. rw (is ∙ sym meet) (inner_on N.net (series a b) (right N.net a) (series_has_middle a b)))
      (λ is. rw is (right_on N.net (series a b)))

  pub first_in_parallel : (a b : Tree) (i : ℕ) → station_of N.net a i ≡ true → station_of N.net (parallel a b) i ≡ true
  first_in_parallel a b i e = on_cases N.net a i e
      (λ u. inner_on N.net (parallel a b) i (or_left _ _ u))
      (λ is. rw is (left_on N.net (parallel a b)))
      (λ is. rw is (right_on N.net (parallel a b)))

  pub second_in_parallel : (a b : Tree) (i : ℕ) → InParallel N.net a b → station_of N.net b i ≡ true → station_of N.net (parallel a b) i ≡ true
  second_in_parallel a b i fits e = on_cases N.net b i e
      (λ u. inner_on N.net (parallel a b) i (or_right (inner N.net a i) _ u))
      (λ is. rw (is ∙ sym fits.lefts) (left_on N.net (parallel a b)))
      (λ is. rw (is ∙ sym fits.rights) (right_on N.net (parallel a b)))

  -- what is taken depends on the piece's stations alone
  pub same_hours : (t : Tree) (S T : Selection) → Builds N.net t → Agree t S T → inner_hours N t S ≡ inner_hours N t T
  same_hours (leaf k) S T w same = refl
  same_hours (series a b) S T w same =
      let x = same_hours a S T w.0 (λ i e. same i (first_in_series a b i e)) in
      let y = same_hours b S T w.1 (λ i e. same i (second_in_series a b i w.2.meet e)) in
      let z = same (right N.net a) (first_in_series a b _ (right_on N.net a)) in
      rw (x, y, z)
  same_hours (parallel a b) S T w same =
      let x = same_hours a S T w.0 (λ i e. same i (first_in_parallel a b i e)) in
      let y = same_hours b S T w.1 (λ i e. same i (second_in_parallel a b i w.2 e)) in
      rw (x, y)

  pub same_figure : {F : Type 0} (P : Scores F) (nil : F) (plus : F → F → F) (t : Tree) (S T : Selection) → Builds N.net t → Agree t S T → inner_figure nil plus N P t S ≡ inner_figure nil plus N P t T
  same_figure P nil plus (leaf k) S T w same = rw (same (N.net.from k) (left_on N.net (leaf k)), same (N.net.to k) (right_on N.net (leaf k)))
  same_figure P nil plus (series a b) S T w same =
      let x = same_figure P nil plus a S T w.0 (λ i e. same i (first_in_series a b i e)) in
      let y = same_figure P nil plus b S T w.1 (λ i e. same i (second_in_series a b i w.2.meet e)) in
      let z = same (right N.net a) (first_in_series a b _ (right_on N.net a)) in
      rw (x, y, z)
  same_figure P nil plus (parallel a b) S T w same =
      let x = same_figure P nil plus a S T w.0 (λ i e. same i (first_in_parallel a b i e)) in
      let y = same_figure P nil plus b S T w.1 (λ i e. same i (second_in_parallel a b i w.2 e)) in
      rw (x, y)

  pub same_opens : (t : Tree) (l r : Bool) (h : ℕ) (S T : Selection) → Builds N.net t → Agree t S T → Opens N t l r h S → Opens N t l r h T
  same_opens t l r h S T w same o = record {
    at_left = rw (← same (left N.net t) (left_on N.net t)) o.at_left;
    at_right = rw (← same (right N.net t) (right_on N.net t)) o.at_right;
    holds = λ i e. rw (← same i (inner_on N.net t i e)) (o.holds i e);
    takes = rw (← same_hours t S T w same) o.takes;
  }

  -- S on the stations of a, and T elsewhere
  abbrev pub glue : Tree → Selection → Selection → Selection
  glue a S T i = cond (station_of N.net a i) (S i) (T i)

  pub glue_first : (a : Tree) (S T : Selection) → Agree a S (glue a S T)
  glue_first a S T i e = sym (cond-true (station_of N.net a i) (S i) (T i) e)

  pub glue_series : (a b : Tree) (S T : Selection) → InSeries N.net a b → S (right N.net a) ≡ T (left N.net b) → Agree b T (glue a S T)
  glue_series a b S T fits e i on = sym (⊎_elim
      (λ u. cond-true (station_of N.net a i) (S i) (T i) u ∙ ap S (fits.share i u on) ∙ e ∙ ap T (sym (fits.share i u on ∙ fits.meet)))
      (λ u. cond-false (station_of N.net a i) (S i) (T i) u)
      (cases_Bool (station_of N.net a i)))

  pub glue_parallel : (a b : Tree) (S T : Selection) → InParallel N.net a b → S (left N.net a) ≡ T (left N.net b) → S (right N.net a) ≡ T (right N.net b) → Agree b T (glue a S T)
  glue_parallel a b S T fits e f i on = sym (⊎_elim
      (λ u. cond-true (station_of N.net a i) (S i) (T i) u ∙ ⊎_elim (λ is. ap S is ∙ e ∙ ap T (sym (is ∙ fits.lefts))) (λ is. ap S is ∙ f ∙ ap T (sym (is ∙ fits.rights))) (shares N.net a b i fits u on))
      (λ u. cond-false (station_of N.net a i) (S i) (T i) u)
      (cases_Bool (station_of N.net a i)))

  -- one selection, on the join and on its halves
  pub series_first : (a b : Tree) (l r : Bool) (h : ℕ) (S : Selection) → Opens N (series a b) l r h S → Opens N a l (S (right N.net a)) (inner_hours N a S) S
  series_first a b l r h S o = record { at_left = o.at_left; at_right = refl; holds = λ i e. o.holds i (series_has_first a b i e); takes = refl }

  pub series_second : (a b : Tree) (l r : Bool) (h : ℕ) (S : Selection) → right N.net a ≡ left N.net b → Opens N (series a b) l r h S → Opens N b (S (right N.net a)) r (inner_hours N b S) S
  series_second a b l r h S meet o = record { at_left = ap S (sym meet); at_right = o.at_right; holds = λ i e. o.holds i (series_has_second a b i e); takes = refl }

  pub series_both : (a b : Tree) (l m r : Bool) (i j h : ℕ) (S : Selection) → N.keeps (right N.net a) m ≡ true → i + j + mid_hours N (right N.net a) m ≡ h → Opens N a l m i S → Opens N b m r j S → Opens N (series a b) l r h S
  series_both a b l m r i j h S keeps sum o u = record {
    at_left = o.at_left;
    at_right = u.at_right;
    holds = λ k e. series_inner_cases a b k e (o.holds k) (u.holds k) (λ is. rw (is, o.at_right) keeps);
    takes = rw (o.takes, u.takes, o.at_right) sum;
  }

  pub parallel_first : (a b : Tree) (l r : Bool) (h : ℕ) (S : Selection) → Opens N (parallel a b) l r h S → Opens N a l r (inner_hours N a S) S
  parallel_first a b l r h S o = record { at_left = o.at_left; at_right = o.at_right; holds = λ i e. o.holds i (or_left _ _ e); takes = refl }

  pub parallel_second : (a b : Tree) (l r : Bool) (h : ℕ) (S : Selection) → InParallel N.net a b → Opens N (parallel a b) l r h S → Opens N b l r (inner_hours N b S) S
  parallel_second a b l r h S fits o = record { at_left = rw (← fits.lefts) o.at_left; at_right = rw (← fits.rights) o.at_right; holds = λ i e. o.holds i (or_right (inner N.net a i) _ e); takes = refl }

  pub parallel_both : (a b : Tree) (l r : Bool) (i j h : ℕ) (S : Selection) → i + j + 0 ≡ h → Opens N a l r i S → Opens N b l r j S → Opens N (parallel a b) l r h S
  parallel_both a b l r i j h S sum o u = record {
    at_left = o.at_left;
    at_right = o.at_right;
    holds = λ k e. ⊎_elim (o.holds k) (u.holds k) (or_cases (inner N.net a k) _ e);
    takes = rw (o.takes, u.takes) sum;
  }

  -- ---- the gluing lemmas
  module _ {F : Type 0} (P : Scores F) (nil : F) (plus : F → F → F) where
    pub series_parts : (a b : Tree) (l r : Bool) (h : ℕ) (x : F) → Builds N.net (series a b) → Choice nil plus N P (series a b) l r h x → SeriesChoice nil plus N P a b l r h x
    series_parts a b l r h x w c =
        let S = c.0 in
        let o = c.1 in (
          S (right N.net a),
          o.holds (right N.net a) (series_has_middle a b),
          (inner_hours N a S, inner_hours N b S, inner_figure nil plus N P a S, inner_figure nil plus N P b S, o.takes, (S, series_first a b l r h S o, refl), (S, series_second a b l r h S w.2.meet o, refl), c.2),
        )

    pub series_whole : (a b : Tree) (l r : Bool) (h : ℕ) (x : F) → Builds N.net (series a b) → SeriesChoice nil plus N P a b l r h x → Choice nil plus N P (series a b) l r h x
    series_whole a b l r h x w s =
        let m = s.0 in
        let S = s.2.5.0 in
        let T = s.2.6.0 in
        let o = s.2.5.1 in
        let u = s.2.6.1 in
        let G = glue a S T in
        let first : Agree a S G = glue_first a S T in
        let second : Agree b T G = glue_series a b S T w.2 (o.at_right ∙ sym u.at_left) in
        let o' = same_opens a l m s.2.0 S G w.0 first o in
        let u' = same_opens b m r s.2.1 T G w.1 second u in (
          G,
          series_both a b l m r s.2.0 s.2.1 h G s.1 s.2.4 o' u',
          rw (s.2.7, s.2.5.2, s.2.6.2, same_figure P nil plus a S G w.0 first, same_figure P nil plus b T G w.1 second, o'.at_right),
        )

    pub parallel_parts : (a b : Tree) (l r : Bool) (h : ℕ) (x : F) → Builds N.net (parallel a b) → Choice nil plus N P (parallel a b) l r h x → Sums plus (Choice nil plus N P a l r) (Choice nil plus N P b l r) nil 0 h x
    parallel_parts a b l r h x w c =
        let S = c.0 in
        let o = c.1 in
        (inner_hours N a S, inner_hours N b S, inner_figure nil plus N P a S, inner_figure nil plus N P b S, o.takes, (S, parallel_first a b l r h S o, refl), (S, parallel_second a b l r h S w.2 o, refl), c.2)

    pub parallel_whole : (a b : Tree) (l r : Bool) (h : ℕ) (x : F) → Builds N.net (parallel a b) → Sums plus (Choice nil plus N P a l r) (Choice nil plus N P b l r) nil 0 h x → Choice nil plus N P (parallel a b) l r h x
    parallel_whole a b l r h x w s =
        let S = s.5.0 in
        let T = s.6.0 in
        let o = s.5.1 in
        let u = s.6.1 in
        let G = glue a S T in
        let first : Agree a S G = glue_first a S T in
        let second : Agree b T G = glue_parallel a b S T w.2 (o.at_left ∙ sym u.at_left) (o.at_right ∙ sym u.at_right) in
        let o' = same_opens a l r s.0 S G w.0 first o in
        let u' = same_opens b l r s.1 T G w.1 second u in (
          G,
          parallel_both a b l r s.0 s.1 h G s.4 o' u',
          rw (s.7, s.5.2, s.6.2, same_figure P nil plus a S G w.0 first, same_figure P nil plus b T G w.1 second),
        )
