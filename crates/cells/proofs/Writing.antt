-- A trace that writes its states one after another. Assumes nothing.
use Rattle.std.proofs.Common.{◌≡◌, ℕ, Bool, true, sym, ◌∙◌, subst, ⊎_elim}
use Rattle.plant.specs.Trees.{Tree, leaf, series, parallel, left, right, inner, station_of, Builds}
use Rattle.plant.specs.Selections.{Selection}
use Rattle.cells.specs.Inside.{Site, Scores}
use Rattle.cells.specs.Traces.{first_of, second_of, Leads, Cells, SeriesAttains, Traces}
use Rattle.cells.proofs.Pieces.{shares, left_on, right_on, inner_on, left_not_inner, right_not_inner}
use Rattle.cells.proofs.Gluing.{Agree, series_has_middle, first_in_series, second_in_series, first_in_parallel, second_in_parallel}

module _ (N : Site) where
  -- a half's inside and the other half are apart
  pub first_inside : (a b : Tree) (i : ℕ) → Builds N.net (series a b) → inner N.net a i ≡ true → station_of N.net b i ≡ true → ⊥
  first_inside a b i w e f = right_not_inner N.net a w.0 (rw (w.2.share i (inner_on N.net a i e) f) at e)

  pub second_inside : (a b : Tree) (i : ℕ) → Builds N.net (series a b) → station_of N.net a i ≡ true → inner N.net b i ≡ true → ⊥
  second_inside a b i w e f = left_not_inner N.net b w.1 (rw (w.2.share i e (inner_on N.net b i f) ∙ w.2.meet) at f)

  pub first_inside_parallel : (a b : Tree) (i : ℕ) → Builds N.net (parallel a b) → inner N.net a i ≡ true → station_of N.net b i ≡ true → ⊥
  first_inside_parallel a b i w e f = ⊎_elim (λ is. left_not_inner N.net a w.0 (rw is at e)) (λ is. right_not_inner N.net a w.0 (rw is at e)) (shares N.net a b i w.2 (inner_on N.net a i e) f)

  pub second_inside_parallel : (a b : Tree) (i : ℕ) → Builds N.net (parallel a b) → station_of N.net a i ≡ true → inner N.net b i ≡ true → ⊥
  second_inside_parallel a b i w e f = ⊎_elim (λ is. let q : i ≡ left N.net b = is ∙ w.2.lefts in left_not_inner N.net b w.1 (rw q at f)) (λ is. let q : i ≡ right N.net b = is ∙ w.2.rights in right_not_inner N.net b w.1 (rw q at f)) (shares N.net a b i w.2 e (inner_on N.net b i f))

  -- a trace depends on the piece's stations alone
  pub same_traces : {F : Type 0} (P : Scores F) (nil : F) (plus : F → F → F) (cells : Cells F) (v : ℕ) (t : Tree) (l r : Bool) (h : ℕ) (S T : Selection) → Builds N.net t → Agree N t S T → Traces nil plus N P cells v t l r h S → Traces nil plus N P cells v t l r h T
  same_traces P nil plus cells v (leaf k) l r h S T w same x = (sym (same _ (left_on N.net (leaf k))) ∙ x.0, sym (same _ (right_on N.net (leaf k))) ∙ x.1, x.2)
  same_traces P nil plus cells v (series a b) l r h S T w same x =
      let e : S (right N.net a) ≡ T (right N.net a) = same (right N.net a) (inner_on N.net (series a b) _ (series_has_middle N a b)) in
      let i = x.1 in
      let j = x.2 in
      let xa = same_traces P nil plus cells (first_of v b) a l (S (right N.net a)) i S T w.0 (λ s u. same s (first_in_series N a b s u)) x.6 in
      let xb = same_traces P nil plus cells (second_of v) b (S (right N.net a)) r j S T w.1 (λ s u. same s (second_in_series N a b s w.2.meet u)) x.7 in (
        x.0,
        i,
        j,
        x.3,
        subst (λ u. SeriesAttains nil plus N P cells v a b l r h x.0 u i j) e x.4,
        (λ m i' j' u. subst (λ u. Leads u i m i') e (x.5 m i' j' u)),
        subst (λ u. Traces nil plus N P cells (first_of v b) a l u i T) e xa,
        subst (λ u. Traces nil plus N P cells (second_of v) b u r j T) e xb,
      )
  same_traces P nil plus cells v (parallel a b) l r h S T w same x = (
    x.0,
    x.1,
    x.2,
    x.3,
    x.4,
    x.5,
    same_traces P nil plus cells (first_of v b) a l r x.1 S T w.0 (λ s u. same s (first_in_parallel N a b s u)) x.6,
    same_traces P nil plus cells (second_of v) b l r x.2 S T w.1 (λ s u. same s (second_in_parallel N a b s w.2 u)) x.7,
  )
