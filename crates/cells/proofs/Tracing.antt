-- The trace's selection is the first of the best. Assumes nothing.
use Rattle.std.proofs.Common.{◌≡◌, ℕ, ◌+◌, ◌*◌, ◌<◌, ◌≤◌, Bool, true, false, ◌⊎◌, Some, Option, sym, refl, ap, ◌∙◌, inl, inr, ⊎_elim, arith}
use Rattle.std.proofs.lemmas.Bool.{both_ways, cases_lt}
use Rattle.yardsticks.specs.Laws.{Ops, limit, record_limit}
use Rattle.cells.specs.Tops.{Tops}
use Rattle.cells.proofs.Topping.{order, not_above_chain}
use Rattle.plant.specs.Trees.{Tree, leaf, series, parallel, left, right, Builds}
use Rattle.plant.specs.Selections.{Selection}
use Rattle.cells.specs.Inside.{Site, Scores, inner_hours, inner_figure, Opens, Choice, mid_figure, mid_hours, records, Modest}
use Rattle.cells.specs.Whole.{whole_hours, figure, Whole}
use Rattle.cells.specs.LineUp.{Same, Before, NotAfter, Alike, WholeBefore}
use Rattle.cells.specs.Traces.{first_of, second_of, Cells, Solved, SeriesAttains, ParallelAttains, Traces, Picked, Reaches, RootAttains, RootTraces}
use Rattle.cells.proofs.Pieces.{left_on, right_on, inner_on, on_cases}
use Rattle.cells.proofs.Gluing.{series_has_middle, series_first, series_second, series_both, parallel_first, parallel_second, parallel_both, series_whole, parallel_whole}
use Rattle.cells.proofs.Cells.{sum_not_above, mid_size, figure_size, choice_size}
use Rattle.cells.proofs.Root.{whole_hours_is, whole_figure_is, whole_records}
use Rattle.cells.proofs.Order.{same_series, same_parallel}

module _ {F : Type 0} {nil : F} {plus : F → F → F} {above : F → F → Bool} {size : F → ℕ} (laws : Ops nil plus above size) where
  -- sums that are equal have equal parts, where no part is above its like
  pub sum_tied : (p q m n mid : F) (A B : ℕ) → size p ≤ A → size m ≤ A → size q ≤ B → size n ≤ B → A + B + size mid ≤ limit → above p m ≡ false → above q n ≡ false
      → plus (plus p q) mid ≡ plus (plus m n) mid → (p ≡ m) × (q ≡ n)
  sum_tied p q m n mid A B sp sm sq sn fits ep eq is =
      let pq : size (plus p q) ≤ A + B = omega (arith, laws.size_plus p q (omega arith)) in
      let mn : size (plus m n) ≤ A + B = omega (arith, laws.size_plus m n (omega arith)) in
      let all : above (plus m n) (plus p q) ≡ false = sym (laws.shift (plus m n) (plus p q) mid (omega arith) (omega arith)) ∙ rw is (laws.irreflexive (plus (plus m n) mid)) in
      let one : above (plus m q) (plus m n) ≡ false = rw (laws.comm m q (omega arith), laws.comm m n (omega arith)) (laws.shift q n m (omega arith) (omega arith) ∙ eq) in
      let two : above (plus p n) (plus m n) ≡ false = laws.shift p m n (omega arith) (omega arith) ∙ ep in
      let three : above (plus m q) (plus p q) ≡ false = not_above_chain (order laws) (plus m q) (plus m n) (plus p q) one all in
      let four : above (plus n p) (plus q p) ≡ false = rw (laws.comm n p (omega arith), laws.comm q p (omega arith)) (not_above_chain (order laws) (plus p n) (plus m n) (plus p q) two all) in (
        laws.tied p m ep (sym (laws.shift m p q (omega arith) (omega arith)) ∙ three),
        laws.tied q n eq (sym (laws.shift n q p (omega arith) (omega arith)) ∙ four),
      )

  -- a cell that holds p holds what a picked selection scores
  pub picked_is : (N : Site) (P : Scores F) (t : Tree) (l r : Bool) (h : ℕ) (S : Selection) (o : Option F) (p : F) → Tops above (Choice nil plus N P t l r h) o → o ≡ Some p → Picked nil plus above N P t l r h S → inner_figure nil plus N P t S ≡ p
  picked_is N P t l r h S o p top e pick =
      let c = top.covers (inner_figure nil plus N P t S) (S, pick.opens, refl) in
      let is : c.0 ≡ p = cc in
      let d = top.reached p e in
      laws.tied (inner_figure nil plus N P t S) p (rw is at c.2) (rw d.2 (pick.best d.0 d.1))

  module _ (N : Site) (P : Scores F) (modest : Modest size record_limit P) (cells : Cells F) (H : ℕ) where
    -- the node's own cells
    pub solved_at : (v : ℕ) (t : Tree) → Solved nil plus above N P cells H v t → (l r : Bool) (h : ℕ) → h ≤ H → Tops above (Choice nil plus N P t l r h) (cells v l r h)
    solved_at v (leaf k) s = s
    solved_at v (series a b) s = s.2
    solved_at v (parallel a b) s = s.2

    -- a best selection of a join goes by the halves' cells
    pub series_attains : (v : ℕ) (a b : Tree) (l r : Bool) (h : ℕ) (goal : F) (T : Selection) → Builds N.net (series a b) → records (series a b) * record_limit ≤ limit → Solved nil plus above N P cells H v (series a b) → h ≤ H
        → cells v l r h ≡ Some goal → Opens N (series a b) l r h T → inner_figure nil plus N P (series a b) T ≡ goal
        → (u : SeriesAttains nil plus N P cells v a b l r h goal (T (right N.net a)) (inner_hours N a T) (inner_hours N b T)) × (inner_figure nil plus N P a T ≡ u.1.p) × (inner_figure nil plus N P b T ≡ u.1.q)
    series_attains v a b l r h goal T w few sol hle cell o scores =
        let m = T (right N.net a) in
        let i = inner_hours N a T in
        let j = inner_hours N b T in
        let mid = mid_figure nil P (right N.net a) m in
        let sum : i + j + mid_hours N (right N.net a) m ≡ h = o.takes in
        let keeps = o.holds (right N.net a) (series_has_middle N a b) in
        let ta = solved_at (first_of v b) a sol.0 l m i (omega arith) in
        let tb = solved_at (second_of v) b sol.1 m r j (omega arith) in
        let ca = ta.covers (inner_figure nil plus N P a T) (T, series_first N a b l r h T o, refl) in
        let cb = tb.covers (inner_figure nil plus N P b T) (T, series_second N a b l r h T w.2.meet o, refl) in
        let ra = ta.reached ca.0 ca.1 in
        let rb = tb.reached cb.0 cb.1 in
        let y = plus (plus ca.0 cb.0) mid in
        let cy = (sol.2 l r h hle).covers y (series_whole N P nil plus a b l r h y w (m, keeps, (i, j, ca.0, cb.0, sum, ra, rb, refl))) in
        let is : cy.0 ≡ goal = cc in
        let za = figure_size laws N P modest a T (omega arith) in
        let zb = figure_size laws N P modest b T (omega arith) in
        let ya = choice_size laws N P modest a l m i ca.0 (omega arith) ra in
        let yb = choice_size laws N P modest b m r j cb.0 (omega arith) rb in
        let fits : records a * record_limit + records b * record_limit + size mid ≤ limit = omega (arith, mid_size laws N P modest (right N.net a) m) in
        let up : above goal y ≡ false = rw (← scores) (sum_not_above laws (inner_figure nil plus N P a T) (inner_figure nil plus N P b T) ca.0 cb.0 mid (records a * record_limit) (records b * record_limit) za ya zb yb fits ca.2 cb.2) in
        let same : goal ≡ y = laws.tied goal y up (rw is at cy.2) in
        let parts = sum_tied (inner_figure nil plus N P a T) (inner_figure nil plus N P b T) ca.0 cb.0 mid (records a * record_limit) (records b * record_limit) za ya zb yb fits ca.2 cb.2 (scores ∙ same) in
        ((keeps, record { sum = sum; p = ca.0; q = cb.0; holds_p = ca.1; holds_q = cb.1; makes = same }), parts.0, parts.1)

    pub parallel_attains : (v : ℕ) (a b : Tree) (l r : Bool) (h : ℕ) (goal : F) (T : Selection) → Builds N.net (parallel a b) → records (parallel a b) * record_limit ≤ limit → Solved nil plus above N P cells H v (parallel a b) → h ≤ H
        → cells v l r h ≡ Some goal → Opens N (parallel a b) l r h T → inner_figure nil plus N P (parallel a b) T ≡ goal
        → (u : ParallelAttains nil plus cells v a b l r h goal (inner_hours N a T) (inner_hours N b T)) × (inner_figure nil plus N P a T ≡ u.p) × (inner_figure nil plus N P b T ≡ u.q)
    parallel_attains v a b l r h goal T w few sol hle cell o scores =
        let i = inner_hours N a T in
        let j = inner_hours N b T in
        let sum : i + j + 0 ≡ h = o.takes in
        let ta = solved_at (first_of v b) a sol.0 l r i (omega arith) in
        let tb = solved_at (second_of v) b sol.1 l r j (omega arith) in
        let ca = ta.covers (inner_figure nil plus N P a T) (T, parallel_first N a b l r h T o, refl) in
        let cb = tb.covers (inner_figure nil plus N P b T) (T, parallel_second N a b l r h T w.2 o, refl) in
        let ra = ta.reached ca.0 ca.1 in
        let rb = tb.reached cb.0 cb.1 in
        let y = plus (plus ca.0 cb.0) nil in
        let cy = (sol.2 l r h hle).covers y (parallel_whole N P nil plus a b l r h y w (i, j, ca.0, cb.0, sum, ra, rb, refl)) in
        let is : cy.0 ≡ goal = cc in
        let za = figure_size laws N P modest a T (omega arith) in
        let zb = figure_size laws N P modest b T (omega arith) in
        let ya = choice_size laws N P modest a l r i ca.0 (omega arith) ra in
        let yb = choice_size laws N P modest b l r j cb.0 (omega arith) rb in
        let fits : records a * record_limit + records b * record_limit + size nil ≤ limit = omega (arith, laws.size_nil) in
        let up : above goal y ≡ false = rw (← scores) (sum_not_above laws (inner_figure nil plus N P a T) (inner_figure nil plus N P b T) ca.0 cb.0 nil (records a * record_limit) (records b * record_limit) za ya zb yb fits ca.2 cb.2) in
        let same : goal ≡ y = laws.tied goal y up (rw is at cy.2) in
        let parts = sum_tied (inner_figure nil plus N P a T) (inner_figure nil plus N P b T) ca.0 cb.0 nil (records a * record_limit) (records b * record_limit) za ya zb yb fits ca.2 cb.2 (scores ∙ same) in
        (record { sum = sum; p = ca.0; q = cb.0; holds_p = ca.1; holds_q = cb.1; makes = same }, parts.0, parts.1)

    -- the halves' line-ups, one after the other
    then_not_after : (a b : Tree) (S T : Selection) {X : Type 0} → NotAfter N a S T → NotAfter N b S T → (Before N a S T ⊎ (Same N a S T × Before N b S T) → X) → (Same N a S T → Same N b S T → X) → X
    then_not_after a b S T na nb f g = ⊎_elim (λ u. f (inl u)) (λ sa. ⊎_elim (λ u. f (inr (sa, u))) (λ sb. g sa sb) nb) na

    picked_leaf : (v : ℕ) (k : ℕ) (l r : Bool) (h : ℕ) (S : Selection) → Traces nil plus N P cells v (leaf k) l r h S → Picked nil plus above N P (leaf k) l r h S
    picked_leaf v k l r h S x = record {
      opens = record { at_left = x.0; at_right = x.1; holds = λ i e. absurd (both_ways false refl e); takes = sym x.2 };
      best = λ T o. rw (o.at_left, o.at_right, x.0, x.1) (laws.irreflexive _);
      first = λ T o e. inr (λ i e. absurd (both_ways false refl e));
    }

    picked_series : (v : ℕ) (a b : Tree) (l r : Bool) (h : ℕ) (S : Selection) → Builds N.net (series a b) → records (series a b) * record_limit ≤ limit → Solved nil plus above N P cells H v (series a b) → h ≤ H → (x : Traces nil plus N P cells v (series a b) l r h S)
        → Picked nil plus above N P a l (S (right N.net a)) x.1 S → Picked nil plus above N P b (S (right N.net a)) r x.2 S → Picked nil plus above N P (series a b) l r h S
    picked_series v a b l r h S w few sol hle x pa pb =
        let goal = x.0 in
        let i = x.1 in
        let j = x.2 in
        let m = S (right N.net a) in
        let at = x.4.1 in
        let sum : i + j + mid_hours N (right N.net a) m ≡ h = at.sum in
        let fa = picked_is N P a l m i S (cells (first_of v b) l m i) at.p (solved_at (first_of v b) a sol.0 l m i (omega arith)) at.holds_p pa in
        let fb = picked_is N P b m r j S (cells (second_of v) m r j) at.q (solved_at (second_of v) b sol.1 m r j (omega arith)) at.holds_q pb in
        let scores : inner_figure nil plus N P (series a b) S ≡ goal = rw (fa, fb) (sym at.makes) in
        record {
          opens = series_both N a b l m r i j h S x.4.0 sum pa.opens pb.opens;
          best = λ T o.
              let c = (sol.2 l r h hle).covers (inner_figure nil plus N P (series a b) T) (T, o, refl) in
              let is : c.0 ≡ goal = cc in
              rw scores (rw is at c.2);
          first = λ T o e.
              let u = series_attains v a b l r h goal T w few sol hle x.3 o (e ∙ scores) in
              let i' = inner_hours N a T in
              let j' = inner_hours N b T in
              let m' = T (right N.net a) in
              let ha = pa.opens.takes in
              let sum' : i' + j' + mid_hours N (right N.net a) m' ≡ h = o.takes in
              ⊎_elim
              (λ lead. inl (inl lead))
              (λ lead. ⊎_elim
              (λ lt. let lt' : inner_hours N a S < inner_hours N a T = omega arith in inl (inr (lead.0, inl lt')))
              (λ ge.
              let em : m ≡ m' = lead.0 in
              let ei : i ≡ i' = omega (arith, lead.1) in
              let es : mid_hours N (right N.net a) m ≡ mid_hours N (right N.net a) m' = ap (mid_hours N (right N.net a)) em in
              let ej : j ≡ j' = omega arith in
              let eh : inner_hours N a S ≡ inner_hours N a T = ha ∙ ei in
              let cp : cells (first_of v b) l m i ≡ Some u.0.1.p = ap (λ u. cells (first_of v b) l u i) em ∙ ap (cells (first_of v b) l m') ei ∙ u.0.1.holds_p in
              let cq : cells (second_of v) m r j ≡ Some u.0.1.q = ap (λ u. cells (second_of v) u r j) em ∙ ap (cells (second_of v) m' r) ej ∙ u.0.1.holds_q in
              let sp : Some u.0.1.p ≡ Some at.p = sym cp ∙ at.holds_p in
              let sq : Some u.0.1.q ≡ Some at.q = sym cq ∙ at.holds_q in
              let ep : u.0.1.p ≡ at.p = cc in
              let eq : u.0.1.q ≡ at.q = cc in
              let oa = series_first N a b l r h T o in
              let ob = series_second N a b l r h T w.2.meet o in
              let oa' : Opens N a l m i T = record { at_left = oa.at_left; at_right = sym em; holds = oa.holds; takes = sym ei } in
              let ob' : Opens N b m r j T = record { at_left = ob.at_left ∙ sym em; at_right = ob.at_right; holds = ob.holds; takes = sym ej } in
              then_not_after a b S T (pa.first T oa' (u.1 ∙ ep ∙ sym fa)) (pb.first T ob' (u.2 ∙ eq ∙ sym fb))
              (λ v. inl (inr (em, inr (eh, v)))) (λ sa sb. inr (same_series N a b S T em sa sb)))
              (cases_lt i i'))
              (x.5 m' i' j' u.0);
        }

    picked_parallel : (v : ℕ) (a b : Tree) (l r : Bool) (h : ℕ) (S : Selection) → Builds N.net (parallel a b) → records (parallel a b) * record_limit ≤ limit → Solved nil plus above N P cells H v (parallel a b) → h ≤ H → (x : Traces nil plus N P cells v (parallel a b) l r h S)
        → Picked nil plus above N P a l r x.1 S → Picked nil plus above N P b l r x.2 S → Picked nil plus above N P (parallel a b) l r h S
    picked_parallel v a b l r h S w few sol hle x pa pb =
        let goal = x.0 in
        let i = x.1 in
        let j = x.2 in
        let at = x.4 in
        let sum : i + j + 0 ≡ h = at.sum in
        let fa = picked_is N P a l r i S (cells (first_of v b) l r i) at.p (solved_at (first_of v b) a sol.0 l r i (omega arith)) at.holds_p pa in
        let fb = picked_is N P b l r j S (cells (second_of v) l r j) at.q (solved_at (second_of v) b sol.1 l r j (omega arith)) at.holds_q pb in
        let scores : inner_figure nil plus N P (parallel a b) S ≡ goal = rw (fa, fb) (sym at.makes) in
        record {
          opens = parallel_both N a b l r i j h S sum pa.opens pb.opens;
          best = λ T o.
              let c = (sol.2 l r h hle).covers (inner_figure nil plus N P (parallel a b) T) (T, o, refl) in
              let is : c.0 ≡ goal = cc in
              rw scores (rw is at c.2);
          first = λ T o e.
              let u = parallel_attains v a b l r h goal T w few sol hle x.3 o (e ∙ scores) in
              let i' = inner_hours N a T in
              let j' = inner_hours N b T in
              let ha = pa.opens.takes in
              let sum' : i' + j' + 0 ≡ h = o.takes in
              let le : i ≤ i' = x.5 i' j' u.0 in
              ⊎_elim
              (λ lt. let lt' : inner_hours N a S < inner_hours N a T = omega arith in inl (inl lt'))
              (λ ge.
              let ei : i ≡ i' = omega arith in
              let ej : j ≡ j' = omega arith in
              let eh : inner_hours N a S ≡ inner_hours N a T = ha ∙ ei in
              let cp : cells (first_of v b) l r i ≡ Some u.0.p = ap (cells (first_of v b) l r) ei ∙ u.0.holds_p in
              let cq : cells (second_of v) l r j ≡ Some u.0.q = ap (cells (second_of v) l r) ej ∙ u.0.holds_q in
              let sp : Some u.0.p ≡ Some at.p = sym cp ∙ at.holds_p in
              let sq : Some u.0.q ≡ Some at.q = sym cq ∙ at.holds_q in
              let ep : u.0.p ≡ at.p = cc in
              let eq : u.0.q ≡ at.q = cc in
              let oa = parallel_first N a b l r h T o in
              let ob = parallel_second N a b l r h T w.2 o in
              let oa' : Opens N a l r i T = record { at_left = oa.at_left; at_right = oa.at_right; holds = oa.holds; takes = sym ei } in
              let ob' : Opens N b l r j T = record { at_left = ob.at_left; at_right = ob.at_right; holds = ob.holds; takes = sym ej } in
              then_not_after a b S T (pa.first T oa' (u.1 ∙ ep ∙ sym fa)) (pb.first T ob' (u.2 ∙ eq ∙ sym fb))
              (λ v. inl (inr (eh, v))) (λ sa sb. inr (same_parallel N a b S T sa sb)))
              (cases_lt i i');
        }

    pub traced : (v : ℕ) (t : Tree) (l r : Bool) (h : ℕ) (S : Selection) → Builds N.net t → records t * record_limit ≤ limit → Solved nil plus above N P cells H v t → h ≤ H → Traces nil plus N P cells v t l r h S → Picked nil plus above N P t l r h S
    traced v (leaf k) l r h S w few sol hle x = picked_leaf v k l r h S x
    traced v (series a b) l r h S w few sol hle x = picked_series v a b l r h S w few sol hle x
        (traced (first_of v b) a l (S (right N.net a)) x.1 S w.0 (omega arith) sol.0 (omega (arith, x.4.1.sum)) x.6)
        (traced (second_of v) b (S (right N.net a)) r x.2 S w.1 (omega arith) sol.1 (omega (arith, x.4.1.sum)) x.7)
    traced v (parallel a b) l r h S w few sol hle x = picked_parallel v a b l r h S w few sol hle x
        (traced (first_of v b) a l r x.1 S w.0 (omega arith) sol.0 (omega (arith, x.4.sum)) x.6)
        (traced (second_of v) b l r x.2 S w.1 (omega arith) sol.1 (omega (arith, x.4.sum)) x.7)

    -- ---- the whole
    module _ (v : ℕ) (t : Tree) (n m : ℕ) (w : Whole N n m t) (few : (n + m) * record_limit ≤ limit) where
      -- a best selection of the whole goes by the root's cells
      pub root_attains : (goal : F) (T : Selection) → Solved nil plus above N P cells H v t → ((X : Selection) → Reaches nil plus N P n m H (figure nil plus N P n m X) X → above (figure nil plus N P n m X) goal ≡ false) → Reaches nil plus N P n m H goal T
          → (u : RootAttains nil plus N P (left N.net t) (right N.net t) H (cells v) goal (T (left N.net t)) (T (right N.net t)) (inner_hours N t T)) × (inner_figure nil plus N P t T ≡ u.p)
      root_attains goal T sol top o =
          let l = T (left N.net t) in
          let r = T (right N.net t) in
          let h = inner_hours N t T in
          let g = inner_figure nil plus N P t T in
          let L = mid_figure nil P (left N.net t) l in
          let R = mid_figure nil P (right N.net t) r in
          let sum : h + mid_hours N (left N.net t) l + mid_hours N (right N.net t) r ≡ H = sym (whole_hours_is N t n m T w) ∙ o.takes in
          let opens : Opens N t l r h T = record { at_left = refl; at_right = refl; holds = λ i e. o.held i (w.stations_within i (inner_on N.net t i e)); takes = refl } in
          let cell = solved_at v t sol l r h (omega arith) in
          let c = cell.covers g (T, opens, refl) in
          let d = cell.reached c.0 c.1 in
          let X = d.0 in
          let kl = o.held _ (w.stations_within _ (left_on N.net t)) in
          let kr = o.held _ (w.stations_within _ (right_on N.net t)) in
          let fx : figure nil plus N P n m X ≡ plus (plus c.0 L) R = rw (whole_figure_is laws N P modest X t n m w few, d.1.at_left, d.1.at_right, ← d.2) in
          let hx : whole_hours N n X ≡ H = rw (whole_hours_is N t n m X w, d.1.at_left, d.1.at_right, d.1.takes) sum in
          let held : (i : ℕ) → i < n → N.keeps i (X i) ≡ true = λ i lt. on_cases N.net t i (w.stations i lt) (d.1.holds i) (λ is. rw (is, d.1.at_left) kl) (λ is. rw (is, d.1.at_right) kr) in
          let under = top X (record { held = held; takes = hx; scores = refl }) in
          let gt : goal ≡ plus (plus g L) R = sym o.scores ∙ whole_figure_is laws N P modest T t n m w few in
          let count = whole_records N t n m w in
          let zg = figure_size laws N P modest t T (omega arith) in
          let zd = choice_size laws N P modest t l r h c.0 (omega arith) d in
          let zl = mid_size laws N P modest (left N.net t) l in
          let zr = mid_size laws N P modest (right N.net t) r in
          let zgl = laws.size_plus g L (omega arith) in
          let zdl = laws.size_plus c.0 L (omega arith) in
          let over : above c.0 g ≡ false = sym (laws.shift c.0 g L (omega arith) (omega arith)) ∙ sym (laws.shift (plus c.0 L) (plus g L) R (omega arith) (omega arith)) ∙ rw (← fx, ← gt) under in
          let is : g ≡ c.0 = laws.tied g c.0 c.2 over in
          (record { keeps_left = kl; keeps_right = kr; sum = sum; p = c.0; holds_p = c.1; makes = gt ∙ ap (λ v. plus (plus v L) R) is }, is)

      pub root_first : (goal : F) (S : Selection) → Solved nil plus above N P cells H v t → ((X : Selection) → Reaches nil plus N P n m H (figure nil plus N P n m X) X → above (figure nil plus N P n m X) goal ≡ false) → RootTraces nil plus N P v t H cells goal S
          → Reaches nil plus N P n m H goal S × ((T : Selection) → Reaches nil plus N P n m H goal T → WholeBefore N t S T ⊎ Alike n S T)
      root_first goal S sol top x =
          let l = S (left N.net t) in
          let r = S (right N.net t) in
          let h = x.h in
          let at = x.attains in
          let sum = at.sum in
          let count = whole_records N t n m w in
          let pick = traced v t l r h S w.builds (omega arith) sol (omega arith) x.below in
          let fs = picked_is N P t l r h S (cells v l r h) at.p (solved_at v t sol l r h (omega arith)) at.holds_p pick in (
            record {
              held = λ i lt. on_cases N.net t i (w.stations i lt) (pick.opens.holds i) (λ is. rw is at.keeps_left) (λ is. rw is at.keeps_right);
              takes = rw (whole_hours_is N t n m S w, pick.opens.takes) sum;
              scores = rw (whole_figure_is laws N P modest S t n m w few, fs) (sym at.makes);
            },
            λ T o.
                let u = root_attains goal T sol top o in
                let l' = T (left N.net t) in
                let r' = T (right N.net t) in
                let h' = inner_hours N t T in
                let sum' = u.0.sum in
                ⊎_elim
                (λ lead. inl (inl lead))
                (λ lead. ⊎_elim
                (λ lead'. inl (inr (lead.0, inl lead')))
                (λ er.
                let el : l ≡ l' = lead.0 in
                let e1 : mid_hours N (left N.net t) l ≡ mid_hours N (left N.net t) l' = ap (mid_hours N (left N.net t)) el in
                let e2 : mid_hours N (right N.net t) r ≡ mid_hours N (right N.net t) r' = ap (mid_hours N (right N.net t)) er in
                let eh : h ≡ h' = omega arith in
                let cp : cells v l r h ≡ Some u.0.p = ap (λ u. cells v u r h) el ∙ ap (λ u. cells v l' u h) er ∙ ap (cells v l' r') eh ∙ u.0.holds_p in
                let sp : Some u.0.p ≡ Some at.p = sym cp ∙ at.holds_p in
                let ep : u.0.p ≡ at.p = cc in
                let opens : Opens N t l r h T = record { at_left = sym el; at_right = sym er; holds = λ i e. o.held i (w.stations_within i (inner_on N.net t i e)); takes = sym eh } in
                ⊎_elim
                (λ b. inl (inr (el, inr (er, b))))
                (λ s. inr (λ i lt. on_cases N.net t i (w.stations i lt) (s i) (λ is. rw is el) (λ is. rw is er)))
                (pick.first T opens (u.1 ∙ ep ∙ sym fs)))
                lead.1)
                (x.least l' r' h' u.0),
          )
