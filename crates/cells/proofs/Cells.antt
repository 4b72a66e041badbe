-- The best of a join is a join of bests. Assumes nothing.
use Rattle.std.proofs.Common.{◌≡◌, ℕ, ◌+◌, ◌*◌, ◌≤◌, Bool, true, false, cond, eqb, Option, sym, refl, ◌∙◌, arith}
use Rattle.std.proofs.lemmas.Bool.{eq-eqb, ne_eqb, cond-true, cond-false, both_ways}
use Rattle.yardsticks.specs.Laws.{Ops, limit, record_limit}
use Rattle.cells.specs.Tops.{Tops}
use Rattle.cells.proofs.Topping.{order, not_above_chain, tops_same}
use Rattle.plant.specs.Trees.{Tree, leaf, series, parallel, right, Builds}
use Rattle.plant.specs.Selections.{Selection}
use Rattle.cells.specs.Inside.{Site, Scores, inner_figure, Choice, Sums, mid_figure, mid_hours, records, Modest, SeriesPairs}
use Rattle.cells.specs.Tops.{Split}
use Rattle.cells.proofs.Gluing.{series_parts, series_whole, parallel_parts, parallel_whole}

module _ {F : Type 0} {nil : F} {plus : F → F → F} {above : F → F → Bool} {size : F → ℕ} (laws : Ops nil plus above size) where
  pub sum_not_above : (p q m n mid : F) (A B : ℕ) → size p ≤ A → size m ≤ A → size q ≤ B → size n ≤ B → A + B + size mid ≤ limit → above p m ≡ false → above q n ≡ false → above (plus (plus p q) mid) (plus (plus m n) mid) ≡ false
  sum_not_above p q m n mid A B sp sm sq sn fits ep eq =
      let pq : size (plus p q) ≤ A + B = omega (arith, laws.size_plus p q (omega arith)) in
      let mn : size (plus m n) ≤ A + B = omega (arith, laws.size_plus m n (omega arith)) in
      let one : above (plus p q) (plus m q) ≡ false = laws.shift p m q (omega arith) (omega arith) ∙ ep in
      let two : above (plus q m) (plus n m) ≡ false = laws.shift q n m (omega arith) (omega arith) ∙ eq in
      let three : above (plus m q) (plus m n) ≡ false = rw (laws.comm m q (omega arith), laws.comm m n (omega arith)) two in
      laws.shift (plus p q) (plus m n) mid (omega arith) (omega arith) ∙ not_above_chain (order laws) (plus p q) (plus m q) (plus m n) one three

  module _ (N : Site) (P : Scores F) where
    -- ---- leaves
    pub leaf_parts : (k : ℕ) (l r : Bool) (h : ℕ) (x : F) → Choice nil plus N P (leaf k) l r h x → (h ≡ 0) × (x ≡ cond l (cond r (P.wire k) nil) nil)
    leaf_parts k l r h x c = (sym c.1.takes, rw (← c.1.at_left, ← c.1.at_right) c.2)

    pub leaf_whole : (k : ℕ) (l r : Bool) (h : ℕ) (x : F) → Builds N.net (leaf k) → (h ≡ 0) × (x ≡ cond l (cond r (P.wire k) nil) nil) → Choice nil plus N P (leaf k) l r h x
    leaf_whole k l r h x w c =
        let S : Selection = λ i. cond (eqb (N.net.from k) i) l r in
        let u : S (N.net.from k) ≡ l = cond-true _ l r (eq-eqb (N.net.from k) (N.net.from k) refl) in
        let v : S (N.net.to k) ≡ r = cond-false _ l r (ne_eqb (N.net.from k) (N.net.to k) w) in
        (S, record { at_left = u; at_right = v; holds = λ i e. absurd (both_ways false refl e); takes = sym c.0 }, rw (u, v) c.1)

    pub leaf_tops : (k : ℕ) (l r : Bool) (h : ℕ) (o : Option F) → Builds N.net (leaf k) → Tops above (λ x. (h ≡ 0) × (x ≡ cond l (cond r (P.wire k) nil) nil)) o → Tops above (Choice nil plus N P (leaf k) l r h) o
    leaf_tops k l r h o w t = tops_same (λ x. leaf_whole k l r h x w) (λ x. leaf_parts k l r h x) t

  module _ (N : Site) (P : Scores F) (modest : Modest size record_limit P) where
    pub mid_size : (i : ℕ) (m : Bool) → size (mid_figure nil P i m) ≤ record_limit
    mid_size i true = modest.gains i
    mid_size i false = omega (arith, laws.size_nil)

    pub line_size : (k : ℕ) (l r : Bool) → size (cond l (cond r (P.wire k) nil) nil) ≤ record_limit
    line_size k true true = modest.wires k
    line_size k true false = omega (arith, laws.size_nil)
    line_size k false r = omega (arith, laws.size_nil)

    pub figure_size : (t : Tree) (S : Selection) → records t * record_limit ≤ limit → size (inner_figure nil plus N P t S) ≤ records t * record_limit
    figure_size (leaf k) S few = omega (arith, line_size k (S (N.net.from k)) (S (N.net.to k)))
    figure_size (series a b) S few =
        let x = figure_size a S (omega arith) in
        let y = figure_size b S (omega arith) in
        let z = mid_size (right N.net a) (S (right N.net a)) in
        let u = laws.size_plus (inner_figure nil plus N P a S) (inner_figure nil plus N P b S) (omega arith) in
        let v = laws.size_plus (plus (inner_figure nil plus N P a S) (inner_figure nil plus N P b S)) (mid_figure nil P (right N.net a) (S (right N.net a))) (omega arith) in
        omega arith
    figure_size (parallel a b) S few =
        let x = figure_size a S (omega arith) in
        let y = figure_size b S (omega arith) in
        let z = laws.size_nil in
        let u = laws.size_plus (inner_figure nil plus N P a S) (inner_figure nil plus N P b S) (omega arith) in
        let v = laws.size_plus (plus (inner_figure nil plus N P a S) (inner_figure nil plus N P b S)) nil (omega arith) in
        omega arith

    pub choice_size : (t : Tree) (l r : Bool) (h : ℕ) (x : F) → records t * record_limit ≤ limit → Choice nil plus N P t l r h x → size x ≤ records t * record_limit
    choice_size t l r h x few c = rw c.2 (figure_size t c.0 few)

    -- ---- joins
    pub exchange : (A B : ℕ → F → Type 0) (first second : ℕ → Option F) (mid : F) (spent h X Y : ℕ)
        → ((i : ℕ) → i ≤ h → Tops above (A i) (first i)) → ((j : ℕ) → j ≤ h → Tops above (B j) (second j))
        → ((i : ℕ) (p : F) → A i p → size p ≤ X) → ((j : ℕ) (q : F) → B j q → size q ≤ Y) → X + Y + size mid ≤ limit
        → (x : F) → Sums plus A B mid spent h x → (y : F) × Split plus first second mid spent h y × (above x y ≡ false)
    exchange A B first second mid spent h X Y tf ts sp sq fits x s =
        let cf = (tf s.0 (omega (arith, s.4))).covers s.2 s.5 in
        let cs = (ts s.1 (omega (arith, s.4))).covers s.3 s.6 in
        let pf = (tf s.0 (omega (arith, s.4))).reached cf.0 cf.1 in
        let ps = (ts s.1 (omega (arith, s.4))).reached cs.0 cs.1 in (
          plus (plus cf.0 cs.0) mid,
          (s.0, s.1, cf.0, cs.0, s.4, cf.1, cs.1, refl),
          rw s.7 (sum_not_above s.2 s.3 cf.0 cs.0 mid X Y (sp _ _ s.5) (sp _ _ pf) (sq _ _ s.6) (sq _ _ ps) fits cf.2 cs.2),
        )

    pub series_tops : (a b : Tree) (l r : Bool) (h : ℕ) (first second : Bool → ℕ → Option F) (o : Option F) → Builds N.net (series a b) → records (series a b) * record_limit ≤ limit
        → ((m : Bool) (i : ℕ) → i ≤ h → Tops above (Choice nil plus N P a l m i) (first m i)) → ((m : Bool) (j : ℕ) → j ≤ h → Tops above (Choice nil plus N P b m r j) (second m j))
        → Tops above (SeriesPairs nil plus N P (right N.net a) first second h) o → Tops above (Choice nil plus N P (series a b) l r h) o
    series_tops a b l r h first second o w few tf ts t = record {
      reached = λ x e.
          let s = t.reached x e in
          let q = s.2 in
          series_whole N P nil plus a b l r h x w
          (s.0, s.1, (q.0, q.1, q.2, q.3, q.4, (tf s.0 q.0 (omega (arith, q.4))).reached q.2 q.5, (ts s.0 q.1 (omega (arith, q.4))).reached q.3 q.6, q.7));
      covers = λ x c.
          let s = series_parts N P nil plus a b l r h x w c in
          let m = s.0 in
          let y = exchange (Choice nil plus N P a l m) (Choice nil plus N P b m r) (first m) (second m) (mid_figure nil P (right N.net a) m) (mid_hours N (right N.net a) m) h (records a * record_limit) (records b * record_limit)
          (tf m) (ts m) (λ i p. choice_size a l m i p (omega arith)) (λ j q. choice_size b m r j q (omega arith)) (omega (arith, mid_size (right N.net a) m)) x s.2 in
          let d = t.covers y.0 (m, s.1, y.1) in
          (d.0, d.1, not_above_chain (order laws) _ _ _ y.2 d.2);
    }

    pub parallel_tops : (a b : Tree) (l r : Bool) (h : ℕ) (first second : ℕ → Option F) (o : Option F) → Builds N.net (parallel a b) → records (parallel a b) * record_limit ≤ limit
        → ((i : ℕ) → i ≤ h → Tops above (Choice nil plus N P a l r i) (first i)) → ((j : ℕ) → j ≤ h → Tops above (Choice nil plus N P b l r j) (second j))
        → Tops above (Split plus first second nil 0 h) o → Tops above (Choice nil plus N P (parallel a b) l r h) o
    parallel_tops a b l r h first second o w few tf ts t = record {
      reached = λ x e.
          let q = t.reached x e in
          parallel_whole N P nil plus a b l r h x w
          (q.0, q.1, q.2, q.3, q.4, (tf q.0 (omega (arith, q.4))).reached q.2 q.5, (ts q.1 (omega (arith, q.4))).reached q.3 q.6, q.7);
      covers = λ x c.
          let y = exchange (Choice nil plus N P a l r) (Choice nil plus N P b l r) first second nil 0 h (records a * record_limit) (records b * record_limit)
          tf ts (λ i p. choice_size a l r i p (omega arith)) (λ j q. choice_size b l r j q (omega arith)) (omega (arith, laws.size_nil)) x (parallel_parts N P nil plus a b l r h x w c) in
          let d = t.covers y.0 y.1 in
          (d.0, d.1, not_above_chain (order laws) _ _ _ y.2 d.2);
    }
