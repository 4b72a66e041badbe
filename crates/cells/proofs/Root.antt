-- The whole plant's sums, by number, are those of its tree. Assumes nothing.
use Rattle.std.proofs.Common.{◌≡◌, ℕ, ◌+◌, ◌*◌, ◌<◌, ◌≤◌, Bool, true, false, ◌||◌, eqb, Option, sym, refl, ap, ◌∙◌, ⊎_elim, arith}
use Rattle.std.proofs.lemmas.Bool.{eqb-true, eq-eqb, or_cases, or_left, or_right}
use Rattle.yardsticks.specs.Laws.{Ops, limit, record_limit}
use Rattle.cells.specs.Tops.{Tops}
use Rattle.cells.proofs.Topping.{order, not_above_chain}
use Rattle.plant.specs.Trees.{Tree, leaf, series, parallel, left, right, inner, station_of, uses, Builds}
use Rattle.plant.specs.Selections.{Selection}
use Rattle.cells.specs.Inside.{Site, Scores, line_of, inner_hours, inner_figure, Opens, Choice, mid_figure, mid_hours, records, Modest}
use Rattle.cells.specs.Whole.{sum_upto, open_station, open_line, figure, whole_hours, Whole, Fitting, RootPairs}
use Rattle.cells.proofs.Pieces.{left_on, right_on, inner_on, on_cases, ends_differ, left_not_inner, right_not_inner, series_insides, series_first_middle, series_second_middle, parallel_insides}
use Rattle.cells.proofs.Gluing.{series_has_middle, series_has_first, series_has_second}
use Rattle.cells.proofs.Cells.{mid_size, line_size, figure_size}
use Rattle.cells.proofs.Leaves.{lines_apart}
use Rattle.cells.proofs.Numbered.{Disjoint, count_of, count_or, count_none, count_one, count_all, sum_bound, count_bound, sum_ones, right_unit, interchange, tuck, regroup, among, weight_of, among_size, among_or, among_none, among_one, among_all}

module _ (N : Site) where
  halves_middle : (a b : Tree) → Builds N.net (series a b) → Disjoint (λ i. inner N.net a i || inner N.net b i) (eqb (right N.net a))
  halves_middle a b w i e f = ⊎_elim (λ u. series_first_middle N.net a b i w u (eqb-true _ _ f)) (λ u. series_second_middle N.net a b i w u (eqb-true _ _ f)) (or_cases (inner N.net a i) _ e)

  -- what is picked by the inner stations of a join
  pub count_series : (a b : Tree) (f : ℕ → ℕ) (n : ℕ) → Builds N.net (series a b) → right N.net a < n → count_of (inner N.net (series a b)) f n ≡ count_of (inner N.net a) f n + count_of (inner N.net b) f n + f (right N.net a)
  count_series a b f n w lt = omega (arith, count_or (λ i. inner N.net a i || inner N.net b i) (eqb (right N.net a)) f n (halves_middle a b w), count_or (inner N.net a) (inner N.net b) f n (λ i. series_insides N.net a b i w), count_one (right N.net a) f n lt)

  pub count_parallel : (a b : Tree) (f : ℕ → ℕ) (n : ℕ) → Builds N.net (parallel a b) → count_of (inner N.net (parallel a b)) f n ≡ count_of (inner N.net a) f n + count_of (inner N.net b) f n
  count_parallel a b f n w = count_or (inner N.net a) (inner N.net b) f n (λ i. parallel_insides N.net a b i w)

  pub hours_numbered : (t : Tree) (S : Selection) (n : ℕ) → Builds N.net t → ((i : ℕ) → inner N.net t i ≡ true → i < n) → inner_hours N t S ≡ count_of (inner N.net t) (λ i. mid_hours N i (S i)) n
  hours_numbered (leaf k) S n w lt = sym (count_none (λ i. mid_hours N i (S i)) n)
  hours_numbered (series a b) S n w lt = omega (
    arith,
    hours_numbered a S n w.0 (λ i e. lt i (series_has_first N a b i e)),
    hours_numbered b S n w.1 (λ i e. lt i (series_has_second N a b i e)),
    count_series a b (λ i. mid_hours N i (S i)) n w (lt _ (series_has_middle N a b)),
  )
  hours_numbered (parallel a b) S n w lt = omega (
    arith,
    hours_numbered a S n w.0 (λ i e. lt i (or_left _ _ e)),
    hours_numbered b S n w.1 (λ i e. lt i (or_right (inner N.net a i) _ e)),
    count_parallel a b (λ i. mid_hours N i (S i)) n w,
  )

  pub records_numbered : (t : Tree) (n m : ℕ) → Builds N.net t → ((k : ℕ) → uses t k ≤ 1) → ((i : ℕ) → inner N.net t i ≡ true → i < n) → ((k : ℕ) → line_of t k ≡ true → k < m) → records t ≡ count_of (inner N.net t) (λ i. 1) n + count_of (line_of t) (λ k. 1) m
  records_numbered (leaf k) n m w one lt lk = omega (arith, count_none (λ i. 1) n, count_one k (λ i. 1) m (lk k (eq-eqb k k refl)))
  records_numbered (series a b) n m w one lt lk = omega (
    arith,
    records_numbered a n m w.0 (λ k. omega (arith, one k)) (λ i e. lt i (series_has_first N a b i e)) (λ k e. lk k (or_left _ _ e)),
    records_numbered b n m w.1 (λ k. omega (arith, one k)) (λ i e. lt i (series_has_second N a b i e)) (λ k e. lk k (or_right (line_of a k) _ e)),
    count_series a b (λ i. 1) n w (lt _ (series_has_middle N a b)),
    count_or (line_of a) (line_of b) (λ i. 1) m (lines_apart a b one),
  )
  records_numbered (parallel a b) n m w one lt lk = omega (
    arith,
    records_numbered a n m w.0 (λ k. omega (arith, one k)) (λ i e. lt i (or_left _ _ e)) (λ k e. lk k (or_left _ _ e)),
    records_numbered b n m w.1 (λ k. omega (arith, one k)) (λ i e. lt i (or_right (inner N.net a i) _ e)) (λ k e. lk k (or_right (line_of a k) _ e)),
    count_parallel a b (λ i. 1) n w,
    count_or (line_of a) (line_of b) (λ i. 1) m (lines_apart a b one),
  )

  -- ---- the whole
  inner_left : (t : Tree) → Builds N.net t → Disjoint (inner N.net t) (eqb (left N.net t))
  inner_left t w i e f = left_not_inner N.net t w (rw (eqb-true _ _ f) e)

  inner_left_right : (t : Tree) → Builds N.net t → Disjoint (λ i. inner N.net t i || eqb (left N.net t) i) (eqb (right N.net t))
  inner_left_right t w i e f = ⊎_elim (λ u. right_not_inner N.net t w (rw (eqb-true _ _ f) u)) (λ u. ends_differ N.net t w (eqb-true _ _ u ∙ sym (eqb-true _ _ f))) (or_cases (inner N.net t i) _ e)

  pub count_whole : (t : Tree) (n m : ℕ) (f : ℕ → ℕ) → Whole N n m t → sum_upto f n ≡ count_of (inner N.net t) f n + f (left N.net t) + f (right N.net t)
  count_whole t n m f w = omega (
    arith,
    count_all (station_of N.net t) f n w.stations,
    count_or (λ i. inner N.net t i || eqb (left N.net t) i) (eqb (right N.net t)) f n (inner_left_right t w.builds),
    count_or (inner N.net t) (eqb (left N.net t)) f n (inner_left t w.builds),
    count_one (left N.net t) f n (w.stations_within _ (left_on N.net t)),
    count_one (right N.net t) f n (w.stations_within _ (right_on N.net t)),
  )

  pub whole_hours_is : (t : Tree) (n m : ℕ) (S : Selection) → Whole N n m t → whole_hours N n S ≡ inner_hours N t S + mid_hours N (left N.net t) (S (left N.net t)) + mid_hours N (right N.net t) (S (right N.net t))
  whole_hours_is t n m S w = omega (arith, count_whole t n m (λ i. mid_hours N i (S i)) w, hours_numbered t S n w.builds (λ i e. w.stations_within i (inner_on N.net t i e)))

  pub whole_records : (t : Tree) (n m : ℕ) → Whole N n m t → records t + 2 ≡ n + m
  whole_records t n m w = omega (arith, count_whole t n m (λ i. 1) w, sum_ones n, sum_ones m, count_all (line_of t) (λ k. 1) m w.lines, records_numbered t n m w.builds w.apart (λ i e. w.stations_within i (inner_on N.net t i e)) w.lines_within)

module _ {F : Type 0} {nil : F} {plus : F → F → F} {above : F → F → Bool} {size : F → ℕ} (laws : Ops nil plus above size) (N : Site) (P : Scores F) (modest : Modest size record_limit P) where
  module _ (S : Selection) where
    station_small : (i : ℕ) → size (open_station nil P S i) ≤ record_limit
    station_small i = mid_size laws N P modest i (S i)

    line_small : (k : ℕ) → size (open_line nil N P S k) ≤ record_limit
    line_small k = line_size laws N P modest k (S (N.net.from k)) (S (N.net.to k))

    abbrev pub stations_of : Tree → ℕ → F
    stations_of t n = among laws (inner N.net t) (open_station nil P S) n

    abbrev pub lines_of : Tree → ℕ → F
    lines_of t m = among laws (line_of t) (open_line nil N P S) m

    abbrev pub weight_stations : Tree → ℕ → ℕ
    weight_stations t n = weight_of laws (inner N.net t) (open_station nil P S) n

    abbrev pub weight_lines : Tree → ℕ → ℕ
    weight_lines t m = weight_of laws (line_of t) (open_line nil N P S) m

    -- a node's figure is the sum over its inner stations, by number, and over its lines, by number
    pub figure_numbered : (t : Tree) (n m : ℕ) → Builds N.net t → ((k : ℕ) → uses t k ≤ 1) → ((i : ℕ) → inner N.net t i ≡ true → i < n) → ((k : ℕ) → line_of t k ≡ true → k < m)
        → weight_stations t n + weight_lines t m ≤ limit → inner_figure nil plus N P t S ≡ plus (stations_of t n) (lines_of t m)
    figure_numbered (leaf k) n m w one lt lk few =
        let small : size (open_line nil N P S k) ≤ limit = omega (arith, line_small k) in
        sym (rw (among_none laws (open_station nil P S) n, among_one laws k (open_line nil N P S) m (lk k (eq-eqb k k refl)) small) (laws.unit (open_line nil N P S k) small))
    figure_numbered (series a b) n m w one lt lk few =
        let mid_in = lt _ (series_has_middle N a b) in
        let M = open_station nil P S (right N.net a) in
        let cs = count_series N a b (λ i. size (open_station nil P S i)) n w mid_in in
        let cl = count_or (line_of a) (line_of b) (λ k. size (open_line nil N P S k)) m (lines_apart a b one) in
        let fa = figure_numbered a n m w.0 (λ k. omega (arith, one k)) (λ i e. lt i (series_has_first N a b i e)) (λ k e. lk k (or_left _ _ e)) (omega arith) in
        let fb = figure_numbered b n m w.1 (λ k. omega (arith, one k)) (λ i e. lt i (series_has_second N a b i e)) (λ k e. lk k (or_right (line_of a k) _ e)) (omega arith) in
        let za = among_size laws (inner N.net a) (open_station nil P S) n (omega arith) in
        let zb = among_size laws (inner N.net b) (open_station nil P S) n (omega arith) in
        let ya = among_size laws (line_of a) (open_line nil N P S) m (omega arith) in
        let yb = among_size laws (line_of b) (open_line nil N P S) m (omega arith) in
        let ab = count_or (inner N.net a) (inner N.net b) (λ i. size (open_station nil P S i)) n (λ i. series_insides N.net a b i w) in
        let once = count_one (right N.net a) (λ i. size (open_station nil P S i)) n mid_in in
        let s1 = among_or laws (λ i. inner N.net a i || inner N.net b i) (eqb (right N.net a)) (open_station nil P S) n (halves_middle N a b w) (λ i. omega (arith, station_small i)) (omega arith) in
        let s2 = among_or laws (inner N.net a) (inner N.net b) (open_station nil P S) n (λ i. series_insides N.net a b i w) (λ i. omega (arith, station_small i)) (omega arith) in
        let s3 = among_one laws (right N.net a) (open_station nil P S) n mid_in (omega (arith, station_small (right N.net a))) in
        let l1 = among_or laws (line_of a) (line_of b) (open_line nil N P S) m (lines_apart a b one) (λ k. omega (arith, line_small k)) (omega arith) in
        rw (fa, fb, s1, s2, s3, l1) (regroup laws (stations_of a n) (lines_of a m) (stations_of b n) (lines_of b m) M (omega arith))
    figure_numbered (parallel a b) n m w one lt lk few =
        let cs = count_parallel N a b (λ i. size (open_station nil P S i)) n w in
        let cl = count_or (line_of a) (line_of b) (λ k. size (open_line nil N P S k)) m (lines_apart a b one) in
        let fa = figure_numbered a n m w.0 (λ k. omega (arith, one k)) (λ i e. lt i (or_left _ _ e)) (λ k e. lk k (or_left _ _ e)) (omega arith) in
        let fb = figure_numbered b n m w.1 (λ k. omega (arith, one k)) (λ i e. lt i (or_right (inner N.net a i) _ e)) (λ k e. lk k (or_right (line_of a k) _ e)) (omega arith) in
        let za = among_size laws (inner N.net a) (open_station nil P S) n (omega arith) in
        let zb = among_size laws (inner N.net b) (open_station nil P S) n (omega arith) in
        let ya = among_size laws (line_of a) (open_line nil N P S) m (omega arith) in
        let yb = among_size laws (line_of b) (open_line nil N P S) m (omega arith) in
        let s2 = among_or laws (inner N.net a) (inner N.net b) (open_station nil P S) n (λ i. parallel_insides N.net a b i w) (λ i. omega (arith, station_small i)) (omega arith) in
        let l1 = among_or laws (line_of a) (line_of b) (open_line nil N P S) m (lines_apart a b one) (λ k. omega (arith, line_small k)) (omega arith) in
        let ss = laws.size_plus (stations_of a n) (stations_of b n) (omega arith) in
        let ll = laws.size_plus (lines_of a m) (lines_of b m) (omega arith) in
        let all = laws.size_plus (plus (stations_of a n) (stations_of b n)) (plus (lines_of a m) (lines_of b m)) (omega arith) in
        rw (fa, fb, s2, l1) (ap (λ u. plus u nil) (interchange laws (stations_of a n) (lines_of a m) (stations_of b n) (lines_of b m) (omega arith)) ∙ right_unit laws (plus (plus (stations_of a n) (stations_of b n)) (plus (lines_of a m) (lines_of b m))) (omega arith))

    pub figure_node : (t : Tree) (n m : ℕ) → Builds N.net t → ((k : ℕ) → uses t k ≤ 1) → ((i : ℕ) → inner N.net t i ≡ true → i < n) → ((k : ℕ) → line_of t k ≡ true → k < m)
        → (n + m) * record_limit ≤ limit → inner_figure nil plus N P t S ≡ plus (stations_of t n) (lines_of t m)
    figure_node t n m w one lt lk few = figure_numbered t n m w one lt lk
        (omega (arith, count_bound (inner N.net t) (λ i. size (open_station nil P S i)) n station_small, count_bound (line_of t) (λ k. size (open_line nil N P S k)) m line_small))

    pub whole_figure_is : (t : Tree) (n m : ℕ) → Whole N n m t → (n + m) * record_limit ≤ limit
        → figure nil plus N P n m S ≡ plus (plus (inner_figure nil plus N P t S) (mid_figure nil P (left N.net t) (S (left N.net t)))) (mid_figure nil P (right N.net t) (S (right N.net t)))
    whole_figure_is t n m w few =
        let f = open_station nil P S in
        let b = w.builds in
        let I = stations_of t n in
        let W = lines_of t m in
        let L = open_station nil P S (left N.net t) in
        let R = open_station nil P S (right N.net t) in
        let left_in = w.stations_within _ (left_on N.net t) in
        let right_in = w.stations_within _ (right_on N.net t) in
        let bs = sum_bound (λ i. size (open_station nil P S i)) n station_small in
        let bl = sum_bound (λ k. size (open_line nil N P S k)) m line_small in
        let cs = count_whole N t n m (λ i. size (open_station nil P S i)) w in
        let cl = count_all (line_of t) (λ k. size (open_line nil N P S k)) m w.lines in
        let c1 = count_or (inner N.net t) (eqb (left N.net t)) (λ i. size (open_station nil P S i)) n (inner_left N t b) in
        let c2 = count_one (left N.net t) (λ i. size (open_station nil P S i)) n left_in in
        let c3 = count_one (right N.net t) (λ i. size (open_station nil P S i)) n right_in in
        let zi = among_size laws (inner N.net t) f n (omega arith) in
        let zl = among_size laws (line_of t) (open_line nil N P S) m (omega arith) in
        let sl = station_small (left N.net t) in
        let sr = station_small (right N.net t) in
        let s0 = among_all laws (station_of N.net t) f n w.stations in
        let s1 = among_or laws (λ i. inner N.net t i || eqb (left N.net t) i) (eqb (right N.net t)) f n (inner_left_right N t b) (λ i. omega (arith, station_small i)) (omega arith) in
        let s2 = among_or laws (inner N.net t) (eqb (left N.net t)) f n (inner_left N t b) (λ i. omega (arith, station_small i)) (omega arith) in
        let s3 = among_one laws (left N.net t) f n left_in (omega arith) in
        let s4 = among_one laws (right N.net t) f n right_in (omega arith) in
        let l0 = among_all laws (line_of t) (open_line nil N P S) m w.lines in
        let fn = figure_numbered t n m b w.apart (λ i e. w.stations_within i (inner_on N.net t i e)) w.lines_within (omega arith) in
        let il = laws.size_plus I L (omega arith) in
        rw (← s0, ← l0, s1, s2, s3, s4, fn) (tuck laws (plus I L) R W (omega arith) ∙ ap (λ u. plus u R) (tuck laws I L W (omega arith)))

  -- the best of the root's cells, with its ends, is the best of the selections that fit
  pub root_tops : (t : Tree) (n m budget : ℕ) (cells : Bool → Bool → ℕ → Option F) (o : Option F) → Whole N n m t → (n + m) * record_limit ≤ limit
      → ((l r : Bool) (h : ℕ) → h ≤ budget → Tops above (Choice nil plus N P t l r h) (cells l r h))
      → Tops above (RootPairs nil plus N P (left N.net t) (right N.net t) budget cells) o → Tops above (Fitting nil plus N P n m budget) o
  root_tops t n m budget cells o w few tc top = record {
    reached = λ x e.
        let s = top.reached x e in
        let l = s.0 in
        let r = s.1 in
        let h = s.2 in
        let c = (tc l r h (omega (arith, s.6))).reached s.3 s.7 in
        let S = c.0 in
        let p = c.1 in (
          S,
          record {
            affordable = rw (whole_hours_is N t n m S w, p.at_left, p.at_right, p.takes) s.6;
            held = λ i lt. on_cases N.net t i (w.stations i lt) (λ u. p.holds i u) (λ is. rw (is, p.at_left) s.4) (λ is. rw (is, p.at_right) s.5);
          },
          rw (whole_figure_is S t n m w few, p.at_left, p.at_right, ← c.2) s.8,
        );
    covers = λ x c.
        let S = c.0 in
        let fits = c.1 in
        let l = S (left N.net t) in
        let r = S (right N.net t) in
        let h = inner_hours N t S in
        let g = inner_figure nil plus N P t S in
        let L = mid_figure nil P (left N.net t) l in
        let R = mid_figure nil P (right N.net t) r in
        let total = whole_hours_is N t n m S w in
        let within : h + mid_hours N (left N.net t) l + mid_hours N (right N.net t) r ≤ budget = omega (arith, fits.affordable) in
        let T = tc l r h (omega arith) in
        let opens : Opens N t l r h S = record { at_left = refl; at_right = refl; holds = λ i e. fits.held i (w.stations_within i (inner_on N.net t i e)); takes = refl } in
        let d = T.covers g (S, opens, refl) in
        let back = T.reached d.0 d.1 in
        let count = whole_records N t n m w in
        let zg = figure_size laws N P modest t S (omega arith) in
        let zd : size d.0 ≤ records t * record_limit = rw back.2 (figure_size laws N P modest t back.0 (omega arith)) in
        let zl = mid_size laws N P modest (left N.net t) l in
        let zr = mid_size laws N P modest (right N.net t) r in
        let zgl = laws.size_plus g L (omega arith) in
        let zdl = laws.size_plus d.0 L (omega arith) in
        let y = plus (plus d.0 L) R in
        let below : above x y ≡ false = rw (c.2, whole_figure_is S t n m w few) (laws.shift (plus g L) (plus d.0 L) R (omega arith) (omega arith) ∙ laws.shift g d.0 L (omega arith) (omega arith) ∙ d.2) in
        let z = top.covers y (l, r, h, d.0, fits.held _ (w.stations_within _ (left_on N.net t)), fits.held _ (w.stations_within _ (right_on N.net t)), within, d.1, refl) in
        (z.0, z.1, not_above_chain (order laws) x y z.0 below z.2);
  }
