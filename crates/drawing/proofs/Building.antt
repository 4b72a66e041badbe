-- Trees of lines whose joins meet build their piece. Assumes nothing.
use Rattle.std.proofs.Common.{◌≡◌, ℕ, ◌+◌, ◌<◌, ◌≤◌, true, false, ◌||◌, eqb, ltb, ◌⊎◌, sym, refl, inl, inr, ⊎_elim, arith}
use Rattle.std.proofs.lemmas.Bool.{eqb-true, eq-eqb, ne_eqb, cases_eq, cases_lt, ltb-true, ltb-false, lt-ltb, and_parts, and_from, or_cases, or_parts, or_left, or_right, both_ways, cond-true}
use Rattle.plant.specs.declared.tree.Join.{Join}
use Rattle.plant.specs.declared.tree.Join.TheVariants.{Series, Parallel}
use Rattle.plant.specs.Trees.{Net, Tree, leaf, series, parallel, left, right, inner, station_of, uses, InSeries, InParallel, Builds, Draws}
use Rattle.plant.specs.Nodes.{joined}
use Rattle.drawing.specs.Grammar.{Lines, with_lines, below, share_only, meet, complete}
use Rattle.drawing.proofs.Meeting.{below_all, below_at, imply, implied}

-- the m lines join different stations of the n
abbrev pub Ends : Net → ℕ → ℕ → Type 0
Ends N n m = (k : ℕ) → k < m → (N.from k < n) × (N.to k < n) × (N.from k ≡ N.to k → ⊥)

-- its leaves are among the m lines
abbrev pub Among : ℕ → Tree → Type 0
Among m t = (k : ℕ) → 1 ≤ uses t k → k < m

pub uses_self : (k : ℕ) → uses (leaf k) k ≡ 1
uses_self k = cond-true (eqb k k) 1 0 (eq-eqb k k refl)

pub leaf_uses : (j k : ℕ) → 1 ≤ uses (leaf j) k → j ≡ k
leaf_uses j k h = ⊎_elim (λ e. e) (λ n. let z : uses (leaf j) k ≡ 0 = rw (ne_eqb j k n) refl in absurd (omega arith)) (cases_eq j k)

module _ (N : Net) (n m : ℕ) (ends : Ends N n m) where
  pub ends_within : (t : Tree) → Among m t → (left N t < n) × (right N t < n)
  ends_within (leaf k) f = let e = ends k (f k (omega (arith, uses_self k))) in (e.0, e.1)
  ends_within (series a b) f = ((ends_within a (λ k h. f k (omega arith))).0, (ends_within b (λ k h. f k (omega arith))).1)
  ends_within (parallel a b) f = ends_within a (λ k h. f k (omega arith))

  inner_within : (t : Tree) → Among m t → (i : ℕ) → inner N t i ≡ true → i < n
  inner_within (leaf k) f i e = absurd (both_ways false refl e)
  inner_within (series a b) f i e =
      ⊎_elim
      (λ u. ⊎_elim (inner_within a (λ k h. f k (omega arith)) i) (inner_within b (λ k h. f k (omega arith)) i) (or_cases (inner N a i) _ u))
      (λ u. let is = eqb-true (right N a) i u in let w = (ends_within a (λ k h. f k (omega arith))).1 in omega arith)
      (or_cases (inner N a i || inner N b i) _ e)
  inner_within (parallel a b) f i e = ⊎_elim (inner_within a (λ k h. f k (omega arith)) i) (inner_within b (λ k h. f k (omega arith)) i) (or_cases (inner N a i) _ e)

  pub station_within : (t : Tree) → Among m t → (i : ℕ) → station_of N t i ≡ true → i < n
  station_within t f i e =
      let w = ends_within t f in
      ⊎_elim
      (λ u. ⊎_elim (inner_within t f i) (λ v. let is = eqb-true (left N t) i v in omega (arith, w.0)) (or_cases (inner N t i) _ u))
      (λ u. let is = eqb-true (right N t) i u in omega (arith, w.1))
      (or_cases (inner N t i || eqb (left N t) i) _ e)

  -- halves that meet, by the rule of their join
  shared : (a b : Tree) (x y : ℕ) → n ≤ 64 → Among m a → share_only N a b x y ≡ true → (i : ℕ) → station_of N a i ≡ true → station_of N b i ≡ true → (i ≡ x) ⊎ (i ≡ y)
  shared a b x y few f e i p q =
      let small : i < 64 = omega (arith, station_within a f i p) in
      let t = implied (station_of N a i) (station_of N b i) (eqb i x || eqb i y) (below_at 64 _ e i small) p q in
      ⊎_elim (λ u. inl (eqb-true i x u)) (λ u. inr (eqb-true i y u)) (or_cases (eqb i x) (eqb i y) t)

  pub series_meets : (a b : Tree) → n ≤ 64 → Among m a → meet N Series a b ≡ true → InSeries N a b
  series_meets a b few f e =
      let p = and_parts (eqb (right N a) (left N b)) _ e in
      record { meet = eqb-true _ _ p.0; share = λ i u v. ⊎_elim (λ w. w) (λ w. w) (shared a b _ _ few f p.1 i u v) }

  pub parallel_meets : (a b : Tree) → n ≤ 64 → Among m a → meet N Parallel a b ≡ true → InParallel N a b
  parallel_meets a b few f e =
      let p = and_parts (eqb (left N a) (left N b)) _ e in
      let q = and_parts (eqb (right N a) (right N b)) _ p.1 in
      record { lefts = eqb-true _ _ p.0; rights = eqb-true _ _ q.0; share = λ i u v not_left. ⊎_elim (λ w. absurd (not_left w)) (λ w. w) (shared a b _ _ few f q.1 i u v) }

  pub joined_builds : (j : Join) (a b : Tree) → n ≤ 64 → Among m a → meet N j a b ≡ true → Builds N a → Builds N b → Builds N (joined j a b)
  joined_builds Series a b few f e x y = (x, y, series_meets a b few f e)
  joined_builds Parallel a b few f e x y = (x, y, parallel_meets a b few f e)

-- the other way: the rule of the join gives the test
share_by : (N : Net) (a b : Tree) (x y : ℕ) → ((i : ℕ) → station_of N a i ≡ true → station_of N b i ≡ true → (eqb i x || eqb i y) ≡ true) → share_only N a b x y ≡ true
share_by N a b x y h = below_all 64 _ (λ i lt. imply (station_of N a i) (station_of N b i) (eqb i x || eqb i y) (h i))

pub meets_series : (N : Net) (a b : Tree) → InSeries N a b → meet N Series a b ≡ true
meets_series N a b w = and_from _ _ (eq-eqb _ _ w.meet) (share_by N a b _ _ (λ i p q. or_left _ _ (eq-eqb i _ (w.share i p q))))

pub meets_parallel : (N : Net) (a b : Tree) → InParallel N a b → meet N Parallel a b ≡ true
meets_parallel N a b w =
    and_from _ _ (eq-eqb _ _ w.lefts) (and_from _ _ (eq-eqb _ _ w.rights) (share_by N a b _ _ (λ i p q.
    ⊎_elim (λ e. or_left _ _ (eq-eqb i _ e)) (λ ne. or_right (eqb i (left N a)) _ (eq-eqb i _ (w.share i p q ne))) (cases_eq i (left N a)))))

-- a tree with its joins right, each of its lines named once and none named before
pub record Fits (N : Net) (m : ℕ) (named : Lines) (t : Tree) : Type 0 where
  pub builds : Builds N t
  pub once : (k : ℕ) → uses t k ≤ 1
  pub among : Among m t
  pub fresh : (k : ℕ) → 1 ≤ uses t k → named k ≡ false

pub leaf_fits : (N : Net) (n m k : ℕ) (named : Lines) → Ends N n m → k < m → named k ≡ false → Fits N m named (leaf k)
leaf_fits N n m k named ends lt free = record {
  builds = (ends k lt).2;
  once = λ j. ⊎_elim (λ e. let z : uses (leaf k) j ≡ 1 = rw (eq-eqb k j e) refl in omega arith) (λ ne. let z : uses (leaf k) j ≡ 0 = rw (ne_eqb k j ne) refl in omega arith) (cases_eq k j);
  among = λ j h. let e = leaf_uses k j h in omega arith;
  fresh = λ j h. rw (sym (leaf_uses k j h)) free;
}

pub uses_joined : (j : Join) (a b : Tree) (k : ℕ) → uses (joined j a b) k ≡ uses a k + uses b k
uses_joined Series a b k = refl
uses_joined Parallel a b k = refl

-- what a line named by the first half says of the second
unnamed : (a : Tree) (named : Lines) (k : ℕ) → with_lines a named k ≡ false → (uses a k ≡ 0) × (named k ≡ false)
unnamed a named k e =
    let p = or_parts (ltb 0 (uses a k)) (named k) e in
    let z = ltb-false 0 (uses a k) p.0 in
    (omega arith, p.1)

pub joined_fits : (N : Net) (n m : ℕ) (j : Join) (a b : Tree) (named : Lines) → Ends N n m → n ≤ 64 → Fits N m named a → Fits N m (with_lines a named) b → meet N j a b ≡ true → Fits N m named (joined j a b)
joined_fits N n m j a b named ends few x y e = record {
  builds = joined_builds N n m ends j a b few x.among e x.builds y.builds;
  once = λ k. ⊎_elim
      (λ p. let z = (unnamed a named k (y.fresh k p)).0 in omega (arith, uses_joined j a b k, y.once k))
      (λ z. omega (arith, uses_joined j a b k, x.once k))
      (cases_lt 0 (uses b k));
  among = λ k h. ⊎_elim (λ p. x.among k p) (λ z. y.among k (omega (arith, uses_joined j a b k))) (cases_lt 0 (uses a k));
  fresh = λ k h. ⊎_elim (λ p. x.fresh k p) (λ z. (unnamed a named k (y.fresh k (omega (arith, uses_joined j a b k)))).1) (cases_lt 0 (uses a k));
}

-- a whole tree that is complete draws the plant
pub fits_draws : (N : Net) (n m : ℕ) (named : Lines) (t : Tree) → Ends N n m → Fits N m named t → complete N n m t ≡ true → Draws N n m t
fits_draws N n m named t ends w e =
    let p = and_parts (below m (λ i. ltb 0 (uses t i))) _ e in
    let q = and_parts (below n (station_of N t)) _ p.1 in
    let r = and_parts (eqb (left N t) 0) _ q.1 in
    record {
      builds = w.builds;
      once = λ k lt. let u = ltb-true 0 (uses t k) (below_at m _ p.0 k lt) in omega (arith, w.once k);
      never = λ k ge. ⊎_elim (λ u. let lt = w.among k u in absurd (omega arith)) (λ z. omega arith) (cases_lt 0 (uses t k));
      lines_within = λ k lt. ((ends k lt).0, (ends k lt).1);
      all_built = λ i lt. below_at n _ q.0 i lt;
      from_first = eqb-true _ _ r.0;
      to_last = eqb-true _ _ r.1;
    }

pub draws_complete : (N : Net) (n m : ℕ) (t : Tree) → Draws N n m t → complete N n m t ≡ true
draws_complete N n m t w =
    and_from _ _ (below_all m _ (λ k lt. lt-ltb 0 (uses t k) (omega (arith, w.once k lt))))
    (and_from _ _ (below_all n _ (λ i lt. w.all_built i lt)) (and_from _ _ (eq-eqb _ _ w.from_first) (eq-eqb _ _ w.to_last)))
