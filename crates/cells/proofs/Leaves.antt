-- Each line in one leaf: the lines of two halves are apart, and the tree builds the whole. Assumes nothing.
use Rattle.std.proofs.Common.{◌≡◌, ℕ, ◌+◌, ◌<◌, ◌≤◌, Bool, true, false, eqb, List, length, refl, ⊎_elim, arith}
use Rattle.std.proofs.lemmas.List.{get_or_past}
use Rattle.std.proofs.lemmas.Bool.{eq-eqb, cases_lt, cases_Bool, or_cases, or_left, or_right, cond-true, cond-false, both_ways}
use Rattle.yardsticks.specs.Laws.{Laws, record_limit}
use Rattle.plant.specs.declared.records.Station.{Station}
use Rattle.plant.specs.declared.records.Line.{Line}
use Rattle.plant.specs.Records.{no_station, no_line, station, line, StationsInRange, LinesInRange}
use Rattle.plant.specs.Trees.{Tree, leaf, series, parallel, left, right, inner, uses, Draws}
use Rattle.cells.specs.Inside.{Site, line_of, Modest, scores_of}
use Rattle.cells.specs.Whole.{Whole}
use Rattle.cells.proofs.Pieces.{on_cases}
use Rattle.cells.proofs.Gluing.{series_inner_cases}

pub line_used : (t : Tree) (k : ℕ) → line_of t k ≡ true → 1 ≤ uses t k
line_used (leaf j) k e = let c : uses (leaf j) k ≡ 1 = cond-true (eqb j k) 1 0 e in omega arith
line_used (series a b) k e = ⊎_elim (λ u. omega (arith, line_used a k u)) (λ u. omega (arith, line_used b k u)) (or_cases (line_of a k) _ e)
line_used (parallel a b) k e = ⊎_elim (λ u. omega (arith, line_used a k u)) (λ u. omega (arith, line_used b k u)) (or_cases (line_of a k) _ e)

pub used_line : (t : Tree) (k : ℕ) → 1 ≤ uses t k → line_of t k ≡ true
used_line (leaf j) k h = ⊎_elim (λ e. e) (λ e. let c : uses (leaf j) k ≡ 0 = cond-false (eqb j k) 1 0 e in absurd (omega arith)) (cases_Bool (eqb j k))
used_line (series a b) k h = ⊎_elim (λ lt. or_left _ _ (used_line a k lt)) (λ ge. or_right (line_of a k) _ (used_line b k (omega arith))) (cases_lt 0 (uses a k))
used_line (parallel a b) k h = ⊎_elim (λ lt. or_left _ _ (used_line a k lt)) (λ ge. or_right (line_of a k) _ (used_line b k (omega arith))) (cases_lt 0 (uses a k))

-- no line stands in both halves
pub lines_apart : (a b : Tree) → ((k : ℕ) → uses a k + uses b k ≤ 1) → (k : ℕ) → line_of a k ≡ true → line_of b k ≡ true → ⊥
lines_apart a b one k e f = omega (arith, one k, line_used a k e, line_used b k f)

module _ (N : Site) where
  -- the ends of the lines bound the stations
  pub ends_within : (t : Tree) (n : ℕ) → ((k : ℕ) → line_of t k ≡ true → (N.net.from k < n) × (N.net.to k < n)) → (left N.net t < n) × (right N.net t < n)
  ends_within (leaf k) n f = f k (eq-eqb k k refl)
  ends_within (series a b) n f = ((ends_within a n (λ k e. f k (or_left _ _ e))).0, (ends_within b n (λ k e. f k (or_right (line_of a k) _ e))).1)
  ends_within (parallel a b) n f = ends_within a n (λ k e. f k (or_left _ _ e))

  pub inner_within : (t : Tree) (n : ℕ) → ((k : ℕ) → line_of t k ≡ true → (N.net.from k < n) × (N.net.to k < n)) → (i : ℕ) → inner N.net t i ≡ true → i < n
  inner_within (leaf k) n f i e = absurd (both_ways false refl e)
  inner_within (series a b) n f i e = series_inner_cases N a b i e (inner_within a n (λ k e. f k (or_left _ _ e)) i) (inner_within b n (λ k e. f k (or_right (line_of a k) _ e)) i) (λ is. rw is (ends_within a n (λ k e. f k (or_left _ _ e))).1)
  inner_within (parallel a b) n f i e = ⊎_elim (inner_within a n (λ k e. f k (or_left _ _ e)) i) (inner_within b n (λ k e. f k (or_right (line_of a k) _ e)) i) (or_cases (inner N.net a i) _ e)

  pub draws_whole : (n m : ℕ) (t : Tree) → Draws N.net n m t → Whole N n m t
  draws_whole n m t p =
      let within : (k : ℕ) → line_of t k ≡ true → k < m = λ k e. ⊎_elim (λ lt. lt) (λ ge. let u = line_used t k e in let z = p.never k ge in absurd (omega arith)) (cases_lt k m) in
      let joins : (k : ℕ) → line_of t k ≡ true → (N.net.from k < n) × (N.net.to k < n) = λ k e. p.lines_within k (within k e) in
      let few : (k : ℕ) → uses t k ≤ 1 = λ k. ⊎_elim (λ lt. omega (arith, p.once k lt)) (λ ge. omega (arith, p.never k ge)) (cases_lt k m) in
      record {
        builds = p.builds;
        apart = few;
        stations = p.all_built;
        lines = λ k lt. used_line t k (omega (arith, p.once k lt));
        starts = p.from_first;
        ends = p.to_last;
        stations_within = λ i e. on_cases N.net t i e (inner_within t n joins i) (λ is. rw is (ends_within t n joins).0) (λ is. rw is (ends_within t n joins).1);
        lines_within = within;
      }

module _ {F : Type 0} {f : Station → F} {g : Line → F} {nil : F} {plus : F → F → F} {above : F → F → Bool} {size : F → ℕ} (laws : Laws f g nil plus above size) where
  -- records in range make a modest plant
  pub scores_modest : (ss : List Station) (ls : List Line) → StationsInRange ss → LinesInRange ls → Modest size record_limit (scores_of f g ss ls)
  scores_modest ss ls hs hl = record {
    gains = λ i. laws.size_station (station ss i) (⊎_elim (hs i) (λ ge. rw (get_or_past ss i no_station ge) (omega arith, omega arith)) (cases_lt i (length ss)));
    wires = λ k. laws.size_line (line ls k) (⊎_elim (hl k) (λ ge. rw (get_or_past ls k no_line ge) (omega arith)) (cases_lt k (length ls)));
  }
