-- The first split that attains a cell, state by state and hour by hour. Assumes nothing.
use Rattle.std.proofs.Common.{◌≡◌, ℕ, zero, suc, get_or, [], ◌∷◌, ◌+◌, ◌-◌, ◌*◌, ◌<◌, ◌≤◌, Bool, true, false, ◌⊎◌, List, Some, None, Option, sym, refl, ap, ◌∙◌, subst, inl, inr, ⊎_elim, arith}
use Rattle.std.proofs.lemmas.Bool.{cases_lt, cond-true}
use Rattle.plant.specs.declared.records.Station.{Station}
use Rattle.plant.specs.declared.records.Line.{Line}
use Rattle.plant.specs.declared.site.Plant.{Plant}
use Rattle.plant.specs.declared.tree.Join.{Join}
use Rattle.plant.specs.Nodes.{joined}
use Rattle.plant.specs.Trees.{Tree}
use Rattle.yardsticks.specs.declared.yardstick.Yardstick.{Ghosts}
use Rattle.yardsticks.specs.Laws.{Laws, limit, record_limit}
use Rattle.cells.specs.Inside.{records}
use Rattle.cells.specs.Joins.{first_right, second_left, passes}
use Rattle.cells.specs.Subtrees.{sub}
use Rattle.cells.specs.Tables.{memory, bit}
use Rattle.cells.specs.Tops.{cell_of, joined_of}
use Rattle.cells.proofs.Filling.{join_fair}
use Rattle.cells.proofs.Topping.{joined_parts}
use Rattle.joins.specs.declared.share.Share.{Share}
use Rattle.filling.specs.declared.joint.Joint.{Joint}
use Rattle.filling.specs.Sites.{site, scores, tree, middle, HalvesAt, between_share}
use Rattle.filling.specs.Tabled.{FilledBelow}
use Rattle.solver.specs.declared.split.Split.{Split}
use Rattle.solver.specs.Splits.{ways, PassAttains, FirstSplit, SplitsJoint}
use Rattle.filling.proofs.Passes.{PassedBy, passed_by}
use Rattle.filling.proofs.Standing.{joint_at, modest, few_sub}

-- the first through the state m of the middle
pub record FirstThrough {F : Type 0} (nil : F) (plus : F → F → F) (f : Station → F) (g : Line → F) (p : Plant) (cells : List (Option F)) (j : Join) (a b : ℕ) (l r : Bool) (h : ℕ) (goal : F) (m : Bool) (s : Split) : Type 0 where
  pub opens : s.opened ≡ m
  pub attains : PassAttains nil plus f g p cells j a b l r h goal s.opened s.first s.second
  pub least : (i i' : ℕ) → PassAttains nil plus f g p cells j a b l r h goal s.opened i i' → s.first ≤ i

states : (m m' : Bool) → (m ≡ m') ⊎ (((m ≡ false) × (m' ≡ true)) ⊎ ((m' ≡ false) × (m ≡ true)))
states true true = inl refl
states true false = inr (inr (refl, refl))
states false true = inr (inl (refl, refl))
states false false = inl refl

module _ {Y F : Type 0} {y : Ghosts Y F} (it : Joint Y F y) (goal : F) where
  abbrev pub p : Plant
  p = it.tables.now.plant.now

  abbrev pub cells : List (Option F)
  cells = it.tables.now.cells.now

  abbrev at : HalvesAt p it.spot.node it.join it.first it.second
  at = joint_at it

  abbrev pub Attain : Bool → ℕ → ℕ → Type 0
  Attain m i i' = PassAttains y.nil y.plus y.station y.line p cells it.join it.first it.second it.spot.left it.spot.right it.spot.hours goal m i i'

  abbrev pub Nothing : Bool → Type 0
  Nothing m = (i i' : ℕ) → Attain m i i' → ⊥

  abbrev pub First : Bool → Split → Type 0
  First m s = FirstThrough y.nil y.plus y.station y.line p cells it.join it.first it.second it.spot.left it.spot.right it.spot.hours goal m s

  -- a state that is not gone through splits nothing
  pub forbidden : (m : Bool) → None ≡ between_share y.nil y.station y.line p it.join (middle p it.first) m → Nothing m
  forbidden m e i i' u =
      let there = e ∙ cond-true (passes (site p) it.join (middle p it.first) m) _ _ u.0 in
      cc

  -- ---- one state of the middle
  module _ (laws : Laws y.station y.line y.nil y.plus y.above y.size) (filled : FilledBelow it.tables.now it.spot.node) where
    few_halves : records (joined it.join (sub (tree p) it.first) (sub (tree p) it.second)) * record_limit ≤ limit
    few_halves = subst (λ (t : Tree). records t * record_limit ≤ limit) at.tree_is (few_sub p it.spot.node)

    module _ (m : Bool) (first second : List (Option F)) (share : Share F) (count : ℕ)
        (first_same : (k : ℕ) → k ≤ p.budget → cell_of first k ≡ memory (p.budget + 1) cells it.first it.spot.left (first_right it.join it.spot.right m) k)
        (second_same : (k : ℕ) → k ≤ p.budget → cell_of second k ≡ memory (p.budget + 1) cells it.second (second_left it.join it.spot.left m) it.spot.right k)
        (share_is : Some share ≡ between_share y.nil y.station y.line p it.join (middle p it.first) m) (count_is : count ≡ ways share it.spot.hours) where
      by : PassedBy y.nil y.station y.line p it.join (middle p it.first) m share
      by = passed_by y.nil y.station y.line p it.join (middle p it.first) m share share_is

      pub count_small : (i : ℕ) → i < count → i ≤ it.spot.hours
      count_small i lt = omega arith

      pub split_fair : (i i' : ℕ) (x z : F) → i ≤ p.budget → i' ≤ p.budget → cell_of first i ≡ Some x → cell_of second i' ≡ Some z → y.size x + y.size z + y.size share.figure ≤ limit
      split_fair i i' x z li li' e e' = rw by.figure
          (join_fair laws.ops (site p) (scores y.station y.line p) (modest p laws) it.join (sub (tree p) it.first) (sub (tree p) it.second) (middle p it.first) m it.spot.left (first_right it.join it.spot.right m) (second_left it.join it.spot.left m) it.spot.right i i' x z few_halves
          ((filled.done it.first at.first_below it.spot.left (first_right it.join it.spot.right m) i li).reached x (sym (first_same i li) ∙ e))
          ((filled.done it.second at.second_below (second_left it.join it.spot.left m) it.spot.right i' li').reached z (sym (second_same i' li') ∙ e')))

      abbrev Hits : ℕ → Type 0
      Hits i = joined_of y.plus share.figure (cell_of first i) (cell_of second (count - 1 - i)) ≡ Some goal

      joined_pass : (i : ℕ) → i < count → Hits i → Attain m i (count - 1 - i)
      joined_pass i lt e =
          let parts = joined_parts y.plus share.figure (cell_of first i) (cell_of second (count - 1 - i)) goal e in
          let within = it.within in
          let le1 : i ≤ p.budget = omega arith in
          let le2 : count - 1 - i ≤ p.budget = omega arith in (
            by.passed,
            record {
              sum = omega (arith, by.hours);
              p = parts.0;
              q = parts.1;
              holds_p = sym (first_same i le1) ∙ parts.2;
              holds_q = sym (second_same (count - 1 - i) le2) ∙ parts.3;
              makes = parts.4 ∙ ap (y.plus (y.plus parts.0 parts.1)) by.figure;
            },
          )

      pass_joined : (i i' : ℕ) → Attain m i i' → (i < count) × Hits i
      pass_joined i i' u =
          let sum = u.1.sum in
          let within = it.within in
          let hours = by.hours in
          let e : count - 1 - i ≡ i' = omega arith in
          let le1 : i ≤ p.budget = omega arith in
          let le2 : i' ≤ p.budget = omega arith in
          let ep : cell_of first i ≡ Some u.1.p = first_same i le1 ∙ u.1.holds_p in
          let eq : cell_of second (count - 1 - i) ≡ Some u.1.q = ap (cell_of second) e ∙ second_same i' le2 ∙ u.1.holds_q in
          (omega arith, rw (ep, eq) (ap Some (ap (y.plus (y.plus u.1.p u.1.q)) by.figure ∙ sym u.1.makes)))

      -- the state that has been gone through without a find
      pub state_none : (i : ℕ) → count ≤ i → ((k : ℕ) → k < i → Hits k → ⊥) → Nothing m
      state_none i all none k k' u = let x = pass_joined k k' u in none k (omega (arith, x.0)) x.1

      pub state_first : (i : ℕ) → i < count → Hits i → ((k : ℕ) → k < i → Hits k → ⊥) → First m (record { opened = m; first = i; second = count - 1 - i })
      state_first i lt e none = record {
        opens = refl;
        attains = joined_pass i lt e;
        least = λ k k' u. ⊎_elim (λ less. let x = pass_joined k k' u in absurd (none k less x.1)) (λ ge. ge) (cases_lt k i);
      }

  -- ---- both, one after the other
  pub first_of : (m : Bool) (s : Split) → First m s → (m ≡ true → Nothing false) → FirstSplit y.nil y.plus y.station y.line p cells it.join it.first it.second it.spot.left it.spot.right it.spot.hours goal s
  first_of m s x earlier = record {
    attains = x.attains;
    least = λ m' k k' u. ⊎_elim
        (λ same. inr (same, x.least k k' (subst (λ (o : Bool). Attain o k k') (sym same) u)))
        (⊎_elim (λ before. inl before) (λ after. absurd (earlier (sym x.opens ∙ after.1) k k' (subst (λ (o : Bool). Attain o k k') after.0 u))))
        (states s.opened m');
  }

  -- no state splits, where neither does
  pub none_of : ((m : Bool) → bit m < 2 → Nothing m) → SplitsJoint it goal None
  none_of all true = all true (omega arith)
  none_of all false = all false (omega arith)

-- ---- the states in their order

pub state_at : (i : ℕ) (m d : Bool) → i < 2 → get_or (false ∷ true ∷ []) i d ≡ m → bit m ≡ i
state_at zero m d lt e = ap bit (sym e)
state_at (suc zero) m d lt e = ap bit (sym e)
state_at (suc (suc i)) m d lt e = absurd (omega arith)

bit_same : (m m' : Bool) → bit m ≡ bit m' → m ≡ m'
bit_same true true e = refl
bit_same false false e = refl
bit_same true false e = absurd (omega arith)
bit_same false true e = absurd (omega arith)

pub one_more : (A : Bool → Type 0) (i : ℕ) (m : Bool) → bit m ≡ i → ((k : Bool) → bit k < i → A k) → A m → (k : Bool) → bit k < i + 1 → A k
one_more A i m at before now k lt =
    ⊎_elim (λ less. before k less) (λ ge. subst A (bit_same m k (omega (arith, at, ge))) now) (cases_lt (bit k) i)
