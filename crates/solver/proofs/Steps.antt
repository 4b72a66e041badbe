-- A traced join: its halves are apart, its middle is settled, and its first split leads on. Assumes nothing.
use Rattle.std.proofs.Common.{◌≡◌, ℕ, ◌+◌, ◌<◌, ◌≤◌, Bool, true, false, List, [], ◌∷◌, ◌++◌, length, get_or, set, replicate, Some, Option, sym, refl, ap, ◌∙◌, subst, ⊎_elim, arith, length-set}
use Rattle.std.proofs.lemmas.List.{get_or-set_same, get_or-set_other}
use Rattle.std.proofs.lemmas.Bool.{cases_Bool, both_ways, or_left, or_right}
use Rattle.plant.specs.declared.records.Station.{Station}
use Rattle.plant.specs.declared.records.Line.{Line}
use Rattle.plant.specs.declared.site.Plant.{Plant}
use Rattle.plant.specs.declared.tree.Join.{Join}
use Rattle.plant.specs.declared.tree.Join.TheVariants.{Series, Parallel}
use Rattle.plant.specs.Nodes.{size, joined}
use Rattle.plant.specs.Selections.{Selection}
use Rattle.plant.specs.Trees.{Tree, leaf, series, left, right, inner, station_of, Builds}
use Rattle.yardsticks.specs.Laws.{Laws}
use Rattle.cells.specs.Inside.{Site, Scores, Choice}
use Rattle.cells.specs.Joins.{first_right, second_left, passes, between_figure, between_hours}
use Rattle.cells.specs.Subtrees.{sub, leaves}
use Rattle.cells.specs.Tables.{memory}
use Rattle.cells.specs.Traces.{Cells, first_of, second_of, Attains, Leads, Traces}
use Rattle.cells.proofs.Cells.{leaf_parts}
use Rattle.cells.proofs.Gluing.{series_has_middle, series_has_first, series_has_second, first_in_series, second_in_series, first_in_parallel, second_in_parallel}
use Rattle.cells.proofs.Pieces.{right_on, ends_differ, left_not_inner, right_not_inner}
use Rattle.cells.proofs.Writing.{first_inside, second_inside, first_inside_parallel, second_inside_parallel}
use Rattle.joins.specs.declared.cell.Spot.{Spot}
use Rattle.solver.specs.declared.split.Split.{Split}
use Rattle.solver.specs.Pending.{settled, first_spot, second_spot, load, tree_at, leaves_at, size_at, Entry, Pending, Holds, with_ends}
use Rattle.filling.specs.Sites.{site, scores, tree, middle, Filled, HalvesAt}
use Rattle.solver.specs.Splits.{FirstSplit}
use Rattle.solver.proofs.Pendings.{in_new, load_more, pending_join, pending_leaf}
use Rattle.filling.proofs.Standing.{sub_stands, whole, root_tree, root_in, some_nodes}
use Rattle.cells.proofs.Counting.{whole_leaves}
use Rattle.picking.specs.Offers.{root}
use lib.ListN.{length-replicate}

off : (b : Bool) → (b ≡ true → ⊥) → b ≡ false
off b f = ⊎_elim (λ e. absurd (f e)) (λ e. e) (cases_Bool b)

-- ---- the two joins alike

pub length-settled : (j : Join) (mid : ℕ) (m : Bool) (marks : List Bool) → length (settled j mid m marks) ≡ length marks
length-settled Series mid m marks = length-set marks mid m
length-settled Parallel mid m marks = refl

pub size_halves : (j : Join) (A B : Tree) → size (joined j A B) ≡ size A + size B + 1
size_halves Series A B = refl
size_halves Parallel A B = refl

pub leaves_halves : (j : Join) (A B : Tree) → leaves (joined j A B) ≡ leaves A + leaves B
leaves_halves Series A B = refl
leaves_halves Parallel A B = refl

pub size_leaf : (p : Plant) (x : Spot) (k : ℕ) → tree_at p x ≡ leaf k → size_at p x ≡ 1
size_leaf p x k is = ap size is

module _ (N : Site) (A B : Tree) where
  inner_first : (j : Join) (i : ℕ) → inner N.net A i ≡ true → inner N.net (joined j A B) i ≡ true
  inner_first Series i e = series_has_first N A B i e
  inner_first Parallel i e = or_left _ _ e

  inner_second : (j : Join) (i : ℕ) → inner N.net B i ≡ true → inner N.net (joined j A B) i ≡ true
  inner_second Series i e = series_has_second N A B i e
  inner_second Parallel i e = or_right (inner N.net A i) _ e

  on_first : (j : Join) (i : ℕ) → station_of N.net A i ≡ true → station_of N.net (joined j A B) i ≡ true
  on_first Series i e = first_in_series N A B i e
  on_first Parallel i e = first_in_parallel N A B i e

  on_second : (j : Join) → Builds N.net (joined j A B) → (i : ℕ) → station_of N.net B i ≡ true → station_of N.net (joined j A B) i ≡ true
  on_second Series w i e = second_in_series N A B i w.2.meet e
  on_second Parallel w i e = second_in_parallel N A B i w.2 e

  clear_first : (j : Join) → Builds N.net (joined j A B) → (i : ℕ) → station_of N.net A i ≡ true → inner N.net B i ≡ true → ⊥
  clear_first Series w i e n = second_inside N A B i w e n
  clear_first Parallel w i e n = second_inside_parallel N A B i w e n

  clear_second : (j : Join) → Builds N.net (joined j A B) → (i : ℕ) → station_of N.net B i ≡ true → inner N.net A i ≡ true → ⊥
  clear_second Series w i e n = first_inside N A B i w n e
  clear_second Parallel w i e n = first_inside_parallel N A B i w n e

  module _ (m : Bool) (marks : List Bool) where
    settle_kept : (j : Join) (i : ℕ) → inner N.net (joined j A B) i ≡ false → get_or (settled j (right N.net A) m marks) i false ≡ get_or marks i false
    settle_kept Series i out = get_or-set_other marks (right N.net A) i m false (λ is. both_ways (inner N.net (series A B) i) out (subst (λ (k : ℕ). inner N.net (series A B) k ≡ true) (sym is) (series_has_middle N A B)))
    settle_kept Parallel i out = refl

    left_first : (j : Join) (l : Bool) → Builds N.net (joined j A B) → get_or marks (left N.net (joined j A B)) false ≡ l → get_or (settled j (right N.net A) m marks) (left N.net A) false ≡ l
    left_first Series l w e = get_or-set_other marks (right N.net A) (left N.net A) m false (λ is. ends_differ N.net A w.0 is) ∙ e
    left_first Parallel l w e = e

    right_first : (j : Join) (r : Bool) → right N.net A < length marks → get_or marks (right N.net (joined j A B)) false ≡ r → get_or (settled j (right N.net A) m marks) (right N.net A) false ≡ first_right j r m
    right_first Series r lt e = get_or-set_same marks (right N.net A) m false lt
    right_first Parallel r lt e = e

    left_second : (j : Join) (l : Bool) → Builds N.net (joined j A B) → right N.net A < length marks → get_or marks (left N.net (joined j A B)) false ≡ l → get_or (settled j (right N.net A) m marks) (left N.net B) false ≡ second_left j l m
    left_second Series l w lt e = ap (λ (i : ℕ). get_or (set marks (right N.net A) m) i false) (sym w.2.meet) ∙ get_or-set_same marks (right N.net A) m false lt
    left_second Parallel l w lt e = ap (λ (i : ℕ). get_or marks i false) (sym w.2.lefts) ∙ e

    right_second : (j : Join) (r : Bool) → Builds N.net (joined j A B) → get_or marks (right N.net (joined j A B)) false ≡ r → get_or (settled j (right N.net A) m marks) (right N.net B) false ≡ r
    right_second Series r w e = get_or-set_other marks (right N.net A) (right N.net B) m false (λ is. ends_differ N.net B w.1 (sym w.2.meet ∙ sym is)) ∙ e
    right_second Parallel r w e = ap (λ (i : ℕ). get_or marks i false) (sym w.2.rights) ∙ e

  -- the state of the middle, where there is one
  abbrev MidIs : Join → Selection → Bool → Type 0
  MidIs Series S m = S (right N.net A) ≡ m
  MidIs Parallel S m = Unit {0}

  mid_is : (j : Join) (S : Selection) (m : Bool) (marks : List Bool) → Builds N.net (joined j A B) → right N.net A < length marks
      → ((i : ℕ) → station_of N.net (joined j A B) i ≡ true → inner N.net A i ≡ false → inner N.net B i ≡ false → S i ≡ get_or (settled j (right N.net A) m marks) i false) → MidIs j S m
  mid_is Series S m marks w lt agree =
      agree (right N.net A) (first_in_series N A B _ (right_on N.net A)) (off (inner N.net A (right N.net A)) (right_not_inner N.net A w.0))
      (off (inner N.net B (right N.net A)) (λ e. left_not_inner N.net B w.1 (subst (λ (i : ℕ). inner N.net B i ≡ true) w.2.meet e)))
      ∙ get_or-set_same marks (right N.net A) m false lt
  mid_is Parallel S m marks w lt agree = tt

  module _ {F : Type 0} (nil : F) (plus : F → F → F) (P : Scores F) (cells : Cells F) (v : ℕ) (l r : Bool) (h : ℕ) (goal : F) where
    abbrev HalvesAttain : Join → ℕ → ℕ → ℕ → Bool → ℕ → ℕ → Type 0
    HalvesAttain j x y mid m i i' = (passes N j mid m ≡ true) × Attains plus (cells x l (first_right j r m) i) (cells y (second_left j l m) r i') (between_figure nil P j mid m) (between_hours N j mid m) h goal i i'

    trace_join : (j : Join) (S : Selection) (m : Bool) (i i' : ℕ) → cells v l r h ≡ Some goal → HalvesAttain j (first_of v B) (second_of v) (right N.net A) m i i'
        → ((m' : Bool) (k k' : ℕ) → HalvesAttain j (first_of v B) (second_of v) (right N.net A) m' k k' → Leads m i m' k) → MidIs j S m
        → Traces nil plus N P cells (first_of v B) A l (first_right j r m) i S → Traces nil plus N P cells (second_of v) B (second_left j l m) r i' S → Traces nil plus N P cells v (joined j A B) l r h S
    trace_join Series S m i i' cell at least mid ta tb = (
      goal,
      i,
      i',
      cell,
      subst (λ (o : Bool). HalvesAttain Series (first_of v B) (second_of v) (right N.net A) o i i') (sym mid) at,
      (λ m' k k' u. subst (λ (o : Bool). Leads o i m' k) (sym mid) (least m' k k' u)),
      subst (λ (o : Bool). Traces nil plus N P cells (first_of v B) A l o i S) (sym mid) ta,
      subst (λ (o : Bool). Traces nil plus N P cells (second_of v) B o r i' S) (sym mid) tb,
    )
    trace_join Parallel S m i i' cell at least mid ta tb = (
      goal,
      i,
      i',
      cell,
      at.1,
      (λ k k' u. ⊎_elim (λ before. absurd (both_ways false refl before.1)) (λ lead. lead.1) (least false k k' (refl, u))),
      ta,
      tb,
    )

-- ---- the step

module _ {F : Type 0} (nil : F) (plus : F → F → F) (f : Station → F) (g : Line → F) (p : Plant) (cells : List (Option F)) (top : Spot) (xs : List Spot) (x : Spot) (marks : List Bool)
    (old : Pending nil plus f g p cells top (xs ++ x ∷ []) marks) where
  -- a leaf takes no hours
  pub step_leaf : (above : F → F → Bool) (sz : F → ℕ) → Laws f g nil plus above sz → Filled nil plus above f g p cells (length p.nodes.now) → (k : ℕ) → tree_at p x ≡ leaf k → Pending nil plus f g p cells top xs marks
  step_leaf above sz laws filled k is =
      let here = old.each x (in_new x xs) in
      let c = (filled.done x.node here.within x.left x.right x.hours here.hours).reached here.goal here.holds in
      let d = subst (λ (t : Tree). Choice nil plus (site p) (scores f g p) t x.left x.right x.hours here.goal) is c in
      pending_leaf nil plus f g p cells top xs x marks k old is (leaf_parts laws.ops (site p) (scores f g p) k x.left x.right x.hours here.goal d).0

  module _ (j : Join) (a b : ℕ) (at : HalvesAt p x.node j a b) (goal : F) (s : Split) (holds : memory (p.budget + 1) cells x.node x.left x.right x.hours ≡ Some goal)
      (first : FirstSplit nil plus f g p cells j a b x.left x.right x.hours goal s) where
    abbrev A : Tree
    A = sub (tree p) a

    abbrev B : Tree
    B = sub (tree p) b

    stands : Builds (site p).net (joined j A B)
    stands = subst (Builds (site p).net) at.tree_is (sub_stands p x.node)

    abbrev one : Spot
    one = first_spot j a x s

    abbrev two : Spot
    two = second_spot j b x s

    abbrev after : List Bool
    after = settled j (middle p a) s.opened marks

    after_is : after ≡ settled j (right (site p).net A) s.opened marks
    after_is = ap (λ (mid : ℕ). settled j mid s.opened marks) at.middle_is

    moves : (P : ℕ → ℕ → ℕ → Type 0) → P a b (middle p a) → P (first_of x.node B) (second_of x.node) (right (site p).net A)
    moves P h = subst (λ (z : ℕ). P (first_of x.node B) (second_of x.node) z) at.middle_is (subst (λ (y : ℕ). P (first_of x.node B) y (middle p a)) at.second_is (subst (λ (w : ℕ). P w b (middle p a)) at.first_is h))

    here : Entry p cells marks x
    here = old.each x (in_new x xs)

    ends_here : (get_or marks (left (site p).net (joined j A B)) false ≡ x.left) × (get_or marks (right (site p).net (joined j A B)) false ≡ x.right)
    ends_here = (subst (λ (t : Tree). get_or marks (left (site p).net t) false ≡ x.left) at.tree_is here.at_left, subst (λ (t : Tree). get_or marks (right (site p).net t) false ≡ x.right) at.tree_is here.at_right)

    mid_in : right (site p).net A < length marks
    mid_in = omega (arith, at.middle_is, at.middle_in, p.drawn.few_stations, old.wide)

    entry_one : Entry p cells after one
    entry_one = subst (λ (ms : List Bool). Entry p cells ms one) (sym after_is) (record {
      within = omega (arith, at.first_below, at.within);
      hours = omega (arith, first.attains.1.sum, here.hours);
      goal = first.attains.1.p;
      holds = first.attains.1.holds_p;
      at_left = left_first (site p) A B s.opened marks j x.left stands ends_here.0;
      at_right = right_first (site p) A B s.opened marks j x.right mid_in ends_here.1;
    })

    entry_two : Entry p cells after two
    entry_two = subst (λ (ms : List Bool). Entry p cells ms two) (sym after_is) (record {
      within = omega (arith, at.second_below, at.within);
      hours = omega (arith, first.attains.1.sum, here.hours);
      goal = first.attains.1.q;
      holds = first.attains.1.holds_q;
      at_left = left_second (site p) A B s.opened marks j x.left stands mid_in ends_here.0;
      at_right = right_second (site p) A B s.opened marks j x.right stands ends_here.1;
    })

    onto : (P : Tree → Type 0) → P (joined j A B) → P (tree_at p x)
    onto P h = subst P (sym at.tree_is) h

    pub step_join : Pending nil plus f g p cells top ((xs ++ two ∷ []) ++ one ∷ []) after
    step_join = pending_join nil plus f g p cells top xs x one two marks after old
        (λ i e. onto (λ t. inner (site p).net t i ≡ true) (inner_first (site p) A B j i e))
        (λ i e. onto (λ t. inner (site p).net t i ≡ true) (inner_second (site p) A B j i e))
        (λ i e. onto (λ t. station_of (site p).net t i ≡ true) (on_first (site p) A B j i e))
        (λ i e. onto (λ t. station_of (site p).net t i ≡ true) (on_second (site p) A B j stands i e))
        (clear_first (site p) A B j stands)
        (clear_second (site p) A B j stands)
        (λ i out. ap (λ (ms : List Bool). get_or ms i false) after_is ∙ settle_kept (site p) A B s.opened marks j i (subst (λ (t : Tree). inner (site p).net t i ≡ false) at.tree_is out))
        entry_one
        entry_two
        (λ S t1 t2 agree.
        let mid = mid_is (site p) A B j S s.opened marks stands mid_in (λ i on n1 n2. agree i (onto (λ t. station_of (site p).net t i ≡ true) on) n1 n2 ∙ ap (λ (ms : List Bool). get_or ms i false) after_is) in
        let attain = moves (λ w y z. HalvesAttain (site p) A B nil plus (scores f g p) (memory (p.budget + 1) cells) x.node x.left x.right x.hours goal j w y z s.opened s.first s.second) first.attains in
        let least = moves (λ w y z. (m' : Bool) (k k' : ℕ) → HalvesAttain (site p) A B nil plus (scores f g p) (memory (p.budget + 1) cells) x.node x.left x.right x.hours goal j w y z m' k k' → Leads s.opened s.first m' k) first.least in
        let ta = subst (λ (w : ℕ). Traces nil plus (site p) (scores f g p) (memory (p.budget + 1) cells) w A x.left (first_right j x.right s.opened) s.first S) at.first_is t1 in
        let tb = subst (λ (w : ℕ). Traces nil plus (site p) (scores f g p) (memory (p.budget + 1) cells) w B (second_left j x.left s.opened) x.right s.second S) at.second_is t2 in
        onto (λ t. Traces nil plus (site p) (scores f g p) (memory (p.budget + 1) cells) x.node t x.left x.right x.hours S)
        (trace_join (site p) A B nil plus (scores f g p) (memory (p.budget + 1) cells) x.node x.left x.right x.hours goal j S s.opened s.first s.second holds attain least mid ta tb))
        (ap leaves at.tree_is ∙ leaves_halves j A B)
        (length-settled j (middle p a) s.opened marks ∙ old.wide)

    -- and there is less to trace
    pub step_less : load (size_at p) ((xs ++ two ∷ []) ++ one ∷ []) < load (size_at p) (xs ++ x ∷ [])
    step_less = omega (arith, load_more (size_at p) (xs ++ two ∷ []) one, load_more (size_at p) xs two, load_more (size_at p) xs x, ap size at.tree_is ∙ size_halves j A B)

-- ---- the first cell

module _ {F : Type 0} (p : Plant) (cells : List (Option F)) (top : Spot) (at : top.node ≡ root p) where
  top_tree : tree_at p top ≡ tree p
  top_tree = ap (sub (tree p)) at ∙ root_tree p

  pub top_wide : length (with_ends p top) ≡ 64
  top_wide = length-set (set (replicate 64 false) (left (site p).net (tree p)) top.left) (right (site p).net (tree p)) top.right ∙ length-set (replicate 64 false) (left (site p).net (tree p)) top.left ∙ length-replicate 64 false

  pub top_light : leaves_at p top ≤ 128
  top_light = omega (arith, ap leaves top_tree, whole_leaves (site p) (length p.stations.now) (length p.lines.now) (tree p) (whole p), p.drawn.few_lines)

  pub top_entry : top.hours ≤ p.budget → Holds p cells top → Entry p cells (with_ends p top) top
  top_entry le held =
      let L = left (site p).net (tree p) in
      let R = right (site p).net (tree p) in
      let in_marks = root_in p in
      let one = set (replicate 64 false) L top.left in
      let long : length one ≡ 64 = length-set (replicate 64 false) L top.left ∙ length-replicate 64 false in
      let bare : length (replicate 64 false) ≡ 64 = length-replicate 64 false in
      let differ : L ≡ R → ⊥ = ends_differ (site p).net (tree p) (whole p).builds in
      record {
        within = omega (arith, at, some_nodes p);
        hours = le;
        goal = held.0;
        holds = held.1;
        at_left = ap (λ (t : Tree). get_or (with_ends p top) (left (site p).net t) false) top_tree ∙ get_or-set_other one R L top.right false differ ∙ get_or-set_same (replicate 64 false) L top.left false (omega (arith, p.drawn.few_stations));
        at_right = ap (λ (t : Tree). get_or (with_ends p top) (right (site p).net t) false) top_tree ∙ get_or-set_same one R top.right false (omega (arith, p.drawn.few_stations));
      }
