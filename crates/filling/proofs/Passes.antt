-- Rows that are cut at their reach, and the join through one state and through both. Assumes nothing.
use Rattle.std.proofs.Common.{◌≡◌, ℕ, ◌+◌, ◌*◌, ◌<◌, ◌≤◌, min, Bool, true, false, cond, ◌⊎◌, List, length, get_or, Some, None, Option, sym, refl, ap, ◌∙◌, subst, inl, inr, ⊎_elim, arith}
use Rattle.plant.specs.declared.records.Station.{Station}
use Rattle.plant.specs.declared.records.Line.{Line}
use Rattle.plant.specs.declared.tree.Join.{Join}
use Rattle.plant.specs.declared.site.Plant.{Plant}
use Rattle.plant.specs.Nodes.{joined}
use Rattle.plant.specs.Trees.{Tree, leaf, Builds}
use Rattle.yardsticks.specs.Laws.{Laws, limit, record_limit}
use Rattle.cells.specs.Inside.{Choice, records}
use Rattle.cells.specs.Joins.{first_right, second_left, passes, between_figure, between_hours, Through}
use Rattle.cells.specs.Subtrees.{sub}
use Rattle.cells.specs.Tables.{row_start, memory, most}
use Rattle.cells.specs.Tops.{Tops, Fair, cell_of, better_of}
use Rattle.cells.proofs.Filling.{past_none, tops_absent, join_tops, join_fair}
use Rattle.cells.proofs.Rows.{cut_same, split_same}
use Rattle.cells.proofs.Topping.{order, some_is, tops_none, tops_same, tops_better, held_within}
use Rattle.cells.proofs.Cells.{leaf_tops}
use Rattle.cells.specs.Tops.{Order}
use Rattle.std.proofs.lemmas.Bool.{cond-true, cond-false, eq-eqb, ne_eqb, cases_eq}
use Rattle.std.proofs.lemmas.Option.{cond_some}
use Rattle.plant.specs.Records.{line}
use Rattle.joins.specs.declared.share.Share.{Share}
use Rattle.joins.specs.Shares.{Joined}
use Rattle.filling.specs.Sites.{site, scores, tree, middle, Filled, Known, HalvesAt, between_share, Passing, leaf_cell}
use Rattle.filling.proofs.Standing.{modest, few_sub, sub_stands}

by_state : (A : Bool → Type 0) (m : Bool) → A m → A false ⊎ A true
by_state A true h = inr h
by_state A false h = inl h

-- the state m is gone through, and this stands between the halves there
pub record PassedBy {F : Type 0} (nil : F) (f : Station → F) (g : Line → F) (p : Plant) (j : Join) (mid : ℕ) (m : Bool) (share : Share F) : Type 0 where
  pub passed : passes (site p) j mid m ≡ true
  pub figure : share.figure ≡ between_figure nil (scores f g p) j mid m
  pub hours : share.hours ≡ between_hours (site p) j mid m

pub passed_by : {F : Type 0} (nil : F) (f : Station → F) (g : Line → F) (p : Plant) (j : Join) (mid : ℕ) (m : Bool) (share : Share F) → Some share ≡ between_share nil f g p j mid m → PassedBy nil f g p j mid m share
passed_by {F} nil f g p j mid m share is =
    let there = cond_some _ _ share (sym is) in
    record { passed = there.0; figure = sym (ap (λ (s : Share F). s.figure) there.1); hours = sym (ap (λ (s : Share F). s.hours) there.1) }

module _ {F : Type 0} {f : Station → F} {g : Line → F} {nil : F} {plus : F → F → F} {above : F → F → Bool} {sz : F → ℕ} (laws : Laws f g nil plus above sz) (p : Plant) (cells : List (Option F)) (v : ℕ) (filled : Filled nil plus above f g p cells v) where
  -- past the reach of a node there is nothing
  pub past_reach : (u : ℕ) (l r : Bool) (k : ℕ) → u < v → min p.budget (most (site p) (sub (tree p) u)) < k → k ≤ p.budget → memory (p.budget + 1) cells u l r k ≡ None
  past_reach u l r k lt past le =
      let over : most (site p) (sub (tree p) u) < k = omega arith in
      tops_absent (Choice nil plus (site p) (scores f g p) (sub (tree p) u) l r k) _ (past_none laws.ops (site p) (scores f g p) (modest p laws) (sub (tree p) u) l r k over) (filled.done u lt l r k le)

  module _ (reach : List ℕ) (known : Known p reach v) where
    pub reach_small : (u : ℕ) → u < v → get_or reach u 0 ≤ p.budget
    reach_small u lt = omega (arith, known.is u lt)

    -- a row that is cut at its reach
    pub row_whole : (row : List (Option F)) (u : ℕ) (l r : Bool) (k : ℕ) → u < v → length row ≡ get_or reach u 0 + 1
        → ((i : ℕ) → i < get_or reach u 0 + 1 → cell_of row i ≡ cell_of cells (row_start (p.budget + 1) u l r + i)) → k ≤ p.budget → cell_of row k ≡ memory (p.budget + 1) cells u l r k
    row_whole row u l r k lt long same le = cut_same row (memory (p.budget + 1) cells u l r) (get_or reach u 0 + 1) k long same (λ past. past_reach u l r k lt (omega (arith, known.is u lt)) le)

    pub row_choice : (row : List (Option F)) (u : ℕ) (l r : Bool) (k : ℕ) (x : F) → u < v → length row ≡ get_or reach u 0 + 1
        → ((i : ℕ) → i < get_or reach u 0 + 1 → cell_of row i ≡ cell_of cells (row_start (p.budget + 1) u l r + i)) → cell_of row k ≡ Some x → Choice nil plus (site p) (scores f g p) (sub (tree p) u) l r k x
    row_choice row u l r k x lt long same e =
        let in_row = held_within row k x e in
        let le : k ≤ p.budget = omega (arith, reach_small u lt) in
        (filled.done u lt l r k le).reached x (sym (row_whole row u l r k lt long same le) ∙ e)

    module _ (j : Join) (a b : ℕ) (at : HalvesAt p v j a b) (l r : Bool) (h : ℕ) (le : h ≤ p.budget) where
      few_halves : records (joined j (sub (tree p) a) (sub (tree p) b)) * record_limit ≤ limit
      few_halves = subst (λ (t : Tree). records t * record_limit ≤ limit) at.tree_is (few_sub p v)

      halves_stand : Builds (site p).net (joined j (sub (tree p) a) (sub (tree p) b))
      halves_stand = subst (Builds (site p).net) at.tree_is (sub_stands p v)

      module _ (m : Bool) (first second : List (Option F)) (share : Share F)
          (first_long : length first ≡ get_or reach a 0 + 1) (first_same : (i : ℕ) → i < get_or reach a 0 + 1 → cell_of first i ≡ cell_of cells (row_start (p.budget + 1) a l (first_right j r m) + i))
          (second_long : length second ≡ get_or reach b 0 + 1) (second_same : (i : ℕ) → i < get_or reach b 0 + 1 → cell_of second i ≡ cell_of cells (row_start (p.budget + 1) b (second_left j l m) r + i))
          (share_is : Some share ≡ between_share nil f g p j (middle p a) m) where
        by : PassedBy nil f g p j (middle p a) m share
        by = passed_by nil f g p j (middle p a) m share share_is

        pub through_fair : Fair sz limit (cell_of first) (cell_of second) share.figure
        through_fair i i' x y e e' = rw by.figure
            (join_fair laws.ops (site p) (scores f g p) (modest p laws) j (sub (tree p) a) (sub (tree p) b) (middle p a) m l (first_right j r m) (second_left j l m) r i i' x y few_halves
            (row_choice first a l (first_right j r m) i x at.first_below first_long first_same e) (row_choice second b (second_left j l m) r i' y at.second_below second_long second_same e'))

        pub through_tops : (o : Option F) → Tops above (Joined plus first second share h) o → Tops above (Passing nil plus f g p cells j a b l r h m) o
        through_tops o t =
            let ef : (k : ℕ) → k ≤ h → cell_of first k ≡ memory (p.budget + 1) cells a l (first_right j r m) k = λ k lt. row_whole first a l (first_right j r m) k at.first_below first_long first_same (omega arith) in
            let eg : (k : ℕ) → k ≤ h → cell_of second k ≡ memory (p.budget + 1) cells b (second_left j l m) r k = λ k lt. row_whole second b (second_left j l m) r k at.second_below second_long second_same (omega arith) in
            let fm = memory (p.budget + 1) cells a l (first_right j r m) in
            let gm = memory (p.budget + 1) cells b (second_left j l m) r in
            let mid = between_figure nil (scores f g p) j (middle p a) m in
            let spent = between_hours (site p) j (middle p a) m in
            tops_same
            (λ x s. (by.passed, split_same plus (cell_of first) (cell_of second) fm gm share.figure mid share.hours spent h ef eg by.figure by.hours x s))
            (λ x s. split_same plus fm gm (cell_of first) (cell_of second) mid share.figure spent share.hours h (λ k lt. sym (ef k lt)) (λ k lt. sym (eg k lt)) (sym by.figure) (sym by.hours) x s.1)
            t

      -- through both states: the join's best
      pub both_tops : (o o' : Option F) → Tops above (Passing nil plus f g p cells j a b l r h false) o → Tops above (Passing nil plus f g p cells j a b l r h true) o'
          → Tops above (Choice nil plus (site p) (scores f g p) (sub (tree p) v) l r h) (better_of above o o')
      both_tops o o' t t' =
          let all : Tops above (Through nil plus (site p) (scores f g p) j (middle p a) (memory (p.budget + 1) cells a) (memory (p.budget + 1) cells b) l r h) (better_of above o o') = tops_same
          (λ x. ⊎_elim (λ s. (false, s.0, s.1)) (λ s. (true, s.0, s.1)))
          (λ x s. by_state (λ m. Passing nil plus f g p cells j a b l r h m x) s.0 (s.1, s.2))
          (tops_better (order laws.ops) o o' t t') in
          let here = subst (λ (mid : ℕ). Tops above (Through nil plus (site p) (scores f g p) j mid (memory (p.budget + 1) cells a) (memory (p.budget + 1) cells b) l r h) (better_of above o o')) at.middle_is all in
          subst (λ (t : Tree). Tops above (Choice nil plus (site p) (scores f g p) t l r h) (better_of above o o')) (sym at.tree_is)
          (join_tops laws.ops (site p) (scores f g p) (modest p laws) j (sub (tree p) a) (sub (tree p) b) l r h (memory (p.budget + 1) cells a) (memory (p.budget + 1) cells b) (better_of above o o') halves_stand few_halves
          (λ l r i lt. filled.done a at.first_below l r i (omega arith)) (λ l r i lt. filled.done b at.second_below l r i (omega arith)) here)

-- ---- leaves

leaf_right : {F : Type 0} (above : F → F → Bool) → Order above → (nil x : F) (l r : Bool) (h : ℕ) → Tops above (λ z. (h ≡ 0) × (z ≡ cond l (cond r x nil) nil)) (leaf_cell nil x l r h)
leaf_right above laws nil x l r h = ⊎_elim
    (λ e. let is : leaf_cell nil x l r h ≡ Some (cond l (cond r x nil) nil) = cond-true _ _ _ (eq-eqb h 0 e) in
    rw is (record { reached = λ m f. (e, sym (some_is _ m f)); covers = λ z c. (cond l (cond r x nil) nil, refl, rw c.1 (laws.irreflexive _)) }))
    (λ n. let is : leaf_cell nil x l r h ≡ None = cond-false _ _ _ (ne_eqb h 0 n) in rw is (tops_none _ (λ z c. n c.0)))
    (cases_eq h 0)

module _ {F : Type 0} {f : Station → F} {g : Line → F} {nil : F} {plus : F → F → F} {above : F → F → Bool} {sz : F → ℕ} (laws : Laws f g nil plus above sz) (p : Plant) where
  pub leaf_cells : (v k : ℕ) (l r : Bool) (h : ℕ) (o : Option F) → sub (tree p) v ≡ leaf k → o ≡ leaf_cell nil (g (line p.lines.now k)) l r h → Tops above (Choice nil plus (site p) (scores f g p) (sub (tree p) v) l r h) o
  leaf_cells v k l r h o is e =
      let stands = subst (Builds (site p).net) is (sub_stands p v) in
      rw (e, is) (leaf_tops laws.ops (site p) (scores f g p) k l r h _ stands (leaf_right above (order laws.ops) nil (g (line p.lines.now k)) l r h))

  pub past_cells : (v : ℕ) (l r : Bool) (h : ℕ) (reach : ℕ) → reach ≡ min p.budget (most (site p) (sub (tree p) v)) → reach < h → h ≤ p.budget → Tops above (Choice nil plus (site p) (scores f g p) (sub (tree p) v) l r h) None
  past_cells v l r h reach is past le =
      let over : most (site p) (sub (tree p) v) < h = omega arith in
      tops_none _ (past_none laws.ops (site p) (scores f g p) (modest p laws) (sub (tree p) v) l r h over)
