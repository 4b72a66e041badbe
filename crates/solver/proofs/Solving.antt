-- Filled tables solve every node, so a cell that holds something has a split. Assumes nothing.
use Rattle.std.proofs.Common.{◌≡◌, ℕ, ◌+◌, ◌*◌, ◌<◌, ◌≤◌, Bool, true, false, List, length, Some, None, Option, sym, refl, ap, ◌∙◌, subst, arith}
use Rattle.plant.specs.declared.records.Station.{Station}
use Rattle.plant.specs.declared.records.Line.{Line}
use Rattle.plant.specs.declared.site.Plant.{Plant}
use Rattle.plant.specs.declared.tree.Join.{Join}
use Rattle.plant.specs.declared.tree.Join.TheVariants.{Series, Parallel}
use Rattle.plant.specs.Nodes.{size, joined}
use Rattle.plant.specs.Trees.{Net, Tree, leaf, series, parallel, right, Builds}
use Rattle.yardsticks.specs.Laws.{Laws, limit, record_limit}
use Rattle.cells.specs.Inside.{Choice, records, inner_hours}
use Rattle.cells.specs.Joins.{first_right, second_left, passes, between_figure, between_hours}
use Rattle.cells.specs.Subtrees.{sub}
use Rattle.cells.specs.Tables.{memory}
use Rattle.cells.specs.Tops.{Tops}
use Rattle.cells.specs.Traces.{first_of, second_of, Attains, Solved}
use Rattle.cells.proofs.Subtrees.{Place, at_leaf, at_join, place}
use Rattle.cells.proofs.Tracing.{series_attains, parallel_attains}
use Rattle.yardsticks.specs.declared.yardstick.Yardstick.{Ghosts}
use Rattle.filling.specs.declared.joint.Joint.{Joint}
use Rattle.filling.specs.Sites.{site, scores, tree, Filled, HalvesAt}
use Rattle.filling.specs.Tabled.{AllFilled}
use Rattle.solver.specs.declared.split.Split.{Split}
use Rattle.solver.specs.Splits.{PassAttains, SplitsJoint}
use Rattle.std.specs.Option.{IsSome}
use Rattle.filling.proofs.Standing.{joint_at, node_count, modest, few_sub, sub_stands}

leaf_no_join : {X : Type 0} (j : Join) (a b : Tree) (k : ℕ) → leaf k ≡ joined j a b → X
leaf_no_join Series a b k e = let z : ◌≡◌ {A = ℕ} 0 1 = cc in absurd (omega arith)
leaf_no_join Parallel a b k e = let z : ◌≡◌ {A = ℕ} 0 1 = cc in absurd (omega arith)

join_halves : (i j : Join) (c d a b : Tree) → joined i c d ≡ joined j a b → (c ≡ a) × (d ≡ b)
join_halves Series Series c d a b e = (cc, cc)
join_halves Series Parallel c d a b e = let z : ◌≡◌ {A = ℕ} 0 1 = cc in absurd (omega arith)
join_halves Parallel Series c d a b e = let z : ◌≡◌ {A = ℕ} 0 1 = cc in absurd (omega arith)
join_halves Parallel Parallel c d a b e = (cc, cc)

halves_here : (N : Net) (t : Tree) (v : ℕ) (j : Join) (a b : Tree) → Place N 0 t v → sub t v ≡ joined j a b → (sub t (first_of v b) ≡ a) × (sub t (second_of v) ≡ b) × (size a + size b ≤ v)
halves_here N t v j a b (at_leaf k s e) is = leaf_no_join j a b k (sym s ∙ is)
halves_here N t v j a b (at_join i c d s le sc sd e) is =
    let h = join_halves i j c d a b (sym s ∙ is) in
    let x = ap size h.0 in
    let y = ap size h.1 in
    (ap (λ (u : Tree). sub t (first_of v u)) (sym h.1) ∙ sc ∙ h.0, sd ∙ h.1, omega arith)

module _ {F : Type 0} {f : Station → F} {g : Line → F} {nil : F} {plus : F → F → F} {above : F → F → Bool} {sz : F → ℕ} (laws : Laws f g nil plus above sz) (p : Plant) (cells : List (Option F))
    (filled : Filled nil plus above f g p cells (length p.nodes.now)) where
  abbrev Right : ℕ → Tree → Type 0
  Right v t = (l r : Bool) (h : ℕ) → h ≤ p.budget → Tops above (Choice nil plus (site p) (scores f g p) t l r h) (memory (p.budget + 1) cells v l r h)

  right_at : (v : ℕ) (t : Tree) → v < length p.nodes.now → sub (tree p) v ≡ t → Right v t
  right_at v t lt is = subst (Right v) is (filled.done v lt)

  pub solved : (t : Tree) (v : ℕ) → v < length p.nodes.now → sub (tree p) v ≡ t → Solved nil plus above (site p) (scores f g p) (memory (p.budget + 1) cells) p.budget v t
  solved (leaf k) v lt is = right_at v (leaf k) lt is
  solved (series a b) v lt is =
      let h = halves_here (site p).net (tree p) v Series a b (place (site p).net 0 (tree p) v (omega (arith, node_count p))) is in
      (solved a (first_of v b) (omega arith) h.0, solved b (second_of v) (omega arith) h.1, right_at v (series a b) lt is)
  solved (parallel a b) v lt is =
      let h = halves_here (site p).net (tree p) v Parallel a b (place (site p).net 0 (tree p) v (omega (arith, node_count p))) is in
      (solved a (first_of v b) (omega arith) h.0, solved b (second_of v) (omega arith) h.1, right_at v (parallel a b) lt is)

  abbrev HalvesGive : Join → ℕ → ℕ → ℕ → Bool → Bool → ℕ → F → Type 0
  HalvesGive j x y mid l r h goal = (m : Bool) × (i : ℕ) × (i' : ℕ) × (passes (site p) j mid m ≡ true)
      × Attains plus (memory (p.budget + 1) cells x l (first_right j r m) i) (memory (p.budget + 1) cells y (second_left j l m) r i') (between_figure nil (scores f g p) j mid m) (between_hours (site p) j mid m) h goal i i'

  tree_gives : (j : Join) (A B : Tree) (v : ℕ) (l r : Bool) (h : ℕ) (goal : F) → v < length p.nodes.now → sub (tree p) v ≡ joined j A B → h ≤ p.budget → memory (p.budget + 1) cells v l r h ≡ Some goal
      → HalvesGive j (first_of v B) (second_of v) (right (site p).net A) l r h goal
  tree_gives Series A B v l r h goal lt is le cell =
      let c = (right_at v (series A B) lt is l r h le).reached goal cell in
      let w = subst (Builds (site p).net) is (sub_stands p v) in
      let few = subst (λ (t : Tree). records t * record_limit ≤ limit) is (few_sub p v) in
      let u = series_attains laws.ops (site p) (scores f g p) (modest p laws) (memory (p.budget + 1) cells) p.budget v A B l r h goal c.0 w few (solved (series A B) v lt is) le cell c.1 (sym c.2) in
      (c.0 (right (site p).net A), inner_hours (site p) A c.0, inner_hours (site p) B c.0, u.0.0, u.0.1)
  tree_gives Parallel A B v l r h goal lt is le cell =
      let c = (right_at v (parallel A B) lt is l r h le).reached goal cell in
      let w = subst (Builds (site p).net) is (sub_stands p v) in
      let few = subst (λ (t : Tree). records t * record_limit ≤ limit) is (few_sub p v) in
      let u = parallel_attains laws.ops (site p) (scores f g p) (modest p laws) (memory (p.budget + 1) cells) p.budget v A B l r h goal c.0 w few (solved (parallel A B) v lt is) le cell c.1 (sym c.2) in
      (false, inner_hours (site p) A c.0, inner_hours (site p) B c.0, refl, u.0)

  -- a cell of a join that holds something has a split
  pub split_some : (v : ℕ) (j : Join) (a b : ℕ) (l r : Bool) (h : ℕ) (goal : F) → HalvesAt p v j a b → h ≤ p.budget → memory (p.budget + 1) cells v l r h ≡ Some goal
      → (m : Bool) × (i : ℕ) × (i' : ℕ) × PassAttains nil plus f g p cells j a b l r h goal m i i'
  split_some v j a b l r h goal at le cell =
      let u = tree_gives j (sub (tree p) a) (sub (tree p) b) v l r h goal at.within at.tree_is le cell in
      let one = subst (λ (x : ℕ). HalvesGive j x (second_of v) (right (site p).net (sub (tree p) a)) l r h goal) (sym at.first_is) u in
      let two = subst (λ (y : ℕ). HalvesGive j a y (right (site p).net (sub (tree p) a)) l r h goal) (sym at.second_is) one in
      let end = subst (λ (z : ℕ). HalvesGive j a b z l r h goal) (sym at.middle_is) two in
      (end.0, end.1, end.2, (end.3, end.4))

module _ {Y F : Type 0} {y : Ghosts Y F} (it : Joint Y F y) (laws : Laws y.station y.line y.nil y.plus y.above y.size) (filled : AllFilled it.tables.now) (goal : F)
    (cell : memory (it.tables.now.plant.now.budget + 1) it.tables.now.cells.now it.spot.node it.spot.left it.spot.right it.spot.hours ≡ Some goal) where
  pub joint_split : (o : Option Split) → SplitsJoint it goal o → IsSome o
  joint_split (Some s) h = refl
  joint_split None h =
      let u = split_some laws it.tables.now.plant.now it.tables.now.cells.now filled it.spot.node it.join it.first it.second it.spot.left it.spot.right it.spot.hours goal (joint_at it) it.within cell in
      absurd (h u.0 u.1 u.2 u.3)
