-- What a plant gives: its counts, its nodes, and the room for their rows. Assumes nothing.
use Rattle.std.proofs.Common.{◌≡◌, ℕ, ◌+◌, ◌-◌, ◌*◌, ◌<◌, ◌≤◌, min, Bool, true, false, List, length, get_or, Option, sym, refl, ap, ◌∙◌, subst, mul-le-mul_right, arith}
use Rattle.plant.specs.declared.records.Station.{Station}
use Rattle.plant.specs.declared.records.Line.{Line}
use Rattle.plant.specs.declared.tree.Join.{Join}
use Rattle.plant.specs.declared.tree.Join.TheVariants.{Series, Parallel}
use Rattle.plant.specs.declared.tree.Shape.TheVariants as S
use Rattle.plant.specs.declared.tree.Node.{Node}
use Rattle.plant.specs.declared.site.Plant.{Plant}
use Rattle.plant.specs.Nodes.{size, numbered, no_node, joined}
use Rattle.plant.specs.Trees.{Tree, leaf, left, right, inner, Builds}
use Rattle.yardsticks.specs.Laws.{Laws, limit, record_limit}
use Rattle.cells.specs.Inside.{Site, Modest, records, line_of}
use Rattle.cells.specs.Subtrees.{sub}
use Rattle.cells.specs.Tables.{bit, row_start, need_of, most}
use Rattle.cells.specs.Tops.{cell_of}
use Rattle.cells.specs.Joins.{between_hours}
use Rattle.std.proofs.lemmas.Bool.{eq-eqb}
use Rattle.cells.specs.Traces.{first_of, second_of}
use Rattle.cells.specs.Whole.{Whole}
use Rattle.cells.proofs.Counting.{size_leaves, whole_leaves}
use Rattle.cells.proofs.Filling.{bit_small, row_within, done_kept}
use Rattle.cells.proofs.Leaves.{draws_whole, scores_modest, ends_within, inner_within}
use Rattle.cells.proofs.Pieces.{left_on, right_on}
use Rattle.cells.proofs.Root.{whole_records}
use Rattle.cells.proofs.Subtrees.{Place, at_leaf, at_join, place, numbered_length, sub_builds, sub_records, sub_lines, sub_last, size_pos as pos_size}
use Rattle.yardsticks.specs.declared.yardstick.Yardstick.{Ghosts}
use Rattle.filling.specs.declared.joint.Joint.{Joint}
use Rattle.filling.specs.Sites.{site, scores, tree, middle, Filled, JoinAt, HalvesAt}

module _ (p : Plant) where
  pub whole : Whole (site p) (length p.stations.now) (length p.lines.now) (tree p)
  whole = draws_whole (site p) (length p.stations.now) (length p.lines.now) (tree p) p.drawn.drawn.draws

  pub node_count : length p.nodes.now ≡ size (tree p)
  node_count = ap length p.drawn.drawn.ordered ∙ numbered_length (site p).net 0 (tree p)

  pub line_count : size (tree p) + 1 ≡ 2 * length p.lines.now
  line_count = omega (arith, size_leaves (tree p), whole_leaves (site p) (length p.stations.now) (length p.lines.now) (tree p) whole)

  pub few_nodes : length p.nodes.now ≤ 255
  few_nodes = omega (arith, node_count, line_count, p.drawn.few_lines)

  pub need_is : need_of (length p.lines.now) p.budget ≡ length p.nodes.now * 4 * (p.budget + 1)
  need_is = let e : 2 * length p.lines.now - 1 ≡ length p.nodes.now = omega (arith, node_count, line_count) in ap (λ (n : ℕ). n * 4 * (p.budget + 1)) e

  -- a row of a node lies within the memory
  pub row_room : (room v : ℕ) (l r : Bool) → need_of (length p.lines.now) p.budget ≤ room → v < length p.nodes.now → row_start (p.budget + 1) v l r + (p.budget + 1) ≤ room
  row_room room v l r enough lt = omega (arith, need_is, row_within (p.budget + 1) (length p.nodes.now) v l r lt)

  -- ---- nodes
  pub node_is : (v : ℕ) → get_or p.nodes.now v no_node ≡ get_or (numbered (site p).net 0 (tree p)) v no_node
  node_is v = ap (λ (ns : List Node). get_or ns v no_node) p.drawn.drawn.ordered

  lines_in : (v k : ℕ) → line_of (sub (tree p) v) k ≡ true → ((site p).net.from k < length p.stations.now) × ((site p).net.to k < length p.stations.now)
  lines_in v k e = p.drawn.drawn.draws.lines_within k (sub_lines (length p.lines.now) (tree p) v whole.lines_within k e)

  pub ends_in : (v : ℕ) → (left (site p).net (sub (tree p) v) < length p.stations.now) × (right (site p).net (sub (tree p) v) < length p.stations.now)
  ends_in v = ends_within (site p) (sub (tree p) v) (length p.stations.now) (lines_in v)

  pub inner_in : (v i : ℕ) → inner (site p).net (sub (tree p) v) i ≡ true → i < length p.stations.now
  inner_in v i e = inner_within (site p) (sub (tree p) v) (length p.stations.now) (lines_in v) i e

  place_ends : (v : ℕ) → Place (site p).net 0 (tree p) v → ((get_or p.nodes.now v no_node).left ≡ left (site p).net (sub (tree p) v)) × ((get_or p.nodes.now v no_node).right ≡ right (site p).net (sub (tree p) v))
  place_ends v (at_leaf k s e) = (ap (λ (x : Node). x.left) (node_is v ∙ e) ∙ ap (left (site p).net) (sym s), ap (λ (x : Node). x.right) (node_is v ∙ e) ∙ ap (right (site p).net) (sym s))
  place_ends v (at_join j a b s le sa sb e) = (ap (λ (x : Node). x.left) (node_is v ∙ e) ∙ ap (left (site p).net) (sym s), ap (λ (x : Node). x.right) (node_is v ∙ e) ∙ ap (right (site p).net) (sym s))

  pub node_ends : (v : ℕ) → v < length p.nodes.now → ((get_or p.nodes.now v no_node).left ≡ left (site p).net (sub (tree p) v)) × ((get_or p.nodes.now v no_node).right ≡ right (site p).net (sub (tree p) v))
  node_ends v lt = place_ends v (place (site p).net 0 (tree p) v (omega (arith, node_count)))

  leaf_here : (v k : ℕ) → Place (site p).net 0 (tree p) v → (get_or p.nodes.now v no_node).shape ≡ S.Leaf k → sub (tree p) v ≡ leaf k
  leaf_here v k (at_leaf i s e) is = let same : S.Leaf i ≡ S.Leaf k = sym (ap (λ (x : Node). x.shape) (node_is v ∙ e)) ∙ is in let eq : i ≡ k = cc in s ∙ ap leaf eq
  leaf_here v k (at_join j a b s le sa sb e) is =
      let same : S.Join j (0 + first_of v b) (0 + second_of v) ≡ S.Leaf k = sym (ap (λ (x : Node). x.shape) (node_is v ∙ e)) ∙ is in
      let z : ◌≡◌ {A = ℕ} 0 1 = cc in absurd (omega arith)

  pub leaf_at : (v k : ℕ) → v < length p.nodes.now → (get_or p.nodes.now v no_node).shape ≡ S.Leaf k → sub (tree p) v ≡ leaf k
  leaf_at v k lt is = leaf_here v k (place (site p).net 0 (tree p) v (omega (arith, node_count))) is

  join_here : (v : ℕ) (j : Join) (a b : ℕ) → v < length p.nodes.now → Place (site p).net 0 (tree p) v → (get_or p.nodes.now v no_node).shape ≡ S.Join j a b → HalvesAt p v j a b
  join_here v j a b lt (at_leaf i s e) is =
      let same : S.Leaf i ≡ S.Join j a b = sym (ap (λ (x : Node). x.shape) (node_is v ∙ e)) ∙ is in
      let z : ◌≡◌ {A = ℕ} 0 1 = cc in absurd (omega arith)
  join_here v j a b lt (at_join j' A B s le sa sb e) is =
      let same : S.Join j' (0 + first_of v B) (0 + second_of v) ≡ S.Join j a b = sym (ap (λ (x : Node). x.shape) (node_is v ∙ e)) ∙ is in
      let ej : j' ≡ j = cc in
      let ea : 0 + first_of v B ≡ a = cc in
      let eb : 0 + second_of v ≡ b = cc in
      let fa : first_of v B ≡ a = omega arith in
      let fb : second_of v ≡ b = omega arith in
      let ta : sub (tree p) a ≡ A = ap (sub (tree p)) (sym fa) ∙ sa in
      let tb : sub (tree p) b ≡ B = ap (sub (tree p)) (sym fb) ∙ sb in
      let pa = pos_size A in
      let pb = pos_size B in
      let below : a < v = omega arith in
      record {
        few = omega (arith, few_nodes);
        within = lt;
        first_below = below;
        second_below = omega arith;
        tree_is = s ∙ rw (ej, ta, tb);
        first_is = sym fa ∙ ap (first_of v) (sym tb);
        second_is = sym fb;
        middle_is = (node_ends a (omega arith)).1;
        middle_in = omega (arith, (node_ends a (omega arith)).1, (ends_in a).1);
      }

  pub join_at : (v : ℕ) (j : Join) (a b : ℕ) → JoinAt p v j a b → HalvesAt p v j a b
  join_at v j a b at = let lt = at.0 in join_here v j a b lt (place (site p).net 0 (tree p) v (omega (arith, node_count))) at.1

  -- ---- the root
  pub some_nodes : 0 < length p.nodes.now
  some_nodes = omega (arith, node_count, pos_size (tree p))

  pub root_tree : sub (tree p) (length p.nodes.now - 1) ≡ tree p
  root_tree = let e : length p.nodes.now - 1 ≡ size (tree p) - 1 = omega (arith, node_count) in ap (sub (tree p)) e ∙ sub_last (tree p)

  pub root_ends : ((get_or p.nodes.now (length p.nodes.now - 1) no_node).left ≡ left (site p).net (tree p)) × ((get_or p.nodes.now (length p.nodes.now - 1) no_node).right ≡ right (site p).net (tree p))
  root_ends =
      let e = node_ends (length p.nodes.now - 1) (omega (arith, some_nodes)) in
      (e.0 ∙ ap (left (site p).net) root_tree, e.1 ∙ ap (right (site p).net) root_tree)

  pub root_in : (left (site p).net (tree p) < length p.stations.now) × (right (site p).net (tree p) < length p.stations.now)
  root_in = (whole.stations_within _ (left_on (site p).net (tree p)), whole.stations_within _ (right_on (site p).net (tree p)))

  -- ---- sizes
  pub few_records : records (tree p) * record_limit ≤ limit
  few_records = omega (arith, whole_records (site p) (tree p) (length p.stations.now) (length p.lines.now) whole, p.drawn.few_stations, p.drawn.few_lines)

  pub few_sub : (v : ℕ) → records (sub (tree p) v) * record_limit ≤ limit
  few_sub v = omega (arith, few_records, sub_records (records (tree p)) (tree p) v (omega arith))

  pub sub_stands : (v : ℕ) → Builds (site p).net (sub (tree p) v)
  sub_stands v = sub_builds (site p).net (tree p) v whole.builds

  pub modest : {F : Type 0} {f : Station → F} {g : Line → F} {nil : F} {plus : F → F → F} {above : F → F → Bool} {sz : F → ℕ} → Laws f g nil plus above sz → Modest sz record_limit (scores f g p)
  modest laws = scores_modest laws p.stations.now p.lines.now p.drawn.stations p.drawn.lines

  pub leaf_in : (v k : ℕ) → sub (tree p) v ≡ leaf k → k < length p.lines.now
  leaf_in v k is = sub_lines (length p.lines.now) (tree p) v whole.lines_within k (subst (λ (t : Tree). line_of t k ≡ true) (sym is) (eq-eqb k k refl))

-- the halves of a cell of a join
pub joint_at : {Y F : Type 0} {y : Ghosts Y F} (c : Joint Y F y) → HalvesAt c.tables.now.plant.now c.spot.node c.join c.first c.second
joint_at c = join_at c.tables.now.plant.now c.spot.node c.join c.first c.second c.stands

most_join : (N : Site) (j : Join) (a b : Tree) → most N (joined j a b) ≡ most N a + most N b + between_hours N j (right N.net a) true
most_join N Series a b = refl
most_join N Parallel a b = refl

-- the reach of a join, from those of its halves
pub reach_join : (p : Plant) (v : ℕ) (j : Join) (a b : ℕ) (x y z r : ℕ) → HalvesAt p v j a b → x ≡ min p.budget (most (site p) (sub (tree p) a)) → y ≡ min p.budget (most (site p) (sub (tree p) b))
    → z ≡ between_hours (site p) j (middle p a) true → r ≡ min p.budget (x + y + z) → r ≡ min p.budget (most (site p) (sub (tree p) v))
reach_join p v j a b x y z r at ex ey ez er =
    let e = ap (most (site p)) at.tree_is ∙ most_join (site p) j (sub (tree p) a) (sub (tree p) b) in
    let f = ap (λ (mid : ℕ). between_hours (site p) j mid true) at.middle_is in
    omega arith

-- rows begin at small numbers
pub row_small : (w v : ℕ) (l r : Bool) → w ≤ 1001 → v < 255 → row_start w v l r ≤ 1020019
row_small w v l r lw lv =
    let le : 4 * v + 2 * bit l + bit r ≤ 1019 = omega (arith, bit_small l, bit_small r) in
    omega (arith, mul-le-mul_right w le)

-- what was filled stays so while later rows are written
pub filled_kept : {F : Type 0} {nil : F} {plus : F → F → F} {above : F → F → Bool} {f : Station → F} {g : Line → F} (p : Plant) (xs ys : List (Option F)) (v : ℕ) (l r : Bool) → length ys ≡ length xs
    → ((k : ℕ) → k < row_start (p.budget + 1) v l r → cell_of ys k ≡ cell_of xs k) → Filled nil plus above f g p xs v → Filled nil plus above f g p ys v
filled_kept {F} {nil} {plus} {above} {f} {g} p xs ys v l r long same filled =
    let le : 4 * v + 0 + 0 ≤ 4 * v + 2 * bit l + bit r = omega arith in
    let start : row_start (p.budget + 1) v false false ≤ row_start (p.budget + 1) v l r = mul-le-mul_right (p.budget + 1) le in
    record {
      room = omega (arith, filled.room);
      done = done_kept nil plus above (site p) (scores f g p) (tree p) p.budget xs ys v (λ k lt. same k (omega arith)) filled.done;
    }
