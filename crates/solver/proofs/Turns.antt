-- A turn of the trace: what the cell that is taken off the stack has, and what stands after it. Assumes nothing.
use Rattle.std.proofs.Common.{◌≡◌, ℕ, ◌+◌, ◌<◌, ◌≤◌, Bool, cond, ltb, List, [], ◌∷◌, ◌++◌, length, get_or, ap, ◌∙◌, subst, arith, length-append}
use Rattle.std.proofs.lemmas.Bool.{lt-ltb}
use Rattle.plant.specs.declared.tree.Join.{Join}
use Rattle.plant.specs.declared.tree.Shape.TheVariants as S
use Rattle.plant.specs.Nodes.{no_node}
use Rattle.plant.specs.Trees.{leaf}
use Rattle.yardsticks.specs.declared.yardstick.Yardstick.{Ghosts}
use Rattle.yardsticks.specs.Laws.{Laws}
use Rattle.cells.specs.Subtrees.{sub, leaves}
use Rattle.joins.specs.declared.cell.Spot.{Spot}
use Rattle.filling.specs.declared.tables.Tables.{Tables}
use Rattle.filling.specs.Sites.{tree, middle, JoinAt, HalvesAt}
use Rattle.filling.specs.Tabled.{AllFilled}
use Rattle.filling.proofs.Standing.{join_at, leaf_at}
use Rattle.picking.specs.Offers.{root}
use Rattle.solver.specs.declared.split.Split.{Split}
use Rattle.solver.specs.Pending.{settled, first_spot, second_spot, Entry, Holds, PendingIn, SplitOf, load, size_at, leaves_at, with_ends}
use Rattle.solver.proofs.Pendings.{in_new, load_more, stack_short, leaves_pos, pending_start}
use Rattle.solver.proofs.Steps.{step_leaf, step_join, step_less, leaves_halves, size_leaf, top_wide, top_light, top_entry}

-- ---- what is pushed where there is room

pub pushed : {T : Type 0} (done : Bool) (n m : ℕ) (more kept now : List T) → done ≡ ltb n m → n < m → now ≡ cond done more kept → now ≡ more
pushed done n m more kept now is lt e = rw (is, lt-ltb n m lt) at e

pub both_pushed : {T : Type 0} (xs ys zs : List T) (u v : T) (d e : Bool) (m n : ℕ) → length xs + 2 ≤ m → n ≡ m
    → d ≡ ltb (length xs) m → ys ≡ cond d (xs ++ u ∷ []) xs → e ≡ ltb (length ys) n → zs ≡ cond e (ys ++ v ∷ []) ys → zs ≡ (xs ++ u ∷ []) ++ v ∷ []
both_pushed xs ys zs u v d e m n room same di yi ei zi =
    let first = pushed d (length xs) m (xs ++ u ∷ []) xs ys di (omega arith) yi in
    let long : length ys ≡ length xs + 1 = ap length first ∙ length-append xs (u ∷ []) in
    pushed e (length ys) n (ys ++ v ∷ []) ys zs ei (omega arith) zi ∙ ap (λ (l : List _). l ++ v ∷ []) first

-- ---- the first cell

module _ {Y F : Type 0} {y : Ghosts Y F} (t : Tables Y F y) (top : Spot) where
  pub begun : top.node ≡ root t.plant.now → top.hours ≤ t.plant.now.budget → Holds t.plant.now t.cells.now top → PendingIn t top (top ∷ []) (with_ends t.plant.now top)
  begun at le holds = pending_start y.nil y.plus y.station y.line t.plant.now t.cells.now top (with_ends t.plant.now top)
      (top_wide t.plant.now t.cells.now top at) (top_entry t.plant.now t.cells.now top at le holds) (top_light t.plant.now t.cells.now top at)

  -- ---- the cell x that is taken off
  module _ (ys xs : List Spot) (x : Spot) (marks : List Bool) (old : PendingIn t top ys marks) (popped : ys ≡ xs ++ x ∷ []) where
    here : PendingIn t top (xs ++ x ∷ []) marks
    here = subst (λ (zs : List Spot). PendingIn t top zs marks) popped old

    pub entry : Entry t.plant.now t.cells.now marks x
    entry = here.each x (in_new x xs)

    -- of a leaf
    module _ (k : ℕ) (is : (get_or t.plant.now.nodes.now x.node no_node).shape ≡ S.Leaf k) where
      leaf_is : sub (tree t.plant.now) x.node ≡ leaf k
      leaf_is = leaf_at t.plant.now x.node k entry.within is

      pub leaf_keeps : Laws y.station y.line y.nil y.plus y.above y.size → AllFilled t → PendingIn t top xs marks
      leaf_keeps laws filled = step_leaf y.nil y.plus y.station y.line t.plant.now t.cells.now top xs x marks here y.above y.size laws filled k leaf_is

      pub leaf_smaller : load (size_at t.plant.now) xs < load (size_at t.plant.now) ys
      leaf_smaller = omega (arith, ap (load (size_at t.plant.now)) popped, load_more (size_at t.plant.now) xs x, size_leaf t.plant.now x k leaf_is)

    -- of a join
    module _ (j : Join) (a b : ℕ) (stands : JoinAt t.plant.now x.node j a b) where
      at : HalvesAt t.plant.now x.node j a b
      at = join_at t.plant.now x.node j a b stands

      -- there is room for its halves
      pub short : length xs + 2 ≤ 128
      short =
          let two_leaves = ap leaves at.tree_is ∙ leaves_halves j (sub (tree t.plant.now) a) (sub (tree t.plant.now) b) in
          omega (arith, stack_short t.plant.now xs, load_more (leaves_at t.plant.now) xs x, here.light, leaves_pos (sub (tree t.plant.now) a), leaves_pos (sub (tree t.plant.now) b))

      module _ (s : Split) (of : SplitOf y.nil y.plus y.station y.line t.plant.now t.cells.now j a b x s) (zs : List Spot) (all : zs ≡ (xs ++ second_spot j b x s ∷ []) ++ first_spot j a x s ∷ []) where
        pub join_keeps : (ms : List Bool) → ms ≡ settled j (middle t.plant.now a) s.opened marks → PendingIn t top zs ms
        join_keeps ms is = rw (all, is) (step_join y.nil y.plus y.station y.line t.plant.now t.cells.now top xs x marks here j a b at of.0 s of.1 of.2)

        pub join_smaller : load (size_at t.plant.now) zs < load (size_at t.plant.now) ys
        join_smaller =
            let less = step_less y.nil y.plus y.station y.line t.plant.now t.cells.now top xs x marks here j a b at of.0 s of.1 of.2 in
            omega (arith, less, ap (load (size_at t.plant.now)) all, ap (load (size_at t.plant.now)) popped)
