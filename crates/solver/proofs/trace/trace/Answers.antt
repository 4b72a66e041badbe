use Rattle.std.proofs.Common.{[], ◌∷◌, ◌++◌, List, sym, ap, ◌∙◌, subst, arith}
use Rattle.plant.specs.Held.{held}
use Rattle.joins.specs.declared.cell.Spot.{Spot}
use Rattle.filling.specs.Sites.{JoinAt}
use Rattle.filling.proofs.Standing.{few_nodes}
use Rattle.solver.specs.Pending.{PendingIn}
use Rattle.solver.proofs.Turns.{pushed, both_pushed, begun, entry, leaf_keeps, leaf_smaller, short, join_keeps, join_smaller}
use Rattle.solver.proofs.trace.trace.Goals as goal

pub loop-spot-init : goal.loop-spot-init
loop-spot-init g c =
    let t = c.args.tables.now in
    let top = c.args.root in
    let begins = rw (← c.with_ends-picked.ensures) at (begun t top c.requires.top c.requires.hours c.requires.holds) in
    let none = c.new-stack.ensures.held in
    let one = pushed c.push.result _ _ _ _ (held c.push.new.self) c.push.ensures.pushed (rw none (omega (arith, c.new-stack.ensures.room))) c.push.ensures.held in
    let is = one ∙ ap (λ (l : List Spot). l ++ top ∷ []) none in
    (subst (λ (l : List Spot). PendingIn t top l c.with_ends-picked.result.open) (sym is) begins, c.push.ensures.room ∙ c.new-stack.ensures.room)

pub offset_bounds-tables-spot : goal.offset_bounds-tables-spot
offset_bounds-tables-spot g c =
    let t = c.args.tables.now in
    let xs = held c.pop.new.self in
    let spot = c.in-Some.spot in
    let here = entry t c.args.root (held c.loop-spot.stack) xs spot c.loop-spot.picked.open c.loop-spot.invariant.0 c.in-Some.ensures.popped in
    omega (arith, few_nodes t.plant.now)

pub bounds : goal.bounds
bounds g c =
    let t = c.args.tables.now in
    let xs = held c.pop.new.self in
    let spot = c.in-Some.spot in
    (entry t c.args.root (held c.loop-spot.stack) xs spot c.loop-spot.picked.open c.loop-spot.invariant.0 c.in-Some.ensures.popped).within

pub invariant_of-joint : goal.invariant_of-joint
invariant_of-joint g c =
    let t = c.args.tables.now in
    let xs = held c.pop.new.self in
    let spot = c.in-Some.spot in
    let here = entry t c.args.root (held c.loop-spot.stack) xs spot c.loop-spot.picked.open c.loop-spot.invariant.0 c.in-Some.ensures.popped in
    record { stands = (here.within, c.in-Join.is); within = here.hours }

pub split_at-split-requires-clause-holds : goal.split_at-split-requires-clause-holds
split_at-split-requires-clause-holds g c =
    let t = c.args.tables.now in
    let xs = held c.pop.new.self in
    let spot = c.in-Some.spot in
    let here = entry t c.args.root (held c.loop-spot.stack) xs spot c.loop-spot.picked.open c.loop-spot.invariant.0 c.in-Some.ensures.popped in
    (here.goal, here.holds)

pub loop-spot-smaller-in-Join : goal.loop-spot-smaller-in-Join
loop-spot-smaller-in-Join g c =
    let t = c.args.tables.now in
    let xs = held c.pop.new.self in
    let spot = c.in-Some.spot in
    let stands : JoinAt t.plant.now spot.node c.in-Join.join c.in-Join.first c.in-Join.second = ((entry t c.args.root (held c.loop-spot.stack) xs spot c.loop-spot.picked.open c.loop-spot.invariant.0 c.in-Some.ensures.popped).within, c.in-Join.is) in
    let room = short t c.args.root (held c.loop-spot.stack) xs spot c.loop-spot.picked.open c.loop-spot.invariant.0 c.in-Some.ensures.popped c.in-Join.join c.in-Join.first c.in-Join.second stands in
    let both = both_pushed xs (held c.push-in-Join.new.self) (held c.push-in-Join-2.new.self) c.second_spot.result c.first_spot.result c.push-in-Join.result c.push-in-Join-2.result _ _
    (omega (arith, c.in-Some.ensures.room, c.loop-spot.invariant.1)) c.push-in-Join.ensures.room c.push-in-Join.ensures.pushed c.push-in-Join.ensures.held c.push-in-Join-2.ensures.pushed c.push-in-Join-2.ensures.held in
    let all = rw (c.second_spot.ensures, c.first_spot.ensures) at both in
    join_smaller t c.args.root (held c.loop-spot.stack) xs spot c.loop-spot.picked.open c.loop-spot.invariant.0 c.in-Some.ensures.popped c.in-Join.join c.in-Join.first c.in-Join.second stands c.split_at-split.result c.split_at-split.ensures (held c.push-in-Join-2.new.self) all

pub loop-spot-preserved-in-Join : goal.loop-spot-preserved-in-Join
loop-spot-preserved-in-Join g c =
    let t = c.args.tables.now in
    let xs = held c.pop.new.self in
    let spot = c.in-Some.spot in
    let stands : JoinAt t.plant.now spot.node c.in-Join.join c.in-Join.first c.in-Join.second = ((entry t c.args.root (held c.loop-spot.stack) xs spot c.loop-spot.picked.open c.loop-spot.invariant.0 c.in-Some.ensures.popped).within, c.in-Join.is) in
    let room = short t c.args.root (held c.loop-spot.stack) xs spot c.loop-spot.picked.open c.loop-spot.invariant.0 c.in-Some.ensures.popped c.in-Join.join c.in-Join.first c.in-Join.second stands in
    let both = both_pushed xs (held c.push-in-Join.new.self) (held c.push-in-Join-2.new.self) c.second_spot.result c.first_spot.result c.push-in-Join.result c.push-in-Join-2.result _ _
    (omega (arith, c.in-Some.ensures.room, c.loop-spot.invariant.1)) c.push-in-Join.ensures.room c.push-in-Join.ensures.pushed c.push-in-Join.ensures.held c.push-in-Join-2.ensures.pushed c.push-in-Join-2.ensures.held in
    let all = rw (c.second_spot.ensures, c.first_spot.ensures) at both in (
      join_keeps t c.args.root (held c.loop-spot.stack) xs spot c.loop-spot.picked.open c.loop-spot.invariant.0 c.in-Some.ensures.popped c.in-Join.join c.in-Join.first c.in-Join.second stands c.split_at-split.result c.split_at-split.ensures (held c.push-in-Join-2.new.self) all c.settle.new.picked.open c.settle.ensures,
      c.push-in-Join-2.ensures.room ∙ c.push-in-Join.ensures.room ∙ c.in-Some.ensures.room ∙ c.loop-spot.invariant.1,
    )

pub loop-spot-smaller : goal.loop-spot-smaller
loop-spot-smaller g c =
    let t = c.args.tables.now in
    let xs = held c.pop.new.self in
    let spot = c.in-Some.spot in
    leaf_smaller t c.args.root (held c.loop-spot.stack) xs spot c.loop-spot.picked.open c.loop-spot.invariant.0 c.in-Some.ensures.popped c.in_default-shape.field-0 c.in_default-shape.is

pub loop-spot-preserved : goal.loop-spot-preserved
loop-spot-preserved g c =
    let t = c.args.tables.now in
    let xs = held c.pop.new.self in
    let spot = c.in-Some.spot in
    (leaf_keeps t c.args.root (held c.loop-spot.stack) xs spot c.loop-spot.picked.open c.loop-spot.invariant.0 c.in-Some.ensures.popped c.in_default-shape.field-0 c.in_default-shape.is g.met.Y.Yardstick.lawful c.requires.filled, c.in-Some.ensures.room ∙ c.loop-spot.invariant.1)
