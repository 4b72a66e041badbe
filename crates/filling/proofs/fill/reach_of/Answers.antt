use Rattle.std.proofs.Common.{get_or, ap, arith}
use Rattle.cells.specs.Tables.{most}
use Rattle.filling.specs.Sites.{site}
use Rattle.filling.proofs.Standing.{join_at, leaf_at, reach_join}
use Rattle.filling.proofs.fill.reach_of.Goals as goal

pub offset_bounds-reach-first : goal.offset_bounds-reach-first
offset_bounds-reach-first c = let at = join_at c.args.plant.now c.args.node c.in-Join.join c.in-Join.first c.in-Join.second (c.requires.within, c.in-Join.is) in omega arith

pub bounds-reach-first : goal.bounds-reach-first
bounds-reach-first c = let at = join_at c.args.plant.now c.args.node c.in-Join.join c.in-Join.first c.in-Join.second (c.requires.within, c.in-Join.is) in omega arith

pub offset_bounds-reach-second : goal.offset_bounds-reach-second
offset_bounds-reach-second c = let at = join_at c.args.plant.now c.args.node c.in-Join.join c.in-Join.first c.in-Join.second (c.requires.within, c.in-Join.is) in omega arith

pub bounds-reach-second : goal.bounds-reach-second
bounds-reach-second c = let at = join_at c.args.plant.now c.args.node c.in-Join.join c.in-Join.first c.in-Join.second (c.requires.within, c.in-Join.is) in omega arith

pub overflow_add-hours : goal.overflow_add-hours
overflow_add-hours c =
    let at = join_at c.args.plant.now c.args.node c.in-Join.join c.in-Join.first c.in-Join.second (c.requires.within, c.in-Join.is) in
    omega (arith, c.requires.known.is c.in-Join.first (omega arith), c.requires.known.is c.in-Join.second (omega arith))

pub overflow_add-hours-in-Join : goal.overflow_add-hours-in-Join
overflow_add-hours-in-Join c =
    let at = join_at c.args.plant.now c.args.node c.in-Join.join c.in-Join.first c.in-Join.second (c.requires.within, c.in-Join.is) in
    omega (arith, c.requires.known.is c.in-Join.first (omega arith), c.requires.known.is c.in-Join.second (omega arith))

pub middle_hours-requires : goal.middle_hours-requires
middle_hours-requires c =
    let at = join_at c.args.plant.now c.args.node c.in-Join.join c.in-Join.first c.in-Join.second (c.requires.within, c.in-Join.is) in
    record { first = omega arith; within = at.middle_in }

pub returns-in-Leaf : goal.returns-in-Leaf
returns-in-Leaf c =
    let p = c.args.plant.now in
    let e = ap (most (site p)) (leaf_at p c.args.node c.in-Leaf.field-0 c.requires.within c.in-Leaf.is) in
    omega arith

pub returns-in-Join : goal.returns-in-Join
returns-in-Join c =
    let a = c.in-Join.first in
    let b = c.in-Join.second in
    let at = join_at c.args.plant.now c.args.node c.in-Join.join c.in-Join.first c.in-Join.second (c.requires.within, c.in-Join.is) in
    reach_join c.args.plant.now c.args.node c.in-Join.join a b (get_or c.args.reach.now a 0) (get_or c.args.reach.now b 0) c.middle_hours.result _ at
    (c.requires.known.is a at.first_below) (c.requires.known.is b at.second_below) c.middle_hours.ensures.value (omega arith)
