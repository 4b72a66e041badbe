use Rattle.std.proofs.Common.{arith}
use Rattle.filling.proofs.Passes.{through_fair, through_tops}
use Rattle.filling.proofs.Standing.{joint_at}
use Rattle.filling.proofs.fill.through.Goals as goal

pub offset_bounds-reach-joint : goal.offset_bounds-reach-joint
offset_bounds-reach-joint g c = let at = joint_at c.args.joint.now in omega arith

pub bounds-reach-joint : goal.bounds-reach-joint
bounds-reach-joint g c = let at = joint_at c.args.joint.now in omega arith

pub offset_bounds-reach-joint-2 : goal.offset_bounds-reach-joint-2
offset_bounds-reach-joint-2 g c = let at = joint_at c.args.joint.now in omega arith

pub bounds-reach-joint-2 : goal.bounds-reach-joint-2
bounds-reach-joint-2 g c = let at = joint_at c.args.joint.now in omega arith

pub row-first-requires : goal.row-first-requires
row-first-requires g c =
    let at = joint_at c.args.joint.now in
    rw c.first_spot.ensures (record { node = omega arith; hours = omega (arith, c.requires.known.is c.args.joint.now.first at.first_below) })

pub row-second-requires : goal.row-second-requires
row-second-requires g c =
    let at = joint_at c.args.joint.now in
    rw c.second_spot.ensures (record { node = omega arith; hours = omega (arith, c.requires.known.is c.args.joint.now.second at.second_below) })

pub best_split-requires-clause-fair : goal.best_split-requires-clause-fair
best_split-requires-clause-fair g c =
    let it = c.args.joint.now in
    let t = it.tables.now in
    let first = rw c.first_spot.ensures at c.row-first.ensures in
    let second = rw c.second_spot.ensures at c.row-second.ensures in
    through_fair g.met.Y.Yardstick.lawful t.plant.now t.cells.now it.spot.node c.requires.filled c.args.reach.now c.requires.known it.join it.first it.second (joint_at it)
    it.spot.left it.spot.right it.spot.hours it.within c.args.opened c.row-first.result.now c.row-second.result.now c.in_ok-share.share
    first.long (λ i lt. first.same i (omega arith)) second.long (λ i lt. second.same i (omega arith)) c.in_ok-share.ensures

pub returns : goal.returns
returns g c =
    let it = c.args.joint.now in
    let t = it.tables.now in
    let first = rw c.first_spot.ensures at c.row-first.ensures in
    let second = rw c.second_spot.ensures at c.row-second.ensures in
    through_tops g.met.Y.Yardstick.lawful t.plant.now t.cells.now it.spot.node c.requires.filled c.args.reach.now c.requires.known it.join it.first it.second (joint_at it)
    it.spot.left it.spot.right it.spot.hours it.within c.args.opened c.row-first.result.now c.row-second.result.now c.in_ok-share.share
    first.long (λ i lt. first.same i (omega arith)) second.long (λ i lt. second.same i (omega arith)) c.in_ok-share.ensures
    c.best_split.result c.best_split.ensures
