use Rattle.filling.proofs.Passes.{both_tops}
use Rattle.filling.proofs.Standing.{joint_at}
use Rattle.filling.proofs.fill.join_cell.Goals as goal

pub returns : goal.returns
returns g c =
    let it = c.args.joint.now in
    let t = it.tables.now in
    rw c.better.ensures
    (both_tops g.met.Y.Yardstick.lawful t.plant.now t.cells.now it.spot.node c.requires.filled c.args.reach.now c.requires.known it.join it.first it.second (joint_at it)
    it.spot.left it.spot.right it.spot.hours it.within c.through-shut.result c.through-open.result c.through-shut.ensures c.through-open.ensures)
