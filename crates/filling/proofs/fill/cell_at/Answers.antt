use Rattle.std.proofs.Common.{get_or, arith}
use Rattle.filling.proofs.Passes.{leaf_cells, past_cells}
use Rattle.filling.proofs.Standing.{leaf_at, leaf_in, few_nodes}
use Rattle.filling.proofs.fill.cell_at.Goals as goal

pub bounds-reach-spot : goal.bounds-reach-spot
bounds-reach-spot g c = omega (arith, few_nodes c.args.tables.now.plant.now)

pub returns-then-spot-reach : goal.returns-then-spot-reach
returns-then-spot-reach g c =
    let s = c.args.spot in
    past_cells g.met.Y.Yardstick.lawful c.args.tables.now.plant.now s.node s.left s.right s.hours (get_or c.args.reach.now s.node 0) (c.requires.known.is s.node (omega arith)) c.if-spot-reach.true c.requires.hours

pub leaf_cell-requires : goal.leaf_cell-requires
leaf_cell-requires g c =
    let p = c.args.tables.now.plant.now in
    leaf_in p c.args.spot.node c.in-Leaf.line (leaf_at p c.args.spot.node c.in-Leaf.line c.requires.within c.in-Leaf.is)

pub returns-in-Leaf : goal.returns-in-Leaf
returns-in-Leaf g c =
    let p = c.args.tables.now.plant.now in
    let s = c.args.spot in
    leaf_cells g.met.Y.Yardstick.lawful p s.node c.in-Leaf.line s.left s.right s.hours c.leaf_cell.result (leaf_at p s.node c.in-Leaf.line c.requires.within c.in-Leaf.is) c.leaf_cell.ensures
