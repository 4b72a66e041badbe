use Rattle.std.proofs.Common.{true, false}
use Rattle.filling.proofs.Nodes.{row_keeps, rows_filled}
use Rattle.filling.proofs.fill.fill_node.Goals as goal

pub fill_row-requires-2-clause-filled : goal.fill_row-requires-2-clause-filled
fill_row-requires-2-clause-filled g c = row_keeps c.args.plant.now c.args.cells.now c.fill_row.new.cells c.args.node false false c.fill_row.auto.cells c.fill_row.ensures c.requires.filled

pub fill_row-requires-3-clause-filled : goal.fill_row-requires-3-clause-filled
fill_row-requires-3-clause-filled g c =
    let p = c.args.plant.now in
    let v = c.args.node in
    let one = row_keeps p c.args.cells.now c.fill_row.new.cells v false false c.fill_row.auto.cells c.fill_row.ensures c.requires.filled in
    row_keeps p c.fill_row.new.cells c.fill_row-2.new.cells v false true c.fill_row-2.auto.cells c.fill_row-2.ensures one

pub fill_row-requires-4-clause-filled : goal.fill_row-requires-4-clause-filled
fill_row-requires-4-clause-filled g c =
    let p = c.args.plant.now in
    let v = c.args.node in
    let one = row_keeps p c.args.cells.now c.fill_row.new.cells v false false c.fill_row.auto.cells c.fill_row.ensures c.requires.filled in
    let two = row_keeps p c.fill_row.new.cells c.fill_row-2.new.cells v false true c.fill_row-2.auto.cells c.fill_row-2.ensures one in
    row_keeps p c.fill_row-2.new.cells c.fill_row-3.new.cells v true false c.fill_row-3.auto.cells c.fill_row-3.ensures two

pub returns : goal.returns
returns g c =
    rows_filled c.args.plant.now c.args.cells.now c.fill_row.new.cells c.fill_row-2.new.cells c.fill_row-3.new.cells c.fill_row-4.new.cells c.args.node
    c.fill_row.ensures c.fill_row-2.ensures c.fill_row-3.ensures c.fill_row-4.ensures c.fill_row.auto.cells c.fill_row-2.auto.cells c.fill_row-3.auto.cells c.fill_row-4.auto.cells c.requires.filled
