use Rattle.std.proofs.Common.{length, arith}
use Rattle.filling.proofs.Standing.{few_nodes, row_room}
use Rattle.filling.proofs.tables.Tables.row.Goals as goal

pub row-requires : goal.row-requires
row-requires g c =
    let t = c.args.self.now in
    let s = c.args.spot in
    record {
      small = (omega arith, omega (arith, few_nodes t.plant.now));
      within = omega (arith, row_room t.plant.now (length t.cells.now) s.node s.left s.right t.room (omega arith));
    }
