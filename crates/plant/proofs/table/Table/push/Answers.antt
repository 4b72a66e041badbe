use Rattle.std.proofs.Common.{◌≡◌, ◌<◌, length, sym, arith, lt-ltb}
use Rattle.plant.specs.Tables.{listed}
use Rattle.std.proofs.lemmas.List.{take_more_set, length-take-le}
use Rattle.plant.proofs.table.Table.push.Goals as goal

pub returns : goal.returns
returns g c =
    let t = c.args.self.now in
    let lt : t.count < length t.rows = omega arith in
    let long : length (listed t) ≡ t.count = length-take-le t.count t.rows (omega arith) in
    record {
      pushed = sym (lt-ltb _ _ (omega arith));
      listed = take_more_set t.rows t.count c.args.row lt;
    }
