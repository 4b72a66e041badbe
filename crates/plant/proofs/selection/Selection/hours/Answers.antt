use Rattle.std.proofs.Common.{◌+◌, ◌≤◌, arith}
use Rattle.plant.specs.Records.{station}
use Rattle.plant.specs.Selections.{open_station, among}
use Rattle.plant.proofs.Sums.{upto_more, cond_small}
use Rattle.plant.proofs.selection.Selection.hours.Goals as goal

pub loop-i-preserved : goal.loop-i-preserved
loop-i-preserved c =
    let ss = c.args.stations.now in
    let b = among c.args.self.now c.loop-i.i in
    let m = upto_more 0 ◌+◌ (open_station 0 (λ s. s.hours) ss (among c.args.self.now)) c.loop-i.i in
    let small = cond_small b (station ss c.loop-i.i).hours 1000 (c.requires.range c.loop-i.i c.loop-i-test.true).0 in
    let r : c.counted-total.result ≤ 1000 = search (arith, small) in
    (cc, omega arith)
