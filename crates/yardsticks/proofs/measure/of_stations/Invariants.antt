use Rattle.std.proofs.Common.{◌≡◌, ◌*◌, ◌≤◌}
use Rattle.plant.specs.Selections.{among, upto, open_station}
use Rattle.yardsticks.specs.Laws.{record_limit}
use Rattle.yardsticks.proofs.measure.of_stations.Given as goal

abbrev pub invariant-loop-i : goal.invariant-loop-i
invariant-loop-i g l = let y = g.Y.Yardstick in (l.total ≡ upto y.nil y.plus (open_station y.nil y.station l.stations (among l.s)) l.i) × (y.size l.total ≤ l.i * record_limit)
