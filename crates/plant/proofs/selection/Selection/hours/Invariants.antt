use Rattle.std.proofs.Common.{◌≡◌, ◌+◌, ◌*◌, ◌≤◌}
use Rattle.plant.specs.Selections.{upto, open_station, among}
use Rattle.plant.proofs.selection.Selection.hours.Given as goal

abbrev pub invariant-loop-i : goal.invariant-loop-i
invariant-loop-i l =
    (l.total ≡ upto 0 ◌+◌ (open_station 0 (λ s. s.hours) l.stations (among l.self)) l.i) × (l.total ≤ 1000 * l.i)
