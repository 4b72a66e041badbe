use Rattle.std.proofs.Common.{◌≡◌, ◌*◌, ◌≤◌}
use Rattle.plant.specs.Selections.{among, upto, open_line}
use Rattle.yardsticks.specs.Laws.{record_limit}
use Rattle.yardsticks.proofs.measure.of_lines.Given as goal

abbrev pub invariant-loop-line : goal.invariant-loop-line
invariant-loop-line g l =
    let y = g.Y.Yardstick in
    (l.total ≡ upto y.nil y.plus (open_line y.nil y.line l.lines (among l.s)) l.line-index) × (y.size l.total ≤ l.line-index * record_limit)
