use Rattle.std.proofs.Common.{◌≡◌, ◌-◌, ◌≤◌, length}
use Rattle.plan.proofs.script.perform.while_issued.Given as goal

abbrev pub invariant-loop-entry : goal.invariant-loop-entry
invariant-loop-entry l =
    (l.lines.answers.ghost_name ≡ l.fn.lines.answers.ghost_name) × (l.lines.script ≡ l.fn.lines.script) × (l.fn.lines.at ≤ l.lines.at)

abbrev pub decreases-loop-entry : goal.decreases-loop-entry
decreases-loop-entry l = length l.lines.script.now - l.lines.at
