use Rattle.std.proofs.Common.{◌≡◌, ◌-◌, length}
use Rattle.plan.proofs.script.perform.perform.Given as goal

abbrev pub invariant-loop-entry : goal.invariant-loop-entry
invariant-loop-entry g l =
    (l.lines.answers.ghost_name ≡ l.initial.lines.answers.ghost_name) × (l.lines.script ≡ l.initial.lines.script)

abbrev pub decreases-loop-entry : goal.decreases-loop-entry
decreases-loop-entry g l = length l.lines.script.now - l.lines.at
