use Rattle.std.proofs.Common.{◌≡◌, ◌-◌, ◌≤◌, length}
use Rattle.drawing.specs.Grammar.{digits}
use Rattle.drawing.specs.Reads.{rest, capped}
use Rattle.drawing.proofs.text.Text.digits.Given as goal

abbrev pub invariant-loop-d : goal.invariant-loop-d
invariant-loop-d l =
    (capped (digits l.n (rest l.self)) ≡ capped (digits l.initial.n (rest l.initial.self)))
    × (l.self.src ≡ l.initial.self.src) × (l.n ≤ 128)

abbrev pub decreases-loop-d : goal.decreases-loop-d
decreases-loop-d l = length l.self.src.now - l.self.pos
