use Rattle.std.proofs.Common.{◌-◌, length}
use Rattle.tables.proofs.Going.{Going}
use Rattle.tables.proofs.grammar.Records.next_record.Given as goal

abbrev pub invariant-loop-b : goal.invariant-loop-b
invariant-loop-b l = Going l.initial.self l.self l.state l.from l.fields

abbrev pub decreases-loop-b : goal.decreases-loop-b
decreases-loop-b l = length l.self.src.now - l.self.pos
