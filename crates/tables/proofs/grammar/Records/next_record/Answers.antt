use Rattle.std.proofs.Common.{refl}
use Rattle.tables.proofs.Going.{step_take, step_push, going_at}
use Rattle.tables.proofs.grammar.Records.next_record.Goals as goal
use Rattle.tables.proofs.grammar.Records.next_record.Goals.{in-Take, in-End}

pub loop-b-preserved : goal.loop-b-preserved
loop-b-preserved c =
    let x = c.in-Some.ensures in
    let i = c.loop-b.invariant in
    elim c.match-step.branch [
      | in-Take w ↦ going_at _ _ w.fields-is w.from-is w.state-is (step_take _ _ _ _ _ _ _ _ _ i refl refl x.0 x.1 c.class_of.ensures w.in-Take.ensures)
      | in-End w ↦ going_at _ _ w.fields-is w.from-is w.state-is (step_push _ _ _ _ _ _ _ _ _ _ i refl refl x.0 x.1 c.class_of.ensures w.in-End.ensures w.push.ensures)
    ]
