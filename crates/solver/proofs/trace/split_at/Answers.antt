use Rattle.std.proofs.Common.{None, sym, ◌∙◌, arith}
use Rattle.std.proofs.lemmas.List.{get_or_read}
use Rattle.solver.proofs.Solving.{joint_split}
use Rattle.solver.proofs.trace.split_at.Goals as goal

pub unwrap-requires : goal.unwrap-requires
unwrap-requires g c =
    let it = c.args.joint.now in
    let h = it.spot.hours in
    let read = get_or_read c.row.result.now h c.index-row-joint.result (omega (arith, c.row.ensures.long)) c.index-row-joint.is None in
    let cell = sym (c.row.ensures.same h (omega arith)) ∙ sym read ∙ c.unwrap-goal.ensures in
    joint_split it g.met.Y.Yardstick.lawful c.requires.filled c.unwrap-goal.result cell c.first_split.result c.first_split.ensures

pub returns : goal.returns
returns g c =
    let h = c.args.joint.now.spot.hours in
    let read = get_or_read c.row.result.now h c.index-row-joint.result (omega (arith, c.row.ensures.long)) c.index-row-joint.is None in
    let cell = sym (c.row.ensures.same h (omega arith)) ∙ sym read ∙ c.unwrap-goal.ensures in
    (c.unwrap-goal.result, cell, rw c.unwrap.ensures at c.first_split.ensures)
