use Rattle.std.proofs.Common.{◌-◌, true, false, [], ◌∷◌, get_or, None, sym, refl, ap, ◌∙◌, arith, below_more}
use Rattle.std.proofs.lemmas.List.{get_or_read}
use Rattle.std.proofs.lemmas.Bool.{both_ways}
use Rattle.cells.specs.Tables.{bit}
use Rattle.filling.proofs.Standing.{joint_at}
use Rattle.solver.proofs.Splitting.{Nothing, forbidden, count_small, split_fair, state_none, state_first, first_of, none_of, state_at, one_more}
use Rattle.solver.proofs.trace.first_split.Goals as goal

pub states-init : goal.states-init
states-init g c = (refl, refl, λ m lt. absurd (omega arith))

pub row-first-requires-clause-node : goal.row-first-requires-clause-node
row-first-requires-clause-node g c = let at = joint_at c.args.joint.now in rw c.first_spot.ensures (omega arith)

pub row-second-requires-clause-node : goal.row-second-requires-clause-node
row-second-requires-clause-node g c = let at = joint_at c.args.joint.now in rw c.second_spot.ensures (omega arith)

pub hours-init : goal.hours-init
hours-init g c = (c.states.invariant.0, λ k lt. absurd (omega arith))

pub attains-requires : goal.attains-requires
attains-requires g c x z e e' =
    let laws = g.met.Y.Yardstick.lawful in
    let it = c.args.joint.now in
    let m = get_or (false ∷ true ∷ []) c.states.opened-index false in
    let first = c.row-first.result.now in
    let second = c.row-second.result.now in
    let share = c.in-Some.share in
    let n = c.ways-count.result in
    let one = rw c.first_spot.ensures at c.row-first.ensures in
    let two = rw c.second_spot.ensures at c.row-second.ensures in
    let i = c.hours.i in
    let within = it.within in
    let le1 = count_small it c.args.goal laws c.requires m first second share n one.same two.same c.in-Some.ensures c.ways-count.ensures i c.hours-test.true in
    let le2 = count_small it c.args.goal laws c.requires m first second share n one.same two.same c.in-Some.ensures c.ways-count.ensures (n - 1 - i) (omega (arith, c.hours-test.true)) in
    let read1 = get_or_read first i c.index-first-i.result (omega (arith, one.long)) c.index-first-i.is None in
    let read2 = get_or_read second (n - 1 - i) c.index-second-rest.result (omega (arith, two.long)) c.index-second-rest.is None in
    split_fair it c.args.goal laws c.requires m first second share n one.same two.same c.in-Some.ensures c.ways-count.ensures i (n - 1 - i) x z (omega arith) (omega arith) (sym read1 ∙ e) (sym read2 ∙ e')

pub hours-preserved : goal.hours-preserved
hours-preserved g c =
    let laws = g.met.Y.Yardstick.lawful in
    let it = c.args.joint.now in
    let m = get_or (false ∷ true ∷ []) c.states.opened-index false in
    let first = c.row-first.result.now in
    let second = c.row-second.result.now in
    let share = c.in-Some.share in
    let n = c.ways-count.result in
    let one = rw c.first_spot.ensures at c.row-first.ensures in
    let two = rw c.second_spot.ensures at c.row-second.ensures in
    let i = c.hours.i in
    let within = it.within in
    let le1 = count_small it c.args.goal laws c.requires m first second share n one.same two.same c.in-Some.ensures c.ways-count.ensures i c.hours-test.true in
    let le2 = count_small it c.args.goal laws c.requires m first second share n one.same two.same c.in-Some.ensures c.ways-count.ensures (n - 1 - i) (omega (arith, c.hours-test.true)) in
    let read1 = get_or_read first i c.index-first-i.result (omega (arith, one.long)) c.index-first-i.is None in
    let read2 = get_or_read second (n - 1 - i) c.index-second-rest.result (omega (arith, two.long)) c.index-second-rest.is None in
    (c.hours.invariant.0, below_more _ _ c.hours.invariant.1 (λ e. both_ways false refl (c.if-attains.ensures.1 (rw (read1, read2) e))))

pub states-preserved-in_default : goal.states-preserved-in_default
states-preserved-in_default g c =
    let it = c.args.joint.now in
    let m = get_or (false ∷ true ∷ []) c.states.opened-index false in
    let here = state_at c.states.opened-index m false c.states-test.true refl in
    let none = forbidden it c.args.goal m (sym c.in_default.is ∙ c.between.ensures) in
    (c.states.invariant.0, refl, one_more (λ k. Nothing it c.args.goal k) c.states.opened-index m here c.states.invariant.2 none)

pub states-preserved : goal.states-preserved
states-preserved g c =
    let laws = g.met.Y.Yardstick.lawful in
    let it = c.args.joint.now in
    let m = get_or (false ∷ true ∷ []) c.states.opened-index false in
    let first = c.row-first.result.now in
    let second = c.row-second.result.now in
    let share = c.in-Some.share in
    let n = c.ways-count.result in
    let one = rw c.first_spot.ensures at c.row-first.ensures in
    let two = rw c.second_spot.ensures at c.row-second.ensures in
    let here = state_at c.states.opened-index m false c.states-test.true refl in
    let none = state_none it c.args.goal laws c.requires m first second share n one.same two.same c.in-Some.ensures c.ways-count.ensures c.hours.i c.hours-test.false c.hours.invariant.1 in
    (c.hours.invariant.0, refl, one_more (λ k. Nothing it c.args.goal k) c.states.opened-index m here c.states.invariant.2 none)

pub returns-after-states : goal.returns-after-states
returns-after-states g c = rw c.states.invariant.0 (none_of c.args.joint.now c.args.goal (λ m lt. c.states.invariant.2 m (omega (arith, lt))))

pub returns-then-attains : goal.returns-then-attains
returns-then-attains g c =
    let laws = g.met.Y.Yardstick.lawful in
    let it = c.args.joint.now in
    let m = get_or (false ∷ true ∷ []) c.states.opened-index false in
    let first = c.row-first.result.now in
    let second = c.row-second.result.now in
    let share = c.in-Some.share in
    let n = c.ways-count.result in
    let one = rw c.first_spot.ensures at c.row-first.ensures in
    let two = rw c.second_spot.ensures at c.row-second.ensures in
    let i = c.hours.i in
    let within = it.within in
    let le1 = count_small it c.args.goal laws c.requires m first second share n one.same two.same c.in-Some.ensures c.ways-count.ensures i c.hours-test.true in
    let le2 = count_small it c.args.goal laws c.requires m first second share n one.same two.same c.in-Some.ensures c.ways-count.ensures (n - 1 - i) (omega (arith, c.hours-test.true)) in
    let read1 = get_or_read first i c.index-first-i.result (omega (arith, one.long)) c.index-first-i.is None in
    let read2 = get_or_read second (n - 1 - i) c.index-second-rest.result (omega (arith, two.long)) c.index-second-rest.is None in
    let here = state_at c.states.opened-index m false c.states-test.true refl in
    let found = state_first it c.args.goal laws c.requires m first second share n one.same two.same c.in-Some.ensures c.ways-count.ensures i c.hours-test.true (rw (read1, read2) at (c.if-attains.ensures.0 refl)) c.hours.invariant.1 in
    first_of it c.args.goal m _ found (λ e. c.states.invariant.2 false (omega (arith, here, ap bit e)))
