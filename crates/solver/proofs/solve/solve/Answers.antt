use Rattle.std.proofs.Common.{inr, arith}
use Rattle.plant.specs.Selections.{among}
use Rattle.solver.proofs.Answering.{tables, hopeless, best}
use Rattle.solver.proofs.solve.solve.Goals as goal

pub returns-in_default : goal.returns-in_default
returns-in_default g c =
    let laws = g.met.Y.Yardstick.lawful in
    let p = c.args.plant.now in
    inr (record {
      enough = omega arith;
      refusal = c.refusal-in_default.ensures;
      nothing = hopeless laws p c.fill.new.cells c.fill.ensures.filled c.in_default.ensures;
      tables = tables laws p c.args.cells.now c.fill.new.cells c.fill.ensures;
    })

pub returns : goal.returns
returns g c =
    let laws = g.met.Y.Yardstick.lawful in
    let p = c.args.plant.now in
    record {
      enough = omega arith;
      best = best laws p c.fill.new.cells c.fill.ensures.filled c.in-Some.offer c.in-Some.ensures (among c.trace.result) c.trace.ensures;
      tables = tables laws p c.args.cells.now c.fill.new.cells c.fill.ensures;
    }
