use Rattle.std.proofs.Common.{codes, refl, arith}
use Rattle.plant.specs.Refusals.{number, part_number}
use Rattle.tables.specs.Numerals.{spelled}
use Rattle.tables.proofs.Laying.{then, number_added}
use Rattle.plan.specs.Sheets.{comma, line_end}
use Rattle.plan.proofs.Printing.{refusal_short}
use Rattle.plan.proofs.sheet.ToldPrinted.print.Goals as goal

pub returns : goal.returns
returns c =
    let e = c.args.self.now.0.now in
    let reason = number_added _ _ _ (number e.reason) c.number.ensures (omega arith) c.number-2.ensures.adds in
    let part = number_added _ _ _ (part_number e.part) c.number-3.ensures (omega arith) c.number-4.ensures.adds in
    let place = number_added _ _ _ e.place refl (omega arith) c.number-5.ensures.adds in
    record {
      adds = then _ _ _ (codes "refused,") _ c.text.ensures (then _ _ _ (spelled (number e.reason)) _ reason (then _ _ _ comma _ c.text-2.ensures
          (then _ _ _ (spelled (part_number e.part)) _ part (then _ _ _ comma _ c.text-3.ensures (then _ _ _ (spelled e.place) line_end place c.text-4.ensures)))));
      short = refusal_short e (omega (arith, c.number.ensures)) (omega (arith, c.number-3.ensures)) (omega arith);
    }
