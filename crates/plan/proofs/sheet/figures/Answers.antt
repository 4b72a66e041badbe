use Rattle.std.proofs.Common.{refl, arith}
use Rattle.tables.specs.Numerals.{spelled, spelledℤ}
use Rattle.tables.proofs.Laying.{then, number_added, integer_added}
use Rattle.plan.specs.Sheets.{comma, line_end}
use Rattle.plan.proofs.sheet.figures.Goals as goal

pub returns : goal.returns
returns c =
    let hours = number_added _ _ _ c.args.hours refl (omega arith) c.number.ensures.adds in
    let gain = integer_added _ _ c.args.gain c.ranges.gain c.number-2.ensures.adds in
    then _ _ _ (spelled c.args.hours) _ hours
    (then _ _ _ comma _ c.text.ensures (then _ _ _ (spelledℤ c.args.gain) line_end gain c.text-2.ensures))
