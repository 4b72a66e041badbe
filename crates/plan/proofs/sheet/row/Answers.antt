use Rattle.std.proofs.Common.{ℤ, subst, refl, arith, w64, SFits, rules}
use Rattle.std.proofs.lemmas.Int.{to_z-of_z}
use Rattle.tables.specs.Laid.{Adds}
use Rattle.tables.specs.Numerals.{spelled}
use Rattle.tables.proofs.Laying.{then, number_added}
use Rattle.plan.specs.Sheets.{comma, figures}
use Rattle.plan.proofs.sheet.row.Goals as goal

pub returns : goal.returns
returns c =
    let s = c.args.s.now in
    let fits : SFits w64 s.gain = search rules in
    let number = number_added _ _ _ c.args.k refl (omega arith) c.number.ensures.adds in
    let end = subst (λ (z : ℤ). Adds c.text.new.self (figures s.hours z) c.figures.new.to) (to_z-of_z w64 s.gain fits) c.figures.ensures in
    then _ _ _ (spelled c.args.k) _ number (then _ _ _ comma (figures s.hours s.gain) c.text.ensures end)
