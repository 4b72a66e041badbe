use Rattle.std.proofs.Common.{◌≡◌, ℕ, List, length, ℤ, codes, ap, ◌∙◌, subst₂, arith, w64, SFits, rules}
use Rattle.std.proofs.lemmas.Int.{to_z-of_z}
use Rattle.std.specs.Int.Signed.{mag}
use Rattle.plant.specs.declared.records.Station.{Station}
use Rattle.plant.specs.declared.selection.Selection.{Selection}
use Rattle.plant.specs.Selections.{among}
use Rattle.tables.specs.Laid.{Adds}
use Rattle.tables.proofs.Laying.{then}
use Rattle.plan.specs.declared.Plan.{Plan}
use Rattle.plan.specs.Ledger.{stations_in}
use Rattle.plan.specs.Sheets.{figures, rows}
use Rattle.plan.proofs.Printing.{sheet_short}
use Rattle.plan.proofs.Working.{few, in_range}
use Rattle.plan.proofs.sheet.PickPrinted.print.Goals as goal

pub returns : goal.returns
returns c =
    let k = c.args.self.now in
    let ss = stations_in k.plan.now.filled in
    let S = among k.selection in
    let fits : SFits w64 c.gain.result = search rules in
    let is : c.stations.result.now ≡ ss = c.stations.ensures ∙ ap (λ (p : Plan). stations_in p.filled) c.plan.ensures in
    let list = subst₂ (λ (ts : List Station) (s : Selection). Adds c.text.new.self (rows ts (among s) (length ts)) c.rows.new.to) is c.selection.ensures c.rows.ensures in
    let sums = subst₂ (λ (h : ℕ) (z : ℤ). Adds c.text-2.new.self (figures h z) c.figures.new.to) c.hours.ensures (to_z-of_z w64 c.gain.result fits ∙ c.gain.ensures) c.figures.ensures in
    record {
      adds = then _ _ _ _ _ c.text.ensures (then _ _ _ (rows ss S (length ss)) _ list (then _ _ _ (codes "total,") (figures k.hours k.gain) c.text-2.ensures sums));
      short = sheet_short ss S k.hours k.gain (in_range k.plan.now.filled) (few k.plan.now.filled) (omega arith) (omega (arith, ap mag c.gain.ensures));
    }
