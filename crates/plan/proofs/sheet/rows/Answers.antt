use Rattle.std.proofs.Common.{◌+◌, sym, ◌∙◌, subst}
use Rattle.plant.specs.Selections.{among}
use Rattle.tables.specs.Laid.{Adds}
use Rattle.tables.specs.declared.write.Writer.{Writer}
use Rattle.plan.specs.Sheets.{rows}
use Rattle.plan.proofs.Printing.{rows_open, rows_shut}
use Rattle.plan.proofs.sheet.rows.Goals as goal
use Rattle.plan.proofs.sheet.rows.Goals.{then-has, else-has}

pub loop-k-preserved : goal.loop-k-preserved
loop-k-preserved c =
    let ss = c.args.stations.now in
    let S = among c.args.selection.now in
    let k = c.loop-k.k in
    let so_far = c.loop-k.invariant in
    let goal : Writer → Type 0 = Adds c.args.to.now (rows ss S (k + 1)) in
    elim c.if-has.branch [
      | then-has w ↦ subst goal (sym w.to-is) (rows_open ss S k _ _ _ (sym c.has.ensures ∙ w.if-has.true) so_far w.row.ensures)
      | else-has w ↦ subst goal (sym w.to-is) (rows_shut ss S k _ _ (sym c.has.ensures ∙ w.if-has.false) so_far)
    ]
