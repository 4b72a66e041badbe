use Rattle.std.proofs.Common.{◌∙◌, arith}
use Rattle.drawing.proofs.Bytes.{digits_more}
use Rattle.drawing.proofs.text.Text.digits.Goals as goal

pub loop-d-preserved : goal.loop-d-preserved
loop-d-preserved c =
    let a = c.in-Some.ensures.ahead in
    let lt = a.0 in
    let inv = c.loop-d.invariant in (
      digits_more c.loop-d.n _ c.in-Some.d _ _ a.1 a.2 c.min-n.ensures ∙ inv.0,
      inv.1,
      omega (arith, c.min-n.ensures),
    )
