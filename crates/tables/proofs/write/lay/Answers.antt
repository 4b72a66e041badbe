use Rattle.std.proofs.Common.{◌≡◌, ◌+◌, ◌-◌, ◌++◌, take, drop, sym, ◌∙◌, arith}
use Rattle.tables.proofs.Laying.{laid_past, laid_part}
use Rattle.tables.proofs.write.lay.Goals as goal

pub returns-then-at-out : goal.returns-then-at-out
returns-then-at-out c = sym (laid_past c.args.out.now c.args.bytes.now c.args.at (omega arith))

pub returns : goal.returns
returns c =
    let m = c.args.out.now in
    let at = c.args.at in
    let fit = c.min-fit.result in
    let add_sub : at + fit - at ≡ fit = omega arith in
    (λ i. take at m ++ (c.copy_from_slice.ensures.after i ++ drop (add_sub i) (drop at m)))
    ∙ sym (laid_part m c.args.bytes.now at at fit (omega arith) c.min-fit.ensures)
