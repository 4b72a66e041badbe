use Rattle.std.proofs.Common.{refl, sym, ◌∙◌, arith, rules}
use Rattle.tables.proofs.Laying.{adds_whole, adds_count}
use Rattle.tables.proofs.write.print_whole.Goals as goal

pub returns-then-out-need : goal.returns-then-out-need
returns-then-out-need g c =
    let n = adds_count _ _ _ c.print.ensures.adds c.new-count.ensures.place (omega arith) in
    (n, omega arith, refl)

pub returns : goal.returns
returns g c =
    let n = adds_count _ _ _ c.print.ensures.adds c.new-count.ensures.place (omega arith) in
    let kept = sym c.new.ensures.same_reference ∙ sym c.print-2.ensures.adds.same_reference in
    let whole = adds_whole c.args.out.now _ _ _ c.print-2.ensures.adds c.new.ensures.place c.new.ensures.memory (omega arith) (omega arith) in
    (n, omega arith, search (rules, whole, kept))
