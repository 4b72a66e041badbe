use Rattle.std.proofs.Common.{rules, ◌≡◌, ◌+◌, ◌∷◌, drop}
use Rattle.drawing.specs.declared.mark.Mark.TheVariants.{Open}
use Rattle.drawing.specs.Marks.{sign}
use Rattle.drawing.specs.Reads.{rest}
use Rattle.drawing.proofs.Bytes.{placed}
use Rattle.drawing.proofs.Steps.{halves, pair_read, subtree_opens}
use Rattle.drawing.proofs.reader.Reader.+pair_subtree.Goals as goal

pub pair-returns : goal.pair-returns
pair-returns t c =
    let h = halves c.args.deep c.in_ok-subtree.ensures c.in_ok-expect.ensures c.in_ok-subtree-2.ensures c.in_ok-expect-2.ensures in
    pair_read c.args.deep _ c.join.result _ h c.in_ok-join.ensures c.join.ensures (placed _ _ _ _ c.map_err.ensures.cases (λ why e says. search rules))

pub subtree-returns-else-deep-eq0 : goal.subtree-returns-else-deep-eq0
subtree-returns-else-deep-eq0 t c =
    let r = c.args.self.now in
    let a = c.in-Some-Open.ensures.ahead.1 in
    let e : rest r.text ≡ sign Open ∷ drop (r.text.pos + 1) r.text.src.now = cc in
    subtree_opens c.args.deep r _ _ _ e c.if-deep-eq0.false c.bump.ensures.src c.bump.ensures.pos c.pair.ensures
