use Rattle.std.proofs.Common.{rules, false, ◌||◌, get_or}
use Rattle.drawing.proofs.Marking.{marks_made}
use Rattle.drawing.proofs.half.union.Goals as goal

pub returns : goal.returns
returns c =
    marks_made _ (λ i. get_or c.args.a.now i false || get_or c.args.b.now i false) _ (λ i y q small call. search rules) _ c.from_fn.ensures.items
