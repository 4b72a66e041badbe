use Rattle.std.proofs.Common.{rules, ◌≤◌, false, not, ◌&&◌, length, get_or, sym, ap, ◌∙◌, ⊎_elim, arith}
use Rattle.std.proofs.lemmas.List.{get_or_past}
use Rattle.std.proofs.lemmas.Bool.{cases_lt}
use Rattle.plant.proofs.Made.{made}
use Rattle.plant.proofs.selection.Selection.without.Goals as goal

pub returns : goal.returns
returns c =
    let mine = c.args.self.now.open in
    let others = c.args.other.now.open in
    let left = c.from_fn.result in
    λ k.
    ⊎_elim
    (λ lt. made _ (λ i. get_or mine i false && not (get_or others i false)) _ 64 (λ i y q small call. search rules) left c.from_fn.ensures.items k false lt)
    (λ ge.
    let a : length left ≤ k = omega (arith, c.from_fn.ensures.items.long) in
    let b : length mine ≤ k = omega arith in
    get_or_past left k false a ∙ sym (ap (λ t. t && not (get_or others k false)) (get_or_past mine k false b)))
    (cases_lt k 64)
