use Rattle.std.proofs.Common.{rules, ◌≡◌, ◌<◌, ◌∙◌, length, false, ap, get_or, arith}
use Rattle.std.proofs.lemmas.List.{length_push}
use Rattle.drawing.specs.Halves.{tally}
use Rattle.drawing.specs.Sketches.{waiting}
use Rattle.drawing.proofs.Marking.{tally_more}
use Rattle.drawing.proofs.sketch.Sketch.leaf.Goals as goal

pub returns : goal.returns
returns c = (
  search rules,
  record {
    lines = search rules;
    named = search rules;
    nodes = search rules;
    halves = search rules;
    count = search rules;
    room = search rules;
    counted = λ k.
        let s = c.args.self.now in
        let lt : c.args.line < length s.named = search rules in
        let free : get_or s.named c.args.line false ≡ false = search rules in
        omega (arith, k, c.put.ensures.count, ap length c.put.ensures.halves ∙ length_push (waiting s) _, ap tally c.put.ensures.named ∙ tally_more s.named c.args.line lt free);
  },
)
