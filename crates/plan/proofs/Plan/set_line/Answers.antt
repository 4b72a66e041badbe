use Rattle.std.proofs.Common.{rules, ◌≡◌, ◌≤◌, true, nat_abs, refl, ◌∙◌, w64, to_z, of_z}
use Rattle.std.proofs.lemmas.Int.{to_z-of_z}
use Rattle.std.proofs.lemmas.List.{length-set}
use Rattle.plant.specs.Records.{no_line}
use Rattle.plant.proofs.Listed.{row_listed}
use Rattle.plan.specs.Ledger.{line_set}
use Rattle.plan.specs.Replies.{in_gain}
use Rattle.plan.proofs.Steps.{accepted, takes_line, books_line, line_kept}
use Rattle.plan.proofs.Plan.set_line.Goals as goal

pub invariant_of-filled : goal.invariant_of-filled
invariant_of-filled c =
    let f = c.in-Some.filled in
    let k = c.args.line in
    let small : nat_abs (to_z w64 (of_z w64 c.args.gain)) ≤ 1000000000 = search rules in (
      tt,
      ((length-set f.lines.rows k _ ∙ f.lines.sound.0, f.lines.sound.1), tt),
      (line_kept f k _ c.if-k-filled.false small, (f.cheap, tt)),
    )

pub returns : goal.returns
returns c =
    let f = c.in-Some.filled in
    let k = c.args.line in
    let has = c.if-k-filled.false in
    let old = row_listed f.lines k no_line has in
    let z = to_z-of_z w64 c.args.gain c.ranges.gain in
    let fine : in_gain c.args.gain ≡ true = search rules in
    accepted c.args.self.now _ f _ (line_set k c.args.gain) _ c.in-Some.is refl (takes_line f k c.args.gain has fine)
    (books_line f k _ _ has (λ i. record { from = (old i).from; to = (old i).to; gain = z i }))
