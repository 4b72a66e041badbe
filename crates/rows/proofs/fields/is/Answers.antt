use Rattle.std.proofs.Common.{sym, ◌∙◌}
use Rattle.std.specs.Str.{bytes_eq}
use Rattle.std.proofs.lemmas.Slice.Eq.{slice_eq-Decides, bytes_eq-Decides}
use Rattle.std.proofs.lemmas.Bool.Decides.{same_from_decides, Decides-eqb}
use Rattle.tables.specs.Laws.{inner}
use Rattle.rows.specs.Plain.{same_single}
use Rattle.rows.proofs.fields.is.Goals as goal

pub returns : goal.returns
returns c =
    let a = c.inner.result.now in
    let b = c.as_bytes.result.now in
    let w = c.args.word.now in
    same_from_decides c.eq.result (bytes_eq a b) (slice_eq-Decides Decides-eqb a b c.eq.result c.eq.ensures) (bytes_eq-Decides a b)
    ∙ (λ i. bytes_eq (c.inner.ensures i) (c.as_bytes.ensures.value i)) ∙ sym (same_single (inner c.args.part.now) w c.requires)
