use Rattle.std.proofs.Common.{sym, ap, ◌∙◌}
use Rattle.tables.specs.Laws.{inner}
use Rattle.tables.specs.Numerals.{signed_by}
use Rattle.rows.specs.Fields.{cap}
use Rattle.rows.specs.Plain.{cap_single, signed_single}
use Rattle.rows.proofs.fields.signed_number.Goals as goal

pub returns : goal.returns
returns c = c.integer.ensures ∙ ap (signed_by cap) c.inner.ensures ∙ sym (signed_single cap cap_single (inner c.args.part.now))
