use Rattle.std.proofs.Common.{sym, ap, ◌∙◌}
use Rattle.tables.specs.Laws.{inner}
use Rattle.rows.specs.Fields.{cap}
use Rattle.rows.specs.Plain.{cap_single}
use Rattle.rows.proofs.fields.number.Goals as goal

pub returns : goal.returns
returns c = c.natural.ensures ∙ ap cap c.inner.ensures ∙ sym (cap_single (inner c.args.part.now))
