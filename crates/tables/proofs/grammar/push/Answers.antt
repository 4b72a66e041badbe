use Rattle.tables.proofs.Going.{push_part}
use Rattle.tables.proofs.grammar.push.Goals as goal

pub returns : goal.returns
returns c = push_part c.args.fields.now c.push.new.self c.args.part _ c.push.ensures.pushed c.push.ensures.listed
