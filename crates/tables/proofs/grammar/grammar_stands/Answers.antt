use Rattle.tables.proofs.Complete.{complete, sound, placed, means, reads}
use Rattle.tables.proofs.grammar.grammar_stands.Goals as goal

pub returns : goal.returns
returns c = record { complete = complete; sound = sound; placed = placed; means = means; reads = reads }
