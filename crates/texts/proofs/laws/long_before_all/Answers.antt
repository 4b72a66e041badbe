use Rattle.texts.proofs.Accepting.{long_before_all}
use Rattle.texts.proofs.laws.long_before_all.Goals as goal

pub returns : goal.returns
returns c = long_before_all
