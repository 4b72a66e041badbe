use Rattle.texts.proofs.Accepting.{one_answer}
use Rattle.texts.proofs.laws.one_answer.Goals as goal

pub returns : goal.returns
returns c = one_answer
