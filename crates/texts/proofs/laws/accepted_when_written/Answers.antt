use Rattle.texts.proofs.Accepting.{accepted_when_written}
use Rattle.texts.proofs.laws.accepted_when_written.Goals as goal

pub returns : goal.returns
returns c = accepted_when_written
