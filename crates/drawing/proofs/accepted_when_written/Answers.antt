use Rattle.drawing.proofs.Verdicts.{accepted_when_written}
use Rattle.drawing.proofs.accepted_when_written.Goals as goal

pub returns : goal.returns
returns c = accepted_when_written
