use Rattle.drawing.proofs.Verdicts.{refused_at_first_fault}
use Rattle.drawing.proofs.refused_at_first_fault.Goals as goal

pub returns : goal.returns
returns c = refused_at_first_fault
