use Rattle.texts.proofs.Accepting.{refused_at_first_fault}
use Rattle.texts.proofs.laws.refused_at_first_fault.Goals as goal

pub returns : goal.returns
returns c = refused_at_first_fault
