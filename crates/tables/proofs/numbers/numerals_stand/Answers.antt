use Rattle.tables.proofs.Spelling.{spelled_law}
use Rattle.tables.proofs.numbers.numerals_stand.Goals as goal

pub returns : goal.returns
returns c = spelled_law
