use Rattle.rows.proofs.Accepting.{stations_refused, lines_refused}
use Rattle.rows.proofs.laws.refused_at_first_fault.Goals as goal

pub returns : goal.returns
returns c = record { stations = stations_refused; lines = lines_refused }
