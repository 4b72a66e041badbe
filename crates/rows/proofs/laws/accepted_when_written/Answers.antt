use Rattle.rows.proofs.Accepting.{stations_accepted, lines_accepted}
use Rattle.rows.proofs.laws.accepted_when_written.Goals as goal

pub returns : goal.returns
returns c = record { stations = stations_accepted; lines = lines_accepted }
