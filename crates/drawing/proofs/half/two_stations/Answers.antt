use Rattle.std.proofs.Common.{rules}
use Rattle.drawing.specs.Halves.{either}
use Rattle.drawing.proofs.Marking.{marks_made}
use borrow.Author.Tests.{tests}
use Rattle.drawing.proofs.half.two_stations.Goals as goal

pub returns : goal.returns
returns c = marks_made _ (either c.args.x c.args.y) _ (λ i y q small call. search (rules, tests)) _ c.from_fn.ensures.items
