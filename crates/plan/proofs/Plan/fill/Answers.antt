use Rattle.std.proofs.Common.{refl}
use Rattle.std.proofs.lemmas.Result.{err_from_is_err_and}
use Rattle.plan.proofs.Steps.{fill_done, fill_refused}
use Rattle.plan.proofs.Plan.fill.Goals as goal

pub returns-in_err-stations : goal.returns-in_err-stations
returns-in_err-stations c =
    let p = err_from_is_err_and c.from_residual.result c.from_residual.ensures.1 in
    rw (p.1, p.2) (fill_refused c.args.self.now c.args.stations.now c.args.lines.now c.args.tree.now _ c.in_err-stations.ensures)

pub returns : goal.returns
returns c =
    fill_done c.args.self.now _ _ c.args.stations.now c.args.lines.now c.args.tree.now refl refl c.in_ok-stations.ensures.judged
