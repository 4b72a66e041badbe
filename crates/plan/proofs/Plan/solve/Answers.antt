use Rattle.std.proofs.Common.{List, refl, ap, ◌∙◌, w64, SFits, rules}
use Rattle.std.proofs.lemmas.Int.{to_z-of_z}
use Rattle.std.proofs.lemmas.Result.{err_from_is_err_and}
use Rattle.plant.specs.declared.records.Station.{Station}
use Rattle.plant.specs.Selections.{among, hours, gain}
use Rattle.plan.proofs.Solving.{picked, left_picked, unsolved, left_unsolved}
use Rattle.plan.proofs.Plan.solve.Goals as goal

pub returns-in_err-selection : goal.returns-in_err-selection
returns-in_err-selection g c =
    let y = g.Y.Yardstick in
    let p = c.args.self.now in
    let f = c.in-Some.filled in
    let err = err_from_is_err_and c.from_residual.result c.from_residual.ensures.1 in
    let answer = c.in_err-selection.ensures in
    record {
      answer = rw (err.1, err.2) (unsolved y.nil y.plus y.above y.station y.line p f c.lent-plant.result c.lent-plant.ensures c.in-Some.is c.args.cells.now _ _ answer);
      cells = left_unsolved y.nil y.plus y.above y.station y.line p f c.lent-plant.result c.lent-plant.ensures c.in-Some.is c.args.cells.now _ _ answer;
    }

pub returns : goal.returns
returns g c =
    let y = g.Y.Yardstick in
    let p = c.args.self.now in
    let f = c.in-Some.filled in
    let lent = c.lent-plant.ensures in
    let s = c.in_ok-selection.selection in
    let chosen = c.in_ok-selection.ensures in
    let fits : SFits w64 c.money_of.result = search rules in
    let takes = c.hours.ensures.value ∙ ap (λ (ss : List Station). hours ss (among s)) lent.stations in
    let gains = to_z-of_z w64 c.money_of.result fits ∙ c.money_of.ensures.value ∙ (λ i. gain (lent.stations i) (lent.lines i) (among s)) in
    record {
      answer = (refl, picked y.nil y.plus y.above y.station y.line p f c.lent-plant.result lent c.in-Some.is c.args.cells.now _ s _ _ chosen takes gains);
      cells = left_picked y.nil y.plus y.above y.station y.line p f c.lent-plant.result lent c.in-Some.is c.args.cells.now _ s chosen;
    }
