use Rattle.std.proofs.lemmas.Result.{err_from_is_err_and}
use Rattle.drawing.proofs.Verdicts.{answers_good, answers_bad}
use Rattle.drawing.proofs.read.Goals as goal

pub returns-in_err-whole : goal.returns-in_err-whole
returns-in_err-whole c =
    let p = err_from_is_err_and c.from_residual.result c.from_residual.ensures.1 in
    rw (p.1, p.2) (answers_bad c.args.stations c.args.lines.now c.new-sketch.result.lines.now c.args.text.now _ c.requires.joins c.requires.stations c.new-sketch.ensures.lines c.in_err-whole.ensures)

pub returns : goal.returns
returns c =
    let w = c.in_ok-whole.ensures in
    answers_good c.args.stations c.args.lines.now c.new-sketch.result.lines.now c.args.text.now _ w.0 w.1 c.requires.joins c.requires.stations c.new-sketch.ensures.lines w.2 w.3 w.4
