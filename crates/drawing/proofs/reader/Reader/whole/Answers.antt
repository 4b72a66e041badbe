use Rattle.std.proofs.Common.{rules}
use Rattle.drawing.proofs.Bytes.{placed}
use Rattle.std.proofs.lemmas.Result.{err_from_is_err_and}
use Rattle.drawing.proofs.Wholes.{tree_read, whole_broken, whole_unclosed, whole_overrun, whole_read}
use Rattle.drawing.proofs.reader.Reader.whole.Goals as goal

pub returns-in_err-subtree : goal.returns-in_err-subtree
returns-in_err-subtree c =
    let p = err_from_is_err_and c.from_residual.result c.from_residual.ensures.1 in
    rw (p.1, p.2) (whole_broken 127 c.args.stations c.args.self.now c.subtree.new.self c.subtree.new.self _ c.requires.blank c.in_err-subtree.ensures)

pub returns-in_err-expect : goal.returns-in_err-expect
returns-in_err-expect c =
    let p = err_from_is_err_and c.from_residual-in_err-expect.result c.from_residual-in_err-expect.ensures.1 in
    let h = tree_read 127 c.args.self.now c.subtree.new.self _ c.requires.blank c.in_ok-subtree.ensures in
    rw (p.1, p.2) (whole_unclosed 127 c.args.stations c.args.self.now c.subtree.new.self c.subtree.new.self _ _ h c.in_err-expect.ensures)

pub returns-in_err-end : goal.returns-in_err-end
returns-in_err-end c =
    let p = err_from_is_err_and c.from_residual-in_err-end.result c.from_residual-in_err-end.ensures.1 in
    let h = tree_read 127 c.args.self.now c.subtree.new.self _ c.requires.blank c.in_ok-subtree.ensures in
    rw (p.1, p.2) (whole_overrun 127 c.args.stations c.args.self.now c.subtree.new.self c.subtree.new.self _ _ _ h c.in_ok-expect.ensures c.in_err-end.ensures)

pub returns : goal.returns
returns c =
    let h = tree_read 127 c.args.self.now c.subtree.new.self _ c.requires.blank c.in_ok-subtree.ensures in
    whole_read 127 c.args.stations c.args.self.now c.subtree.new.self (record { text = c.expect.new.self; sketch = c.finish.new.self }) _ _ _ c.finish.result _ c.requires.blank c.requires.stations h c.in_ok-expect.ensures c.in_ok-end.ensures c.finish.ensures.whole c.finish.ensures.nodes (placed _ _ _ _ c.map_err.ensures.cases (λ why e says. search rules))
