use Rattle.std.proofs.Common.{refl}
use Rattle.std.proofs.lemmas.List.{drop_more, drop_all}
use Rattle.drawing.specs.Grammar.{stop}
use Rattle.drawing.proofs.Bytes.{stop_more, faulted_here}
use Rattle.drawing.proofs.text.Text.end.Goals as goal

pub returns-then-self : goal.returns-then-self
returns-then-self c = faulted_here stop c.args.self.now _ (stop_more _ _ _ (drop_more c.args.self.now.src.now c.args.self.now.pos 0 c.if-self.true)) c.fault.ensures

pub returns : goal.returns
returns c =
    let e = drop_all c.args.self.now.pos c.args.self.now.src.now c.if-self.false in
    record { src = refl; told = rw e refl }
