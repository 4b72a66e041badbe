use Rattle.std.proofs.Common.{sym, refl, ◌∙◌}
use Rattle.std.proofs.lemmas.Bool.{false≢true}
use Rattle.drawing.proofs.Growing.{popped_some, two, meet_same, join_grown}
use Rattle.plant.proofs.Listed.{listed_length}
use Rattle.drawing.proofs.sketch.Sketch.join.Goals as goal

pub returns-then-not-meets : goal.returns-then-not-meets
returns-then-not-meets c = (
  refl,
  λ hs p q e m.
      let a = popped_some _ _ _ _ c.unwrap-second.ensures c.pop.ensures.popped in
      let b = popped_some _ _ _ _ c.unwrap-first.ensures c.pop-2.ensures.popped in
      let w = two _ _ _ hs _ _ p q a b e in
      false≢true (c.if-not-meets.ensures.1 (meet_same c.args.join p q _ _ (sym w.first) (sym w.second) m)),
)

pub returns : goal.returns
returns c hs p q e =
    let a = popped_some _ _ _ _ c.unwrap-second.ensures c.pop.ensures.popped in
    let b = popped_some _ _ _ _ c.unwrap-first.ensures c.pop-2.ensures.popped in
    let w = two _ _ _ hs _ _ p q a b e in (
      meet_same c.args.join _ _ p q w.first w.second (c.if-not-meets.ensures.0 refl),
      join_grown c.args.join c.args.self.now _ _ _ _ _ _ p q hs refl refl refl (sym (listed_length c.args.self.now.nodes)) w (c.pop-2.ensures.room ∙ c.pop.ensures.room) c.union.ensures c.put.ensures,
    )
