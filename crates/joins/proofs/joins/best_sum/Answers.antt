use Rattle.std.proofs.Common.{◌≡◌, ◌-◌, ◌<◌, ◌≤◌, length, Some, None, sym, ◌∙◌, inl, inr, ⊎_elim, arith}
use Rattle.std.proofs.lemmas.List.{get_or_read}
use Rattle.std.proofs.lemmas.Bool.{cases_lt}
use Rattle.cells.specs.Tops.{cell_of, joined_of}
use Rattle.cells.proofs.Topping.{order, tops_step, tops_one}
use Rattle.cells.proofs.Rows.{split_end}
use Rattle.joins.proofs.joins.best_sum.Goals as goal

pub joined-sum-requires : goal.joined-sum-requires
joined-sum-requires g c p q e f =
    let i = c.loop-i.i in
    let j = c.args.rest - i in
    let one = get_or_read c.args.first.now i c.index-first-i.result (omega arith) c.index-first-i.is None in
    let two = get_or_read c.args.second.now j c.index-second-rest.result (omega arith) c.index-second-rest.is None in
    c.requires.fair i j p q (sym one ∙ e) (sym two ∙ f)

pub loop-i-preserved : goal.loop-i-preserved
loop-i-preserved g c =
    let y = g.Y.Yardstick in
    let laws = order g.met.Y.Yardstick.lawful.ops in
    let first = c.args.first.now in
    let second = c.args.second.now in
    let i = c.loop-i.i in
    let j = c.args.rest - i in
    let one = get_or_read first i c.index-first-i.result (omega arith) c.index-first-i.is None in
    let two = get_or_read second j c.index-second-rest.result (omega arith) c.index-second-rest.is None in (
      rw (c.better-best.ensures, c.joined-sum.ensures, one, two)
          (tops_step laws (λ k x. joined_of y.plus c.args.between (cell_of first k) (cell_of second (c.args.rest - k)) ≡ Some x) i c.loop-i.best (joined_of y.plus c.args.between (cell_of first i) (cell_of second j)) c.loop-i.invariant.0 (tops_one laws _)),
      omega arith,
    )

pub returns : goal.returns
returns g c =
    let y = g.Y.Yardstick in
    let i = c.loop-i.i in
    split_end y.plus c.args.first.now c.args.second.now c.args.between c.args.rest i c.loop-i.best c.loop-i.invariant.1
    (⊎_elim (λ lt. let z : c.args.rest < i = omega arith in inr z) (λ ge. let z : length c.args.first.now ≤ i = omega arith in inl z) (cases_lt c.args.rest (length c.args.first.now))) c.loop-i.invariant.0
