use Rattle.std.proofs.Common.{◌≡◌, ◌+◌, ◌<◌, ◌≤◌, ◌≢◌, length, get_or, ⊎_elim, arith, get_or-set_other, get_or-set_same, below_more}
use Rattle.std.proofs.lemmas.Bool.{cases_lt}
use Rattle.cells.specs.Tables.{row_start}
use Rattle.filling.proofs.Passes.{past_cells}
use Rattle.filling.proofs.Standing.{few_nodes, row_room, row_small, filled_kept}
use Rattle.filling.proofs.fill.fill_row.Goals as goal

pub bounds-reach-node : goal.bounds-reach-node
bounds-reach-node g c = omega (arith, few_nodes c.args.plant.now)

pub place-begin-requires : goal.place-begin-requires
place-begin-requires g c = (omega arith, omega (arith, few_nodes c.args.plant.now), omega arith)

pub cell_at-cell-requires-clause-filled : goal.cell_at-cell-requires-clause-filled
cell_at-cell-requires-clause-filled g c =
    filled_kept c.args.plant.now c.args.cells.now c.loop-hours.cells c.args.node c.args.left c.args.right c.loop-hours.auto.cells (λ k lt. c.loop-hours.invariant.1 k (omega arith)) c.requires.filled

pub overflow_add-begin : goal.overflow_add-begin
overflow_add-begin g c = omega (arith, row_small (c.args.plant.now.budget + 1) c.args.node c.args.left c.args.right (omega arith) (omega (arith, few_nodes c.args.plant.now)))

pub put_cell-requires : goal.put_cell-requires
put_cell-requires g c =
    omega (arith, row_room c.args.plant.now (length c.args.cells.now) c.args.node c.args.left c.args.right c.requires.filled.room c.requires.within, c.loop-hours.auto.cells, c.requires.known.is c.args.node (omega arith))

pub loop-hours-preserved : goal.loop-hours-preserved
loop-hours-preserved g c =
    let p = c.args.plant.now in
    let begin = row_start (p.budget + 1) c.args.node c.args.left c.args.right in
    let begins : c.place-begin.result ≡ begin = omega (arith, c.place-begin.ensures) in
    let at = begin + c.loop-hours.hours in
    let reach = c.requires.known.is c.args.node (omega arith) in
    let lt : at < length c.loop-hours.cells =
    omega (arith, row_room p (length c.args.cells.now) c.args.node c.args.left c.args.right c.requires.filled.room c.requires.within, c.loop-hours.auto.cells, reach) in
    let is = rw begins at c.put_cell.ensures in (
      below_more _ _
          (λ k le. let ne : begin + k ≢ at = omega arith in rw (is, get_or-set_other) (c.loop-hours.invariant.0 k le))
          (rw (is, get_or-set_same) c.cell_at-cell.ensures),
      (λ k le. let ne : k ≢ at = omega arith in rw (is, get_or-set_other) (c.loop-hours.invariant.1 k le)),
      (λ k le. let ne : k ≢ at = omega arith in rw (is, get_or-set_other) (c.loop-hours.invariant.2 k le)),
    )

pub overflow_add-begin-2 : goal.overflow_add-begin-2
overflow_add-begin-2 g c =
    omega (arith, row_small (c.args.plant.now.budget + 1) c.args.node c.args.left c.args.right (omega arith) (omega (arith, few_nodes c.args.plant.now)), c.requires.known.is c.args.node (omega arith))

pub overflow_add-begin-3 : goal.overflow_add-begin-3
overflow_add-begin-3 g c = omega (arith, row_small (c.args.plant.now.budget + 1) c.args.node c.args.left c.args.right (omega arith) (omega (arith, few_nodes c.args.plant.now)))

pub clear-requires : goal.clear-requires
clear-requires g c =
    let reach = c.requires.known.is c.args.node (omega arith) in (
      omega (arith, reach),
      omega (arith, row_room c.args.plant.now (length c.args.cells.now) c.args.node c.args.left c.args.right c.requires.filled.room c.requires.within, c.loop-hours.auto.cells),
    )

pub returns : goal.returns
returns g c =
    let p = c.args.plant.now in
    let v = c.args.node in
    let l = c.args.left in
    let r = c.args.right in
    let begin = row_start (p.budget + 1) v l r in
    let reach = c.requires.known.is v (omega arith) in
    let bounds : (c.place-begin.result ≡ begin) × (get_or c.args.reach.now v 0 ≤ p.budget) = (omega (arith, c.place-begin.ensures), omega (arith, reach)) in
    let past = get_or c.args.reach.now v 0 + 1 in
    record {
      best = λ h le.
          ⊎_elim
          (λ near. rw (c.clear.ensures.below (begin + h) (omega arith)) (c.loop-hours.invariant.0 h (omega arith)))
          (λ far. rw (c.clear.ensures.absent (begin + h) (omega arith) (omega arith)) (past_cells g.met.Y.Yardstick.lawful p v l r h (get_or c.args.reach.now v 0) reach (omega arith) le))
          (cases_lt h past);
      kept_below = λ k lt. rw (c.clear.ensures.below k (omega arith)) (c.loop-hours.invariant.1 k (omega arith));
      kept_past = λ k le. rw (c.clear.ensures.past k (omega arith)) (c.loop-hours.invariant.2 k (omega arith));
    }
