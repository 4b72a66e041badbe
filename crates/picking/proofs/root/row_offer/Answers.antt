use Rattle.std.proofs.Common.{None, refl}
use Rattle.std.proofs.lemmas.List.{get_or_read}
use Rattle.cells.specs.Tops.{cell_of}
use Rattle.cells.proofs.Topping.{order}
use Rattle.picking.specs.Offers.{offer_of}
use Rattle.picking.proofs.Offers.{one_offer, offers_step, offers_end}
use Rattle.picking.proofs.root.row_offer.Goals as goal

pub loop-hours-preserved : goal.loop-hours-preserved
loop-hours-preserved g c =
    let y = g.Y.Yardstick in
    let laws = order g.met.Y.Yardstick.lawful.ops in
    let row = c.args.row.now in
    let h = c.loop-hours.hours in
    let e = c.args.root in
    let L = c.args.left.now in
    let R = c.args.right.now in
    let read = get_or_read row h c.index-row-hours.result c.loop-hours-test.true c.index-row-hours.is None in
    rw (c.leading-best.ensures, c.offer_at-next.ensures, read)
    (offers_step laws y.plus L R c.args.tables.now.plant.now.budget e.node e.left e.right (cell_of row) h c.loop-hours.best (offer_of y.plus L R c.args.tables.now.plant.now.budget (record { node = e.node; left = e.left; right = e.right; hours = h }) (cell_of row h)) c.loop-hours.invariant
    (one_offer laws y.plus L R c.args.tables.now.plant.now.budget e.node e.left e.right (cell_of row) h (cell_of row h) refl))

pub returns : goal.returns
returns g c =
    let y = g.Y.Yardstick in
    let laws = order g.met.Y.Yardstick.lawful.ops in
    let e = c.args.root in
    offers_end laws y.plus c.args.left.now c.args.right.now c.args.tables.now.plant.now.budget e.node e.left e.right c.args.row.now c.loop-hours.hours c.loop-hours.best c.loop-hours-test.false c.loop-hours.invariant
