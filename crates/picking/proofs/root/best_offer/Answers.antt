use Rattle.cells.proofs.Topping.{order}
use Rattle.picking.proofs.Offers.{root_leads}
use Rattle.picking.proofs.root.best_offer.Goals as goal

pub returns : goal.returns
returns g c =
    let y = g.Y.Yardstick in
    rw (c.leading.ensures, c.leading-left_shut.ensures, c.leading-rest.ensures)
    (root_leads (order g.met.Y.Yardstick.lawful.ops) y.nil y.plus y.station c.args.tables.now.plant.now c.args.tables.now.cells.now c.ends_offer-both_shut.result c.ends_offer-right_open.result c.ends_offer-left_open.result c.ends_offer-both_open.result
    c.ends_offer-both_shut.ensures c.ends_offer-right_open.ensures c.ends_offer-left_open.ensures c.ends_offer-both_open.ensures)
