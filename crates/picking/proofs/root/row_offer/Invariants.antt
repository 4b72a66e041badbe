use Rattle.cells.specs.Tops.{cell_of}
use Rattle.picking.specs.Offers.{Leading}
use Rattle.picking.proofs.Offers.{BelowOffers}
use Rattle.picking.proofs.root.row_offer.Given as goal

abbrev pub invariant-loop-hours : goal.invariant-loop-hours
invariant-loop-hours g l = let y = g.Y.Yardstick in Leading y.above (BelowOffers y.plus (cell_of l.row) l.left l.right l.tables.plant.now.budget l.root.node l.root.left l.root.right l.hours) l.best
