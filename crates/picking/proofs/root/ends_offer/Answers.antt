use Rattle.std.proofs.Common.{◌≡◌, ℕ, ◌+◌, ◌-◌, length, Some, sym, ap, ◌∙◌, arith}
use Rattle.cells.specs.Tables.{memory}
use Rattle.cells.specs.Tops.{cell_of}
use Rattle.cells.proofs.Topping.{order, held_within}
use Rattle.plant.specs.Trees.{left, right}
use Rattle.picking.specs.Offers.{share_at}
use Rattle.filling.specs.Sites.{site, tree}
use Rattle.picking.proofs.Offers.{row_agrees, ends_lead}
use Rattle.picking.proofs.Rooting.{root_fair, share_hours}
use Rattle.picking.proofs.root.ends_offer.Goals as goal

pub row_offer-requires : goal.row_offer-requires
row_offer-requires g c =
    let p = c.args.tables.now.plant.now in
    let row = c.row.result.now in
    record {
      fair = λ h x e.
          let lt = held_within row h x e in
          let long = c.row.ensures.long in
          root_fair g.met.Y.Yardstick.lawful p c.args.tables.now.cells.now c.requires c.args.left c.args.right h c.root_node-ends.result.left c.root_node-ends.result.right c.args.left c.args.right c.in_ok-first.first c.in_ok-last.last x
          c.in_ok-first.ensures c.in_ok-last.ensures (omega arith) (sym (c.row.ensures.same h (omega arith)) ∙ e);
      small =
          let one = share_hours g.Y.Yardstick.nil g.Y.Yardstick.station p c.root_node-ends.result.left c.args.left c.in_ok-first.first c.in_ok-first.ensures in
          let two = share_hours g.Y.Yardstick.nil g.Y.Yardstick.station p c.root_node-ends.result.right c.args.right c.in_ok-last.last c.in_ok-last.ensures in
          omega (arith, c.row.ensures.long);
    }

pub returns : goal.returns
returns g c =
    let y = g.Y.Yardstick in
    let p = c.args.tables.now.plant.now in
    let l = c.args.left in
    let r = c.args.right in
    let v = length p.nodes.now - 1 in
    let mem = memory (p.budget + 1) c.args.tables.now.cells.now v l r in
    let first : Some c.in_ok-first.first ≡ share_at y.nil y.station p (left (site p).net (tree p)) l = c.in_ok-first.ensures ∙ ap (λ (i : ℕ). share_at y.nil y.station p i l) c.root_node-ends.ensures.left in
    let last : Some c.in_ok-last.last ≡ share_at y.nil y.station p (right (site p).net (tree p)) r = c.in_ok-last.ensures ∙ ap (λ (i : ℕ). share_at y.nil y.station p i r) c.root_node-ends.ensures.right in
    let laws = order g.met.Y.Yardstick.lawful.ops in
    let here = row_agrees laws y.plus c.in_ok-first.first c.in_ok-last.last p.budget v l r (cell_of c.row.result.now) mem c.row_offer.result (λ k le. c.row.ensures.same k (omega arith)) c.row_offer.ensures in
    ends_lead laws y.nil y.plus y.station p c.args.tables.now.cells.now l r c.in_ok-first.first c.in_ok-last.last first last c.row_offer.result here
