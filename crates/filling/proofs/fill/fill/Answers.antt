use Rattle.std.proofs.Common.{◌≡◌, ℕ, length, subst, arith}
use Rattle.filling.specs.Sites.{NodesFilled}
use Rattle.filling.proofs.Nodes.{nodes_more, known_more}
use Rattle.filling.proofs.Standing.{few_nodes}
use Rattle.filling.proofs.fill.fill.Goals as goal

pub bounds-reach-node : goal.bounds-reach-node
bounds-reach-node g c = omega (arith, few_nodes c.args.plant.now)

pub fill_node-requires-clause-known : goal.fill_node-requires-clause-known
fill_node-requires-clause-known g c =
    let p = c.args.plant.now in
    known_more p c.loop-node.reach c.loop-node.node c.reach_of.result (omega (arith, few_nodes p)) c.reach_of.ensures c.loop-node.invariant.1

pub loop-node-preserved : goal.loop-node-preserved
loop-node-preserved g c =
    let p = c.args.plant.now in
    let v = c.loop-node.node in (
      nodes_more p c.args.cells.now c.loop-node.cells c.fill_node.new.cells v c.loop-node.invariant.0 c.fill_node.ensures,
      known_more p c.loop-node.reach v c.reach_of.result (omega (arith, few_nodes p)) c.reach_of.ensures c.loop-node.invariant.1,
    )

pub returns : goal.returns
returns g c =
    let y = g.Y.Yardstick in
    let p = c.args.plant.now in
    let e : c.loop-node.node ≡ length p.nodes.now = omega arith in
    subst (λ (v : ℕ). NodesFilled y.nil y.plus y.above y.station y.line p c.args.cells.now c.loop-node.cells v) e c.loop-node.invariant.0
