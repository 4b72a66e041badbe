-- That records, a tree and its nodes are a plant is a proposition: there is at most one proof of it.
use Rattle.std.proofs.Common.{ℕ, List}
use mathlib.Core.Bool.{Bool-set}
use mathlib.Core.HLevel.{Π_prop, ¬_prop, ×_prop, ×₃_prop}
use mathlib.Core.List.{is_set}
use native.Mathlib.Nat.{ℕ_set}
use native.Mathlib.Bridge.{le_prop}
use base.Stored.{Coded-set}
use Rattle.plant.specs.contracts.tree.Node.{the_row}
use Rattle.plant.specs.declared.records.Line.{Line}
use Rattle.plant.specs.declared.records.Station.{Station}
use Rattle.plant.specs.declared.tree.Node.{Node}
use Rattle.plant.specs.Nodes.{Drawn, IsPlant}
use Rattle.plant.specs.Trees.{Net, Tree, leaf, series, parallel, InSeries, InParallel, Builds, Draws}

node_set : IsSet Node
node_set = Coded-set the_row.coded

series_prop : (N : Net) (a b : Tree) → IsProp (InSeries N a b)
series_prop N a b x y =
    λ i. record {
      meet = ℕ_set _ _ x.meet y.meet i;
      share = Π_prop (λ k. Π_prop (λ _. Π_prop (λ _. ℕ_set _ _))) x.share y.share i;
    }

parallel_prop : (N : Net) (a b : Tree) → IsProp (InParallel N a b)
parallel_prop N a b x y =
    λ i. record {
      lefts = ℕ_set _ _ x.lefts y.lefts i;
      rights = ℕ_set _ _ x.rights y.rights i;
      share = Π_prop (λ k. Π_prop (λ _. Π_prop (λ _. Π_prop (λ _. ℕ_set _ _)))) x.share y.share i;
    }

builds_prop : (N : Net) (t : Tree) → IsProp (Builds N t)
builds_prop N (leaf k) = ¬_prop
builds_prop N (series a b) = ×₃_prop (builds_prop N a) (builds_prop N b) (series_prop N a b)
builds_prop N (parallel a b) = ×₃_prop (builds_prop N a) (builds_prop N b) (parallel_prop N a b)

draws_prop : (N : Net) (n m : ℕ) (t : Tree) → IsProp (Draws N n m t)
draws_prop N n m t x y =
    λ i. record {
      builds = builds_prop N t x.builds y.builds i;
      once = Π_prop (λ k. Π_prop (λ _. ℕ_set _ _)) x.once y.once i;
      never = Π_prop (λ k. Π_prop (λ _. ℕ_set _ _)) x.never y.never i;
      lines_within = Π_prop (λ k. Π_prop (λ _. ×_prop le_prop le_prop)) x.lines_within y.lines_within i;
      all_built = Π_prop (λ k. Π_prop (λ _. Bool-set _ _)) x.all_built y.all_built i;
      from_first = ℕ_set _ _ x.from_first y.from_first i;
      to_last = ℕ_set _ _ x.to_last y.to_last i;
    }

drawn_prop : (n : ℕ) (ls : List Line) (ns : List Node) → IsProp (Drawn n ls ns)
drawn_prop n ls ns x y =
    λ i. record {
      ordered = is_set node_set _ _ x.ordered y.ordered i;
      draws = draws_prop _ _ _ _ x.draws y.draws i;
    }

pub plant_prop : (ss : List Station) (ls : List Line) (ns : List Node) → IsProp (IsPlant ss ls ns)
plant_prop ss ls ns x y =
    λ i. record {
      stations = Π_prop (λ k. Π_prop (λ _. ×_prop le_prop le_prop)) x.stations y.stations i;
      lines = Π_prop (λ k. Π_prop (λ _. le_prop)) x.lines y.lines i;
      few_stations = le_prop x.few_stations y.few_stations i;
      few_lines = le_prop x.few_lines y.few_lines i;
      drawn = drawn_prop _ _ _ x.drawn y.drawn i;
    }
