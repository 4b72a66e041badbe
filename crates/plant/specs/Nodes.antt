-- The nodes of a tree, numbered from 0 in the order in which their text is completed. Assumes nothing.
use Rattle.std.specs.Prelude.{◌≡◌, ℕ, zero, suc, ◌+◌, ◌-◌, ◌≤◌, List, [], ◌∷◌, ◌++◌, length, slice_index_or}
use Rattle.plant.specs.declared.records.Station.{Station}
use Rattle.plant.specs.declared.records.Line.{Line}
use Rattle.plant.specs.declared.tree.Join.{Join}
use Rattle.plant.specs.declared.tree.Join.TheVariants.{Series, Parallel}
use Rattle.plant.specs.declared.tree.Shape.{Shape}
use Rattle.plant.specs.declared.tree.Shape.TheVariants as S
use Rattle.plant.specs.declared.tree.Node.{Node}
use Rattle.plant.specs.Records.{StationsInRange, LinesInRange, max_stations, max_lines}
use Rattle.plant.specs.Trees.{Net, net_of, Tree, leaf, series, parallel, left, right, Draws}

abbrev pub size : Tree → ℕ
size (leaf k) = 1
size (series a b) = size a + size b + 1
size (parallel a b) = size a + size b + 1

-- the node of a tree, where its halves have these numbers
abbrev pub node : Net → Tree → Shape → Node
node N t s = record { shape = s; left = left N t; right = right N t }

-- the nodes of a tree, where n nodes are complete before it
abbrev pub numbered : Net → ℕ → Tree → List Node
numbered N n (leaf k) = node N (leaf k) (S.Leaf k) ∷ []
numbered N n (series a b) =
    numbered N n a ++ (numbered N (n + size a) b ++ node N (series a b) (S.Join Series (n + size a - 1) (n + size a + size b - 1)) ∷ [])
numbered N n (parallel a b) =
    numbered N n a ++ (numbered N (n + size a) b ++ node N (parallel a b) (S.Join Parallel (n + size a - 1) (n + size a + size b - 1)) ∷ [])

abbrev pub no_node : Node
no_node = record { shape = S.Leaf 0; left = 0; right = 0 }

abbrev pub joined : Join → Tree → Tree → Tree
joined Series a b = series a b
joined Parallel a b = parallel a b

abbrev pub shaped : Shape → (ℕ → Tree) → Tree
shaped (S.Leaf k) sub = leaf k
shaped (S.Join j a b) sub = joined j (sub a) (sub b)

-- the tree of a node, so many joins deep
abbrev pub tree_at : List Node → ℕ → ℕ → Tree
tree_at ns zero v = leaf 0
tree_at ns (suc deep) v = shaped (slice_index_or ns v no_node).shape (tree_at ns deep)

-- the tree of the last node
abbrev pub tree_of : List Node → Tree
tree_of ns = tree_at ns (length ns) (length ns - 1)

-- the nodes are those of a tree that draws the plant of n stations and these lines
pub record Drawn (n : ℕ) (ls : List Line) (ns : List Node) : Type 0 where
  pub ordered : ns ≡ numbered (net_of ls) 0 (tree_of ns)
  pub draws : Draws (net_of ls) n (length ls) (tree_of ns)

-- these are the stations, lines and nodes of a plant: in range, within the limits, and drawn
pub record IsPlant (ss : List Station) (ls : List Line) (ns : List Node) : Type 0 where
  pub stations : StationsInRange ss
  pub lines : LinesInRange ls
  pub few_stations : length ss ≤ max_stations
  pub few_lines : length ls ≤ max_lines
  pub drawn : Drawn (length ss) ls ns
