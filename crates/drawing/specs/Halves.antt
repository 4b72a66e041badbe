-- What the halves hold, and when two meet. Assumes nothing.
use Rattle.std.specs.Prelude.{◌≡◌, ℕ, ◌+◌, ◌-◌, ◌<◌, Bool, true, false, ◌||◌, ◌⊎◌, List, map, length, count_by, ◌==◌, slice_index_or}
use Rattle.std.specs.List.{range_with_len}
use Rattle.plant.specs.declared.tree.Join.{Join}
use Rattle.plant.specs.declared.tree.Join.TheVariants.{Series, Parallel}
use Rattle.plant.specs.Trees.{Net, Tree, left, right, station_of}
use Rattle.plant.specs.Nodes.{size}
use Rattle.drawing.specs.declared.half.Half.{Half}

-- how many are marked
abbrev pub tally : List Bool → ℕ
tally xs = count_by (λ b. b) xs

-- the first n are marked
abbrev pub AllMarked : List Bool → ℕ → Type 0
AllMarked xs n = (i : ℕ) → i < n → slice_index_or xs i false ≡ true

-- the two share no station but x and y
abbrev pub ShareOnly : List Bool → List Bool → ℕ → ℕ → Type 0
ShareOnly a b x y = (i : ℕ) → i < length a → slice_index_or a i false ≡ true → slice_index_or b i false ≡ true → (i ≡ x) ⊎ (i ≡ y)

-- the two meet as the join asks
abbrev pub Meet : Join → Half → Half → Type 0
Meet Series p q = (p.right ≡ q.left) × ShareOnly p.stations q.stations p.right p.right
Meet Parallel p q = (p.left ≡ q.left) × (p.right ≡ q.right) × ShareOnly p.stations q.stations p.left p.right

-- the half is the piece of n stations from the first to the last
abbrev pub Spans : ℕ → Half → Type 0
Spans n h = AllMarked h.stations n × (h.left ≡ 0) × (h.right + 1 ≡ n)

abbrev pub either : ℕ → ℕ → ℕ → Bool
either x y i = x == i || y == i

-- a mark for each station that a plant may have
unfoldable pub marks : (ℕ → Bool) → List Bool
marks f = map f (range_with_len 0 64)

-- the half of a tree, where n nodes are complete before it
abbrev pub half : Net → ℕ → Tree → Half
half N n t = record { node = n + size t - 1; left = left N t; right = right N t; stations = marks (station_of N t) }
