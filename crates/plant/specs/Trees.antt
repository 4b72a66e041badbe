-- The tree of a plant: the piece that it builds, the rule for each join, and when it draws a whole plant. Assumes nothing.
use Rattle.std.specs.Prelude.{◌≡◌, ℕ, ◌+◌, ◌<◌, ◌≤◌, Bool, true, false, cond, ◌||◌, List, ◌==◌, ◌≢◌}
use Rattle.plant.specs.declared.records.Line.{Line}
use Rattle.plant.specs.Records.{line}

-- where each line runs: its two stations, by its number
pub record Net : Type 0 where
  pub from : ℕ → ℕ
  pub to : ℕ → ℕ

abbrev pub net_of : List Line → Net
net_of ls = record { from = λ k. (line ls k).from; to = λ k. (line ls k).to }

-- a leaf is a line, by its number; a join has two halves
pub data Tree : Type 0 where
  leaf : ℕ → Tree
  series parallel : Tree → Tree → Tree

-- the ends of the piece that a tree builds
abbrev pub left : Net → Tree → ℕ
left N (leaf k) = N.from k
left N (series a b) = left N a
left N (parallel a b) = left N a

abbrev pub right : Net → Tree → ℕ
right N (leaf k) = N.to k
right N (series a b) = right N b
right N (parallel a b) = right N a

-- its inner stations: those of the halves, and where two halves in series meet
abbrev pub inner : Net → Tree → ℕ → Bool
inner N (leaf k) i = false
inner N (series a b) i = inner N a i || inner N b i || right N a == i
inner N (parallel a b) i = inner N a i || inner N b i

-- its stations: the inner ones and the ends
abbrev pub station_of : Net → Tree → ℕ → Bool
station_of N t i = inner N t i || left N t == i || right N t == i

-- how many of its leaves are the line k
abbrev pub uses : Tree → ℕ → ℕ
uses (leaf j) k = cond (j == k) 1 0
uses (series a b) k = uses a k + uses b k
uses (parallel a b) k = uses a k + uses b k

-- The rule for each join. A line joins two different stations. Halves in series meet where the first ends and the second
-- begins, and share that station only. Halves in parallel have both ends in common, and share these two stations only.
pub record InSeries (N : Net) (a b : Tree) : Type 0 where
  pub meet : right N a ≡ left N b
  pub share : (i : ℕ) → station_of N a i ≡ true → station_of N b i ≡ true → i ≡ right N a

pub record InParallel (N : Net) (a b : Tree) : Type 0 where
  pub lefts : left N a ≡ left N b
  pub rights : right N a ≡ right N b
  pub share : (i : ℕ) → station_of N a i ≡ true → station_of N b i ≡ true → (i ≢ left N a) → i ≡ right N a

abbrev pub Builds : Net → Tree → Type 0
Builds N (leaf k) = N.from k ≡ N.to k → ⊥
Builds N (series a b) = Builds N a × Builds N b × InSeries N a b
Builds N (parallel a b) = Builds N a × Builds N b × InParallel N a b

-- The tree draws the plant of n stations and m lines: every join is right, each line is exactly one leaf and nothing else is,
-- every station is built, and the whole runs from station 0 to station n − 1.
pub record Draws (N : Net) (n m : ℕ) (t : Tree) : Type 0 where
  pub builds : Builds N t
  pub once : (k : ℕ) → k < m → uses t k ≡ 1
  pub never : (k : ℕ) → m ≤ k → uses t k ≡ 0
  pub lines_within : (k : ℕ) → k < m → (N.from k < n) × (N.to k < n)
  pub all_built : (i : ℕ) → i < n → station_of N t i ≡ true
  pub from_first : left N t ≡ 0
  pub to_last : right N t + 1 ≡ n
