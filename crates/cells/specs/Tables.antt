-- Where the cells lie in memory, and when they are right. Assumes nothing.
use Rattle.std.specs.Prelude.{◌≡◌, ℕ, ◌+◌, ◌-◌, ◌*◌, ◌<◌, ◌≤◌, min, Bool, cond, List, Option, slice_index}
use Rattle.plant.specs.Trees.{Tree, leaf, series, parallel, right}
use Rattle.cells.specs.Tops.{Tops, cell_of}
use Rattle.cells.specs.Inside.{Site, Scores, Choice}
use Rattle.cells.specs.Subtrees.{sub}
use Rattle.cells.specs.Traces.{Cells}

abbrev pub bit : Bool → ℕ
bit b = cond b 1 0

-- where the row of a node and two states begins, with rows of this width
abbrev pub row_start : ℕ → ℕ → Bool → Bool → ℕ
row_start width v l r = (4 * v + 2 * bit l + bit r) * width

abbrev pub place : ℕ → ℕ → Bool → Bool → ℕ → ℕ
place width v l r h = row_start width v l r + h

abbrev pub memory : {F : Type 0} → ℕ → List (Option F) → Cells F
memory width cells v l r h = cell_of cells (place width v l r h)

-- how many cells a plant of so many lines needs
abbrev pub need_of : ℕ → ℕ → ℕ
need_of m budget = (2 * m - 1) * 4 * (budget + 1)

-- the cells of the nodes below v are the best of their choices
abbrev pub Done : {F : Type 0} → F → (F → F → F) → (F → F → Bool) → Site → Scores F → Tree → ℕ → List (Option F) → ℕ → Type 0
Done nil plus above N P t budget cells v =
    (u : ℕ) → u < v → (l r : Bool) (h : ℕ) → h ≤ budget → Tops above (Choice nil plus N P (sub t u) l r h) (memory (budget + 1) cells u l r h)

-- the hours of all inner stations of a piece
abbrev pub most : Site → Tree → ℕ
most N (leaf k) = 0
most N (series a b) = most N a + most N b + N.hours (right N.net a)
most N (parallel a b) = most N a + most N b + 0

-- the reach of each node below v: those hours, or the budget where that is less
abbrev pub Reached : Site → Tree → ℕ → List ℕ → ℕ → Type 0
Reached N t budget reach v = (u : ℕ) → u < v → slice_index reach u ≡ min budget (most N (sub t u))
