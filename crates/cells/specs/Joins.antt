-- The two kinds of join alike: each goes through the states of a middle, which a parallel join has not. Assumes nothing.
use Rattle.std.specs.Prelude.{◌≡◌, ℕ, Bool, true, not, Option}
use Rattle.plant.specs.declared.tree.Join.{Join}
use Rattle.plant.specs.declared.tree.Join.TheVariants.{Series, Parallel}
use Rattle.cells.specs.Tops.{Split}
use Rattle.cells.specs.Inside.{Site, Scores, mid_figure, mid_hours}

-- the state of the right end of the first half, where that of the whole is r and the middle is m
abbrev pub first_right : Join → Bool → Bool → Bool
first_right Series r m = m
first_right Parallel r m = r

-- the state of the left end of the second half
abbrev pub second_left : Join → Bool → Bool → Bool
second_left Series l m = m
second_left Parallel l m = l

-- the states of the middle that are gone through: those that its hold allows, and one where there is none
abbrev pub passes : Site → Join → ℕ → Bool → Bool
passes N Series mid m = N.keeps mid m
passes N Parallel mid m = not m

-- what stands between the halves
abbrev pub between_figure : {F : Type 0} → F → Scores F → Join → ℕ → Bool → F
between_figure nil P Series mid m = mid_figure nil P mid m
between_figure nil P Parallel mid m = nil

abbrev pub between_hours : Site → Join → ℕ → Bool → ℕ
between_hours N Series mid m = mid_hours N mid m
between_hours N Parallel mid m = 0

-- x is a sum of a cell of each half and what stands between, through some state of the middle
abbrev pub Through : {F : Type 0} → F → (F → F → F) → Site → Scores F → Join → ℕ → (Bool → Bool → ℕ → Option F) → (Bool → Bool → ℕ → Option F) → Bool → Bool → ℕ → F → Type 0
Through nil plus N P j mid first second l r h x =
    (m : Bool) × (passes N j mid m ≡ true)
    × Split plus (first l (first_right j r m)) (second (second_left j l m) r) (between_figure nil P j mid m) (between_hours N j mid m) h x
