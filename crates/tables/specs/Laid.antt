-- Bytes laid into memory. Assumes nothing.
use Rattle.std.specs.Prelude.{◌≡◌, ℕ, ◌+◌, ◌^◌, ◌<◌, ◌≤◌, List, [], ◌∷◌, ◌++◌, length, drop, Ok, Err, Result, slice_set}
use Rattle.tables.specs.declared.write.Writer.{Writer}

-- the memory m after these bytes are laid into it from the place p on; those past its end are left out
abbrev pub laid : List ℕ → ℕ → List ℕ → List ℕ
laid m p [] = m
laid m p (b ∷ bs) = laid (slice_set m p b) (p + 1) bs

-- from the place p in the memory m these bytes are laid, which leaves m' and comes to p'
pub record Wrote (m : List ℕ) (p : ℕ) (bs : List ℕ) (m' : List ℕ) (p' : ℕ) : Type 0 where
  pub memory : m' ≡ laid m p bs
  pub place : p' ≡ p + length bs

-- a writer keeps its memory, lays these bytes there from its place on and comes to the place after them; what it counts past 2 ^ 64
-- is not told
pub record Adds (w : Writer) (bs : List ℕ) (w' : Writer) : Type 0 where
  pub same_reference : w'.out.ghost_name ≡ w.out.ghost_name
  pub wrote : w.at + length bs < 2 ^ 64 → Wrote w.out.now w.at bs w'.out.now w'.at

-- The bytes stand in the memory from its start on, and what is beyond them stays; or the memory is too short, the number says how much
-- is needed, and all of it stays.
abbrev pub Whole : List ℕ → List ℕ → List ℕ → Result ℕ ℕ → Type 0
Whole bs m m' (Ok n) = (n ≡ length bs) × (length bs ≤ length m) × (m' ≡ bs ++ drop (length bs) m)
Whole bs m m' (Err n) = (n ≡ length bs) × (length m < length bs) × (m' ≡ m)
