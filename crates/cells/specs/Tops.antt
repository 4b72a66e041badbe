-- The best of some candidates, and the best of sums of two rows. Assumes nothing.
use Rattle.std.specs.Prelude.{◌≡◌, ℕ, ◌+◌, ◌≤◌, Bool, true, false, cond, List, Some, None, Option, slice_index_or}

-- r is a candidate that no candidate is above, and nothing only if there is no candidate
pub record Tops {F : Type 0} (above : F → F → Bool) (Cand : F → Type 0) (r : Option F) : Type 0 where
  pub reached : (m : F) → r ≡ Some m → Cand m
  pub covers : (x : F) → Cand x → (m : F) × (r ≡ Some m) × (above x m ≡ false)

-- an order in which two that are not one above the other are one
pub record Order {F : Type 0} (above : F → F → Bool) : Type 0 where
  pub irreflexive : (a : F) → above a a ≡ false
  pub transitive : (a b c : F) → above a b ≡ true → above b c ≡ true → above a c ≡ true
  pub tied : (a b : F) → above a b ≡ false → above b a ≡ false → a ≡ b

-- the one that is above, and the first of equals
abbrev pub better_of : {F : Type 0} → (F → F → Bool) → Option F → Option F → Option F
better_of above None b = b
better_of above (Some p) None = Some p
better_of above (Some p) (Some q) = Some (cond (above q p) q p)

-- the sum of two cells and what stands between them; absence is passed on
abbrev pub joined_of : {F : Type 0} → (F → F → F) → F → Option F → Option F → Option F
joined_of plus mid None b = None
joined_of plus mid (Some p) None = None
joined_of plus mid (Some p) (Some q) = Some (plus (plus p q) mid)

-- x is the sum of a cell of each row and the middle, and the indices and the middle's share add up to h
abbrev pub Split : {F : Type 0} → (F → F → F) → (ℕ → Option F) → (ℕ → Option F) → F → ℕ → ℕ → F → Type 0
Split {F} plus first second mid spent h x =
    (i : ℕ) × (j : ℕ) × (p : F) × (q : F) × (i + j + spent ≡ h) × (first i ≡ Some p) × (second j ≡ Some q) × (x ≡ plus (plus p q) mid)

-- every sum of two held figures and the middle one is within n
abbrev pub Fair : {F : Type 0} → (F → ℕ) → ℕ → (ℕ → Option F) → (ℕ → Option F) → F → Type 0
Fair {F} size n first second mid = (i j : ℕ) (p q : F) → first i ≡ Some p → second j ≡ Some q → size p + size q + size mid ≤ n

-- a row in memory
abbrev pub cell_of : {F : Type 0} → List (Option F) → ℕ → Option F
cell_of cells k = slice_index_or cells k None
