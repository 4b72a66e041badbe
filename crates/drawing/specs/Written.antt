-- How a tree is written. Assumes nothing.
use Rattle.std.specs.Prelude.{ℕ, ◌+◌, max, cond, List, [], ◌∷◌, ◌++◌, map, ◌==◌}
use Rattle.std.specs.Int.Digits.{digits_of}
use Rattle.plant.specs.Trees.{Tree, leaf, series, parallel}

-- the decimal digits of a number
abbrev pub spelled : ℕ → List ℕ
spelled n = cond (n == 0) (48 ∷ []) (map (λ d. 48 + d) (digits_of 10 n))

-- a leaf is its line's number; a join is its halves in brackets with a comma between, and then the letter s or p
unfoldable pub written : Tree → List ℕ
written (leaf k) = spelled k
written (series a b) = 40 ∷ (written a ++ 44 ∷ (written b ++ 41 ∷ 115 ∷ []))
written (parallel a b) = 40 ∷ (written a ++ 44 ∷ (written b ++ 41 ∷ 112 ∷ []))

-- the most brackets that stand open at once
abbrev pub deep : Tree → ℕ
deep (leaf k) = 0
deep (series a b) = max (deep a) (deep b) + 1
deep (parallel a b) = max (deep a) (deep b) + 1
