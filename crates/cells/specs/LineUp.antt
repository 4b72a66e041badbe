-- The line-up among equals. Assumes nothing.
use Rattle.std.specs.Prelude.{◌≡◌, ℕ, ◌<◌, Bool, true, false, ◌⊎◌}
use Rattle.plant.specs.Selections.{Selection}
use Rattle.plant.specs.Trees.{Tree, leaf, series, parallel, left, right, inner}
use Rattle.cells.specs.Inside.{Site, inner_hours}

abbrev pub Same : Site → Tree → Selection → Selection → Type 0
Same N t S T = (i : ℕ) → inner N.net t i ≡ true → S i ≡ T i

abbrev pub ShutBefore : Bool → Bool → Type 0
ShutBefore s t = (s ≡ false) × (t ≡ true)

-- S stands before T in the inside of the piece: by the smaller state of the middle, then by fewer hours in the first half, then by the
-- line-up of the first half, then by that of the second
abbrev pub Before : Site → Tree → Selection → Selection → Type 0
Before N (leaf k) S T = ⊥
Before N (series a b) S T =
    ShutBefore (S (right N.net a)) (T (right N.net a)) ⊎
    ((S (right N.net a) ≡ T (right N.net a)) × ((inner_hours N a S < inner_hours N a T) ⊎ ((inner_hours N a S ≡ inner_hours N a T) × (Before N a S T ⊎ (Same N a S T × Before N b S T)))))
Before N (parallel a b) S T = (inner_hours N a S < inner_hours N a T) ⊎ ((inner_hours N a S ≡ inner_hours N a T) × (Before N a S T ⊎ (Same N a S T × Before N b S T)))

abbrev pub NotAfter : Site → Tree → Selection → Selection → Type 0
NotAfter N t S T = Before N t S T ⊎ Same N t S T

abbrev pub Alike : ℕ → Selection → Selection → Type 0
Alike n S T = (i : ℕ) → i < n → S i ≡ T i

-- whole selections: by the left end, then by the right end, then by the inside
abbrev pub WholeBefore : Site → Tree → Selection → Selection → Type 0
WholeBefore N t S T =
    ShutBefore (S (left N.net t)) (T (left N.net t)) ⊎
    ((S (left N.net t) ≡ T (left N.net t)) × (ShutBefore (S (right N.net t)) (T (right N.net t)) ⊎ ((S (right N.net t) ≡ T (right N.net t)) × Before N t S T)))
