-- What the reading of a text says of its writing. Assumes nothing.
use Rattle.std.specs.Prelude.{◌≡◌, ℕ, ◌+◌, ◌-◌, ◌<◌, ◌≤◌, cond, ◌&&◌, ◌⊎◌, List, [], ◌∷◌, ◌++◌, map, length, take, drop, ◌==◌, ◌≢◌, nat_lt, slice_index}
use Rattle.tables.specs.Machine.{Told, done, stuck, row, whole}
use Rattle.tables.specs.Written.{Field, Row, Table, Allowed, Proper, Whole, bytes, contents, fields, line, lines, rows, text}

-- the parts of a record
abbrev pub parts : Row → List (List ℕ)
parts r = map bytes (fields r)

-- the record r stands in the text after the records rs, with its CRLF or at the end
abbrev pub Follows : List ℕ → List Row → Row → Type 0
Follows s rs r = ((v : List ℕ) × (s ≡ lines (rs ++ r ∷ []) ++ v)) ⊎ (s ≡ lines rs ++ line r)

abbrev pub told : List (List (List ℕ)) → Told
told [] = done
told (ps ∷ pss) = row ps (told pss)

abbrev pub Complete : Type 0
Complete = (t : Table) → Whole t → whole (text t) ≡ told (map parts (rows t))

abbrev pub Sound : Type 0
Sound = (s : List ℕ) (pss : List (List (List ℕ))) → whole s ≡ told pss → (t : Table) × Whole t × (s ≡ text t) × (pss ≡ map parts (rows t))

-- the text where the reading is stuck
abbrev pub StuckAt : Told → List ℕ → Type 0
StuckAt done q = ⊥
StuckAt (stuck r) q = r ≡ q
StuckAt (row ps t) q = StuckAt t q

-- the bytes before the place begin a table, and with the byte at the place, or the end there, they begin none
pub record Refused (s : List ℕ) (place : ℕ) : Type 0 where
  pub within : place ≤ length s
  pub viable : (v : List ℕ) × (t : Table) × Whole t × (take place s ++ v ≡ text t)
  pub none : (t : Table) → Whole t → s ≢ text t
  pub hopeless : (v : List ℕ) (t : Table) → place < length s → Whole t → take (place + 1) s ++ v ≢ text t

-- what the reading says of the text s, of which the records rs are read
abbrev pub Reading : List ℕ → List Row → Told → Type 0
Reading s rs done = (t : Table) × Whole t × (s ≡ text t) × (rs ≡ rows t)
Reading s rs (stuck q) = Refused s (length s - length q)
Reading s rs (row ps t) = (r : Row) × Proper r × (ps ≡ parts r) × Follows s rs r × Reading s (rs ++ r ∷ []) t

abbrev pub Reads : Type 0
Reads = (s : List ℕ) → Reading s [] (whole s)

abbrev pub Placed : Type 0
Placed = (s : List ℕ) (p : ℕ) → p ≤ length s → StuckAt (whole s) (drop p s) → Refused s p

-- a part without its quotes
abbrev pub inner : List ℕ → List ℕ
inner p = cond (nat_lt 1 (length p) && slice_index p 0 == 34) (take (length p - 1 - 1) (drop 1 p)) p

-- two quotes are one
abbrev pub single : List ℕ → List ℕ
single [] = []
single (b ∷ []) = b ∷ []
single (b ∷ d ∷ s) = cond (b == 34) (34 ∷ single s) (b ∷ single (d ∷ s))

-- what a part means
abbrev pub meaning : List ℕ → List ℕ
meaning p = single (inner p)

abbrev pub Means : Type 0
Means = (f : Field) → Allowed f → meaning (bytes f) ≡ contents f
