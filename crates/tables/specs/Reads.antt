-- How the reader follows the machine. Assumes nothing.
use Rattle.std.specs.Prelude.{◌≡◌, ℕ, ◌+◌, ◌<◌, Bool, true, false, List, [], ◌∷◌, length, take, drop, Some, None, Ok, Err, Option, Result}
use Rattle.std.specs.Borrow.{Bor}
use Rattle.plant.specs.declared.table.Table.{Table}
use Rattle.tables.specs.declared.grammar.Fault.{Fault}
use Rattle.tables.specs.declared.grammar.Records.{Records}
use Rattle.tables.specs.declared.grammar.State.TheVariants as S
use Rattle.tables.specs.Fields.{held}
use Rattle.tables.specs.Machine.{good, bad, run}

abbrev pub rest : Records → List ℕ
rest r = drop r.pos r.src.now

-- the text from its beginning on
abbrev pub Begins : Bor (List ℕ) → Records → Type 0
Begins src r = (r.src ≡ src) × (r.pos ≡ 0)

abbrev pub IsOver : Records → Bool → Type 0
IsOver r true = rest r ≡ []
IsOver r false = 0 < length (rest r)

abbrev pub Peeked : Records → Option ℕ → Type 0
Peeked r None = (r.pos ≡ length r.src.now) × (rest r ≡ [])
Peeked r (Some b) = (r.pos < length r.src.now) × (rest r ≡ b ∷ drop (r.pos + 1) r.src.now)

abbrev pub Found : Records → Records → Result (Table (Bor (List ℕ)) 6) Fault → Type 0
Found before after (Ok f) = (ps : List (List ℕ)) × (run (rest before) S.Start [] [] ≡ good ps (rest after)) × (held f ≡ take 6 ps)
Found before after (Err e) = (run (rest before) S.Start [] [] ≡ bad (rest after)) × (e ≡ record { place = after.pos })

pub record ReadsRecord (before after : Records) (r : Result (Table (Bor (List ℕ)) 6) Fault) : Type 0 where
  pub src : after.src ≡ before.src
  pub found : Found before after r
