-- The verdict on a table's text, whatever its rows are. Assumes nothing.
use Rattle.std.specs.Prelude.{◌≡◌, ℕ, ◌+◌, ◌-◌, ◌<◌, Bool, cond, List, [], ◌∷◌, ◌++◌, length, take, Ok, Err, Result, nat_lt}
use Rattle.plant.specs.declared.refusal.Reason.{Reason}
use Rattle.plant.specs.declared.refusal.Reason.TheVariants as R
use Rattle.plant.specs.declared.refusal.Part.{Part}
use Rattle.plant.specs.declared.refusal.Refusal.{Refusal}
use Rattle.std.specs.Borrow.{Bor}
use Rattle.plant.specs.declared.table.Table.{Table}
use Rattle.plant.specs.Tables.{listed}
use Rattle.tables.specs.declared.grammar.Records.{Records}
use Rattle.tables.specs.declared.grammar.State.TheVariants as S
use Rattle.tables.specs.Machine.{Told, done, stuck, row, whole, run, good, bad}
use Rattle.tables.specs.Fields.{held}
use Rattle.tables.specs.Reads as G

-- what a kind of table asks: its header, each record by its number and parts, and how many rows at the least
pub record Rules (A : Type 0) : Type 0 where
  pub heads : List (List ℕ) → Bool
  pub judge : ℕ → List (List ℕ) → Result A Reason
  pub least : ℕ

-- six parts of a record tell what all of them do, no row past the most is taken, and fewer than the least are too few
pub record Lawful {A : Type 0} (U : Rules A) (least most : ℕ) : Type 0 where
  pub heads_six : (ps : List (List ℕ)) → U.heads (take 6 ps) ≡ U.heads ps
  pub judge_six : (k : ℕ) (ps : List (List ℕ)) → U.judge k (take 6 ps) ≡ U.judge k ps
  pub full : (k : ℕ) (ps : List (List ℕ)) → most < k → U.judge k ps ≡ Err R.RowCount
  pub least_is : U.least ≡ least

-- the rows, or why and where
pub data Verdict (A : Type 0) : Type 0 where
  table : List A → Verdict A
  refused : Reason → ℕ → Verdict A

-- a record is judged after the rows before it
abbrev pub judged : {A : Type 0} → Result A Reason → List A → (List A → Verdict A) → Verdict A
judged (Ok a) rows f = f (rows ++ a ∷ [])
judged (Err e) rows f = refused e (length rows + 1)

-- the verdict on what is told of a text of n bytes, after these rows
abbrev pub after : {A : Type 0} → Rules A → ℕ → Told → List A → Verdict A
after U n done rows = cond (nat_lt (length rows) U.least) (refused R.RowCount (length rows)) (table rows)
after U n (stuck q) rows = refused R.TableGrammar (n - length q)
after U n (row ps t) rows = judged (U.judge (length rows + 1) ps) rows (after U n t)

abbrev pub first : {A : Type 0} → Rules A → ℕ → Told → Verdict A
first U n done = refused R.FieldCount 0
first U n (stuck q) = refused R.TableGrammar (n - length q)
first U n (row ps t) = cond (U.heads ps) (after U n t []) (refused R.FieldCount 0)

abbrev pub verdict : {A : Type 0} → Rules A → List ℕ → Verdict A
verdict U s = first U (length s) (whole s)

-- an answer is the verdict
abbrev pub Agrees : {A : Type 0} {N : ℕ} → Rules A → Part → List ℕ → Result (Table A N) Refusal → Type 0
Agrees U part s (Ok t) = verdict U s ≡ table (listed t)
Agrees U part s (Err e) = (verdict U s ≡ refused e.reason e.place) × (e.part ≡ part)

-- the next record is read, or refused
abbrev pub Found : Part → Records → Records → Result (Table (Bor (List ℕ)) 6) Refusal → Type 0
Found part before after' (Ok f) = (ps : List (List ℕ)) × (run (G.rest before) S.Start [] [] ≡ good ps (G.rest after')) × (held f ≡ take 6 ps)
Found part before after' (Err e) = (run (G.rest before) S.Start [] [] ≡ bad (G.rest after')) × (e ≡ record { reason = R.TableGrammar; part = part; place = after'.pos })

pub record NextRecord (part : Part) (before after' : Records) (r : Result (Table (Bor (List ℕ)) 6) Refusal) : Type 0 where
  pub src : after'.src ≡ before.src
  pub found : Found part before after' r
