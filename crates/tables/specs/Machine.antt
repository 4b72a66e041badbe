-- What the reader reads. Assumes nothing.
use Rattle.std.specs.Prelude.{ℕ, cond, ◌&&◌, List, [], ◌∷◌, ◌++◌, ◌==◌, nat_le}
use Rattle.tables.specs.declared.grammar.State.{State}
use Rattle.tables.specs.declared.grammar.State.TheVariants as S
use Rattle.tables.specs.declared.grammar.Class.{Class}
use Rattle.tables.specs.declared.grammar.Class.TheVariants as C
use Rattle.tables.specs.declared.grammar.Move.{Move}
use Rattle.tables.specs.declared.grammar.Move.TheVariants as M

abbrev pub class : ℕ → Class
class b = cond (b == 44) C.Comma (cond (b == 34) C.Quote (cond (b == 13) C.Return (cond (b == 10) C.Feed (cond (nat_le 32 b && nat_le b 126) C.Plain C.Other))))

abbrev pub next : State → Class → Move
next S.Start k =
    elim k [ C.Comma ↦ M.End S.Start | C.Quote ↦ M.Take S.Quoted | C.Return ↦ M.End S.Return | C.Feed ↦ M.Fault | C.Plain ↦ M.Take S.Plain | C.Other ↦ M.Fault ]
next S.Plain k =
    elim k [ C.Comma ↦ M.End S.Start | C.Quote ↦ M.Fault | C.Return ↦ M.End S.Return | C.Feed ↦ M.Fault | C.Plain ↦ M.Take S.Plain | C.Other ↦ M.Fault ]
next S.Quoted k =
    elim k [ C.Comma ↦ M.Take S.Quoted | C.Quote ↦ M.Take S.Closed | C.Return ↦ M.Take S.Quoted | C.Feed ↦ M.Take S.Quoted | C.Plain ↦ M.Take S.Quoted | C.Other ↦ M.Fault ]
next S.Closed k =
    elim k [ C.Comma ↦ M.End S.Start | C.Quote ↦ M.Take S.Quoted | C.Return ↦ M.End S.Return | C.Feed ↦ M.Fault | C.Plain ↦ M.Fault | C.Other ↦ M.Fault ]
next S.Return k =
    elim k [ C.Comma ↦ M.Fault | C.Quote ↦ M.Fault | C.Return ↦ M.Fault | C.Feed ↦ M.Record | C.Plain ↦ M.Fault | C.Other ↦ M.Fault ]

-- a record's parts and the rest, or the rest where the fault stands
pub data Out : Type 0 where
  good : List (List ℕ) → List ℕ → Out
  bad : List ℕ → Out

abbrev pub finish : State → List ℕ → List (List ℕ) → Out
finish S.Start p ps = good (ps ++ p ∷ []) []
finish S.Plain p ps = good (ps ++ p ∷ []) []
finish S.Quoted p ps = bad []
finish S.Closed p ps = good (ps ++ p ∷ []) []
finish S.Return p ps = bad []

abbrev pub go : Move → ℕ → List ℕ → List ℕ → List (List ℕ) → (State → List ℕ → List (List ℕ) → Out) → Out
go (M.Take st) b s p ps f = f st (p ++ b ∷ []) ps
go (M.End st) b s p ps f = f st [] (ps ++ p ∷ [])
go M.Record b s p ps f = good ps s
go M.Fault b s p ps f = bad (b ∷ s)

-- the rest of a record, after the bytes p of a part and the whole parts ps
abbrev pub run : List ℕ → State → List ℕ → List (List ℕ) → Out
run [] st p ps = finish st p ps
run (b ∷ s) st p ps = go (next st (class b)) b s p ps (run s)

-- the records of a text, one by one, and how it ends
pub data Told : Type 0 where
  done : Told
  stuck : List ℕ → Told
  row : List (List ℕ) → Told → Told

abbrev pub close : State → List ℕ → List (List ℕ) → Told
close S.Start p ps = row (ps ++ p ∷ []) done
close S.Plain p ps = row (ps ++ p ∷ []) done
close S.Quoted p ps = stuck []
close S.Closed p ps = row (ps ++ p ∷ []) done
close S.Return p ps = stuck []

-- a text that is over begins no record
abbrev pub begin : List ℕ → (State → List ℕ → List (List ℕ) → Told) → Told
begin [] f = done
begin (b ∷ s) f = f S.Start [] []

abbrev pub move : Move → ℕ → List ℕ → List ℕ → List (List ℕ) → (State → List ℕ → List (List ℕ) → Told) → Told
move (M.Take st) b s p ps f = f st (p ++ b ∷ []) ps
move (M.End st) b s p ps f = f st [] (ps ++ p ∷ [])
move M.Record b s p ps f = row ps (begin s f)
move M.Fault b s p ps f = stuck (b ∷ s)

abbrev pub tell : List ℕ → State → List ℕ → List (List ℕ) → Told
tell [] st p ps = close st p ps
tell (b ∷ s) st p ps = move (next st (class b)) b s p ps (tell s)

-- after a record
abbrev pub again : List ℕ → Told
again s = begin s (tell s)

-- a whole text
abbrev pub whole : List ℕ → Told
whole s = tell s S.Start [] []
