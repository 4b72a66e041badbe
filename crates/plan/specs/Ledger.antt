-- The ledger: what a plan stands for, and what a call makes of it, from the call's arguments and the ledger alone. Assumes nothing.
use Rattle.std.specs.Prelude.{◌≡◌, ℕ, false, cond, List, [], length, ℤ, is_ok, Some, None, Ok, Err, Option, Result, ◌==◌, nat_le, nat_lt, slice_set}
use Rattle.plant.specs.declared.records.Hold.{Hold}
use Rattle.plant.specs.declared.records.Line.{Line}
use Rattle.plant.specs.declared.records.Station.{Station}
use Rattle.plant.specs.declared.refusal.Reason.TheVariants as R
use Rattle.plant.specs.declared.tree.Node.{Node}
use Rattle.plant.specs.Tables.{listed}
use Rattle.plant.specs.Nodes.{tree_of}
use Rattle.plant.specs.Records.{station, line, hold_of}
use Rattle.plant.specs.Trees.{Tree}
use Rattle.texts.specs.Verdict.{Verdict, accepted, verdict}
use Rattle.texts.specs.Verdict.{refused as refused_texts}
use Rattle.plan.specs.declared.Filled.{Filled}
use Rattle.plan.specs.declared.Plan.{Plan}
use Rattle.plan.specs.Replies.{Reply, refused, in_gain}

-- a plant's records, its tree and the budget of hours
pub record Books : Type 0 where
  pub stations : List Station
  pub lines : List Line
  pub tree : Tree
  pub budget : ℕ

-- a plan is blank, or stands for these
pub data Ledger : Type 0 where
  blank : Ledger
  filled : Books → Ledger

abbrev pub books : Filled → Books
books f = record { stations = listed f.stations; lines = listed f.lines; tree = tree_of (listed f.nodes); budget = f.budget }

abbrev pub shown : Option Filled → Ledger
shown None = blank
shown (Some f) = filled (books f)

abbrev pub view : Plan → Ledger
view p = shown p.filled

-- what a plan has of each; a blank one has none
abbrev pub stations_in : Option Filled → List Station
stations_in None = []
stations_in (Some f) = listed f.stations

abbrev pub lines_in : Option Filled → List Line
lines_in None = []
lines_in (Some f) = listed f.lines

abbrev pub nodes_in : Option Filled → List Node
nodes_in None = []
nodes_in (Some f) = listed f.nodes

abbrev pub budget_in : Option Filled → ℕ
budget_in None = 0
budget_in (Some f) = f.budget

-- what is set: the budget; a station's hours, gain and urgent mark; a line's gain; a station's hold
pub data Setting : Type 0 where
  hours_set : ℕ → Setting
  station_set : ℕ → ℕ → ℤ → ℕ → Setting
  line_set : ℕ → ℤ → Setting
  hold_set : ℕ → ℕ → Setting

-- the calls that may change a plan
pub data Call : Type 0 where
  fill_call : List ℕ → List ℕ → List ℕ → Call
  set_call : Setting → Call

-- what becomes of the books: the new ones, or the reply that refuses
abbrev pub Outcome : Type 0
Outcome = Result Books Reply

abbrev pub put_station : Books → ℕ → Station → Books
put_station b k s = record { stations = slice_set b.stations k s; lines = b.lines; tree = b.tree; budget = b.budget }

abbrev pub put_line : Books → ℕ → Line → Books
put_line b k l = record { stations = b.stations; lines = slice_set b.lines k l; tree = b.tree; budget = b.budget }

abbrev pub put_budget : Books → ℕ → Books
put_budget b h = record { stations = b.stations; lines = b.lines; tree = b.tree; budget = h }

-- what set hold makes of one station
abbrev pub held : Books → ℕ → Option Hold → Outcome
held b k None = Err (refused R.OutOfRange 0)
held b k (Some h) = Ok (put_station b k (record { hours = (station b.stations k).hours; gain = (station b.stations k).gain; urgent = (station b.stations k).urgent; hold = h }))

-- a setting on the books of a plan that is not blank
abbrev pub set_by : Books → Setting → Outcome
set_by b (hours_set h) = cond (nat_lt 1000 h) (Err (refused R.OutOfRange 0)) (Ok (put_budget b h))
set_by b (station_set k h g u) =
    cond (nat_le (length b.stations) k) (Err (refused R.NoSuchRecord k))
    (cond (nat_lt 1000 h) (Err (refused R.OutOfRange 0))
    (cond (in_gain g) (cond (nat_lt 1 u) (Err (refused R.OutOfRange 2)) (Ok (put_station b k (record { hours = h; gain = g; urgent = (u == 1); hold = (station b.stations k).hold })))) (Err (refused R.OutOfRange 1))))
set_by b (line_set k g) =
    cond (nat_le (length b.lines) k) (Err (refused R.NoSuchRecord k))
    (cond (in_gain g) (Ok (put_line b k (record { from = (line b.lines k).from; to = (line b.lines k).to; gain = g }))) (Err (refused R.OutOfRange 0)))
set_by b (hold_set k h) = cond (nat_le (length b.stations) k) (Err (refused R.NoSuchRecord k)) (held b k (hold_of h))

abbrev pub replied : Outcome → Reply
replied (Ok b) = Ok tt
replied (Err r) = r

abbrev pub changed : Books → Outcome → Ledger
changed b (Ok new) = filled new
changed b (Err r) = filled b

-- a fill is answered by the verdict on its texts
abbrev pub told : Verdict → Reply
told (accepted ss ls t) = Ok tt
told (refused_texts e) = Err e

-- and takes the place of all that was there, with no hours
abbrev pub replaced : Ledger → Verdict → Ledger
replaced l (accepted ss ls t) = filled (record { stations = ss; lines = ls; tree = t; budget = 0 })
replaced l (refused_texts e) = l

-- what a setting answers on a ledger
abbrev pub set_reply : Ledger → Setting → Reply
set_reply blank c = refused R.Blank 0
set_reply (filled b) c = replied (set_by b c)

abbrev pub set_after : Ledger → Setting → Ledger
set_after blank c = blank
set_after (filled b) c = changed b (set_by b c)

-- what a call answers on a ledger
abbrev pub reply : Ledger → Call → Reply
reply l (fill_call ss ls tree) = told (verdict ss ls tree)
reply l (set_call c) = set_reply l c

-- and what it makes of it
abbrev pub after : Ledger → Call → Ledger
after l (fill_call ss ls tree) = replaced l (verdict ss ls tree)
after l (set_call c) = set_after l c

-- a refused call leaves the plan as it was
abbrev pub Kept : Reply → Plan → Plan → Type 0
Kept r p q = is_ok r ≡ false → q ≡ p

-- A call made on the plan p, which leaves the plan q: the ledger is what the call makes of it, the answer is the ledger's, and a
-- refused call leaves every field as it was.
pub record Step (p : Plan) (c : Call) (r : Reply) (q : Plan) : Type 0 where
  pub ledger : view q ≡ after (view p) c
  pub answer : r ≡ reply (view p) c
  pub kept : Kept r p q
