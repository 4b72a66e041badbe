-- What solving, issuing, ticking and ending answer. Assumes nothing.
use Rattle.std.specs.Prelude.{◌≡◌, ℕ, ◌+◌, ◌<◌, ◌≤◌, Bool, true, false, not, ◌&&◌, List, ◌++◌, length, drop, replicate, Ok, Err, Result, slice_set}
use Rattle.plant.specs.declared.records.Station.{Station}
use Rattle.plant.specs.declared.refusal.Reason.TheVariants as R
use Rattle.plant.specs.declared.refusal.Refusal.{Refusal}
use Rattle.plant.specs.Selections.{among, hours}
use Rattle.plan.specs.declared.pick.Pick.{Pick}
use Rattle.plan.specs.declared.pick.Issue.{Issue}
use Rattle.plan.specs.declared.pick.Progress.{Progress}
use Rattle.plan.specs.declared.pick.Done.{Done}
use Rattle.plan.specs.Ledger.{stations_in}
use Rattle.plan.specs.Replies.{call_refused}

-- an issue begins with its pick's list, and nothing ticked
pub record Issued (k : Pick) (i : Issue) : Type 0 where
  pub plan : i.plan.now ≡ k.plan.now
  pub selection : i.selection ≡ k.selection
  pub ticked : i.ticked.open ≡ replicate 64 false

-- the stations of an issue's plan
abbrev pub stations : Issue → List Station
stations i = stations_in i.plan.now.filled

-- the ticked hours are those of the ticked stations as a selection, and with the open hours they make the list's
pub record Adds (i : Issue) (x : Progress) : Type 0 where
  pub ticked : x.ticked ≡ hours (stations i) (among i.ticked)
  pub all : x.ticked + x.open ≡ hours (stations i) (among i.selection)

-- a station is open: in the list, and not ticked
abbrev pub still_open : Issue → ℕ → Bool
still_open i k = among i.selection k && not (among i.ticked k)

-- An accepted tick is of a station that was open, and ticks it and no other. A refused one is of a number that has no station, or of
-- one that was not open, and leaves the issue as it was.
abbrev pub Ticked : Issue → ℕ → Result Progress Refusal → Issue → Type 0
Ticked i k (Ok x) j =
    (k < length (stations i)) × (still_open i k ≡ true)
    × (j.plan ≡ i.plan) × (j.selection ≡ i.selection) × (j.ticked.open ≡ slice_set i.ticked.open k true) × Adds j x
Ticked i k (Err e) j =
    (j ≡ i) × (length (stations i) ≤ k → e ≡ call_refused R.NoSuchRecord k)
    × (k < length (stations i) → (still_open i k ≡ false) × (e ≡ call_refused R.NotOpen k))

-- the end of an issue tells both parts of its list, and the hours of each
pub record Ended (i : Issue) (d : Done) : Type 0 where
  pub ticked : d.ticked ≡ i.ticked
  pub rest : (k : ℕ) → among d.open k ≡ still_open i k
  pub adds : Adds i d.hours
  pub open_hours : d.hours.open ≡ hours (stations i) (among d.open)

-- A text is printed whole, and memory beyond it stays; or the memory is too short for it, which the refusal tells by what is needed, and
-- all of it stays.
abbrev pub Printed : List ℕ → List ℕ → List ℕ → Result ℕ Refusal → Type 0
Printed text m m' (Ok n) = (n ≡ length text) × (length text ≤ length m) × (m' ≡ text ++ drop (length text) m)
Printed text m m' (Err e) = (e ≡ call_refused R.MemoryTooShort (length text)) × (length m < length text) × (m' ≡ m)
