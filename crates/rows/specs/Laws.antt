-- What the verdict on a table's text says of its writing. Assumes nothing.
use Rattle.std.specs.Prelude.{◌≡◌, ℕ, List}
use Rattle.plant.specs.declared.refusal.Reason.{Reason}
use Rattle.rows.specs.Faults.{FirstFault}
use Rattle.rows.specs.Verdict.{Rules, table, refused, verdict}
use Rattle.rows.specs.Written.{Form, Writes}

-- A text is accepted with rows exactly when it is the writing of those rows. There are no other such rows.
pub record AcceptedWhenWritten {A : Type 0} (U : Rules A) (F : Form A) : Type 0 where
  pub only_written : (s : List ℕ) (rows : List A) → verdict U s ≡ table rows → Writes F s rows
  pub all_written : (s : List ℕ) (rows : List A) → Writes F s rows → verdict U s ≡ table rows
  pub one_writing : (s : List ℕ) (rows others : List A) → Writes F s rows → Writes F s others → rows ≡ others

-- A text is refused for a reason at a place exactly when its first fault is that one, with everything before it in order. So no text has two.
pub record RefusedAtFirstFault {A : Type 0} (U : Rules A) (F : Form A) : Type 0 where
  pub only_first : (s : List ℕ) (r : Reason) (place : ℕ) → verdict U s ≡ refused r place → FirstFault F s place r
  pub all_first : (s : List ℕ) (r : Reason) (place : ℕ) → FirstFault F s place r → verdict U s ≡ refused r place
