-- What the verdict on three texts says of their writing. Assumes nothing.
use Rattle.std.specs.Prelude.{◌≡◌, ℕ, ◌<◌, ◌≤◌, ◌⊎◌, List, length}
use Rattle.plant.specs.declared.records.Line.{Line}
use Rattle.plant.specs.declared.records.Station.{Station}
use Rattle.plant.specs.declared.refusal.Part.{Part}
use Rattle.plant.specs.declared.refusal.Part.TheVariants as P
use Rattle.plant.specs.declared.refusal.Reason.TheVariants.{TextTooLong}
use Rattle.plant.specs.declared.refusal.Refusal.{Refusal}
use Rattle.plant.specs.Trees.{Tree}
use Rattle.rows.specs.Faults as Rows
use Rattle.rows.specs.Written.{Writes, station_form, line_form}
use Rattle.drawing.specs.Faults as Drawing
use Rattle.drawing.specs.Verdict as Drawn
use Rattle.texts.specs.Verdict.{accepted, refused, verdict}

-- a text has at most 65,535 bytes, or it is too long
abbrev pub Short : List ℕ → Type 0
Short text = length text ≤ 65535

abbrev pub Long : List ℕ → Type 0
Long text = 65535 < length text

abbrev pub AllShort : List ℕ → List ℕ → List ℕ → Type 0
AllShort ss ls tree = Short ss × Short ls × Short tree

-- The three texts are the writing of a plant: its stations, the lines between them, and a tree that draws them.
pub record WritesPlant (ss ls tree : List ℕ) (stations : List Station) (lines : List Line) (t : Tree) : Type 0 where
  pub short : AllShort ss ls tree
  pub stations_text : Writes station_form ss stations
  pub lines_text : Writes (line_form (length stations)) ls lines
  pub tree_text : Drawn.Writes (length stations) lines tree t

-- Three texts are accepted with a plant exactly when they are the writing of that plant. There is no other such plant.
pub record AcceptedWhenWritten : Type 0 where
  pub only_written : (ss ls tree : List ℕ) (stations : List Station) (lines : List Line) (t : Tree) → verdict ss ls tree ≡ accepted stations lines t → WritesPlant ss ls tree stations lines t
  pub all_written : (ss ls tree : List ℕ) (stations : List Station) (lines : List Line) (t : Tree) → WritesPlant ss ls tree stations lines t → verdict ss ls tree ≡ accepted stations lines t
  pub one_plant : (ss ls tree : List ℕ) (stations others : List Station) (lines others_lines : List Line) (t u : Tree) → WritesPlant ss ls tree stations lines t → WritesPlant ss ls tree others others_lines u → (stations ≡ others) × (lines ≡ others_lines) × (t ≡ u)

-- a refusal of a text for its length
abbrev pub too_long : Part → Refusal
too_long part = record { reason = TextTooLong; part = part; place = 0 }

-- The one refusal of three texts. A text is too long, the stations' asked first, then the lines', then the tree. Where none is, the
-- stations' text has its first fault; or it writes stations and the lines' text has its own; or both write a plant's records and the
-- tree's text has its own.
pub data FirstFault (ss ls tree : List ℕ) (e : Refusal) : Type 0 where
  long_stations : Long ss → e ≡ too_long P.Stations → FirstFault ss ls tree e
  long_lines : Short ss → Long ls → e ≡ too_long P.Lines → FirstFault ss ls tree e
  long_tree : Short ss → Short ls → Long tree → e ≡ too_long P.Tree → FirstFault ss ls tree e
  in_stations : AllShort ss ls tree → e.part ≡ P.Stations → Rows.FirstFault station_form ss e.place e.reason → FirstFault ss ls tree e
  in_lines : AllShort ss ls tree → (stations : List Station) → Writes station_form ss stations → e.part ≡ P.Lines → Rows.FirstFault (line_form (length stations)) ls e.place e.reason → FirstFault ss ls tree e
  in_tree : AllShort ss ls tree → (stations : List Station) (lines : List Line) → Writes station_form ss stations → Writes (line_form (length stations)) ls lines → e.part ≡ P.Tree → Drawing.FirstFault (length stations) lines tree e.place e.reason → FirstFault ss ls tree e

-- Three texts are refused exactly for their first fault. They have no other.
pub record RefusedAtFirstFault : Type 0 where
  pub only_first : (ss ls tree : List ℕ) (e : Refusal) → verdict ss ls tree ≡ refused e → FirstFault ss ls tree e
  pub all_first : (ss ls tree : List ℕ) (e : Refusal) → FirstFault ss ls tree e → verdict ss ls tree ≡ refused e
  pub one_fault : (ss ls tree : List ℕ) (e d : Refusal) → FirstFault ss ls tree e → FirstFault ss ls tree d → e ≡ d

-- Three texts are the writing of a plant, or they have a first fault, and never both.
pub record OneAnswer : Type 0 where
  pub some : (ss ls tree : List ℕ) → ((stations : List Station) × (lines : List Line) × (t : Tree) × WritesPlant ss ls tree stations lines t) ⊎ ((e : Refusal) × FirstFault ss ls tree e)
  pub not_both : (ss ls tree : List ℕ) (stations : List Station) (lines : List Line) (t : Tree) (e : Refusal) → WritesPlant ss ls tree stations lines t → FirstFault ss ls tree e → ⊥

-- A text that is too long is told before anything is read: the stations' text, whatever the other two are, then the lines', then the tree.
pub record LongBeforeAll : Type 0 where
  pub stations : (ss ls tree : List ℕ) → Long ss → verdict ss ls tree ≡ refused (too_long P.Stations)
  pub lines : (ss ls tree : List ℕ) → Short ss → Long ls → verdict ss ls tree ≡ refused (too_long P.Lines)
  pub tree : (ss ls tree : List ℕ) → Short ss → Short ls → Long tree → verdict ss ls tree ≡ refused (too_long P.Tree)
