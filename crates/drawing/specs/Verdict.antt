-- The verdict on a tree's text, and what the answer says of it. Assumes nothing.
use Rattle.std.specs.Prelude.{◌≡◌, ℕ, ◌-◌, ◌<◌, ◌≤◌, List, length, Ok, Err, Result, ◌≢◌}
use Rattle.plant.specs.declared.records.Line.{Line}
use Rattle.plant.specs.declared.refusal.Reason.{Reason}
use Rattle.plant.specs.declared.refusal.Refusal.{Refusal}
use Rattle.plant.specs.declared.refusal.Part.TheVariants as P
use Rattle.plant.specs.declared.table.Table.{Table}
use Rattle.plant.specs.declared.tree.Node.{Node}
use Rattle.plant.specs.Records.{line}
use Rattle.plant.specs.Trees.{Tree, net_of, Draws}
use Rattle.plant.specs.Nodes.{numbered, Drawn}
use Rattle.plant.specs.Tables.{listed}
use Rattle.drawing.specs.Grammar.{Out, good, bad, whole}
use Rattle.drawing.specs.Faults.{Grammatical, FirstFault}

-- a text is accepted with its tree, or refused with a reason and a place
pub data Verdict : Type 0 where
  accepted : Tree → Verdict
  refused : Reason → ℕ → Verdict

-- the place of a fault is the number of bytes before it
abbrev pub settled : ℕ → Out Tree → Verdict
settled long (good t s) = accepted t
settled long (bad r s) = refused r (long - length s)

-- the verdict on a text, for a plant of n stations and these lines
abbrev pub verdict : ℕ → List Line → List ℕ → Verdict
verdict n ls s = settled (length s) (whole 127 (net_of ls) n (length ls) s)

-- the lines join different stations of the n
abbrev pub Joins : ℕ → List Line → Type 0
Joins n ls = (k : ℕ) → k < length ls → ((line ls k).from < n) × ((line ls k).to < n) × ((line ls k).from ≢ (line ls k).to)

-- the text is the writing of a tree, and the tree draws the plant
pub record Writes (n : ℕ) (ls : List Line) (s : List ℕ) (t : Tree) : Type 0 where
  pub text : Grammatical t s
  pub draws : Draws (net_of ls) n (length ls) t

-- the nodes of the accepted tree
pub record Accepted (n : ℕ) (ls : List Line) (s : List ℕ) (r : Table Node 255) : Type 0 where
  pub tree : Tree
  pub judged : verdict n ls s ≡ accepted tree
  pub writes : Writes n ls s tree
  pub fits : length (listed r) ≤ 255
  pub nodes : listed r ≡ numbered (net_of ls) 0 tree
  pub drawn : Drawn n ls (listed r)

pub record Refused (n : ℕ) (ls : List Line) (s : List ℕ) (e : Refusal) : Type 0 where
  pub judged : verdict n ls s ≡ refused e.reason e.place
  pub fault : FirstFault n ls s e.place e.reason
  pub part : e.part ≡ P.Tree

-- the answer is the verdict
abbrev pub Answers : ℕ → List Line → List ℕ → Result (Table Node 255) Refusal → Type 0
Answers n ls s (Ok r) = Accepted n ls s r
Answers n ls s (Err e) = Refused n ls s e

-- A text is accepted with a tree exactly when it is the writing of that tree, and the tree draws the plant. There is no other such tree.
pub record AcceptedWhenWritten : Type 0 where
  pub only_written : (n : ℕ) (ls : List Line) (s : List ℕ) (t : Tree) → n ≤ 64 → Joins n ls → verdict n ls s ≡ accepted t → Writes n ls s t
  pub all_written : (n : ℕ) (ls : List Line) (s : List ℕ) (t : Tree) → n ≤ 64 → Joins n ls → Writes n ls s t → verdict n ls s ≡ accepted t
  pub one_tree : (n : ℕ) (ls : List Line) (s : List ℕ) (t u : Tree) → n ≤ 64 → Joins n ls → Writes n ls s t → Writes n ls s u → t ≡ u

-- A text is refused for a reason at a place exactly when its first fault is that one. So no text has two.
pub record RefusedAtFirstFault : Type 0 where
  pub only_first : (n : ℕ) (ls : List Line) (s : List ℕ) (r : Reason) (place : ℕ) → n ≤ 64 → Joins n ls → verdict n ls s ≡ refused r place → FirstFault n ls s place r
  pub all_first : (n : ℕ) (ls : List Line) (s : List ℕ) (r : Reason) (place : ℕ) → n ≤ 64 → Joins n ls → FirstFault n ls s place r → verdict n ls s ≡ refused r place
