-- The verdict on three texts. Assumes nothing.
use Rattle.std.specs.Prelude.{◌≡◌, ◌≤◌, ℕ, cond, List, length, Ok, Err, Result, nat_lt}
use Rattle.plant.specs.declared.records.Line.{Line}
use Rattle.plant.specs.declared.records.Station.{Station}
use Rattle.plant.specs.declared.refusal.Part.{Part}
use Rattle.plant.specs.declared.refusal.Part.TheVariants as P
use Rattle.plant.specs.declared.refusal.Reason.{Reason}
use Rattle.plant.specs.declared.refusal.Reason.TheVariants.{TextTooLong}
use Rattle.plant.specs.declared.refusal.Refusal.{Refusal}
use Rattle.plant.specs.Tables.{listed}
use Rattle.plant.specs.Nodes.{IsPlant, tree_of}
use Rattle.plant.specs.Trees.{Tree}
use Rattle.rows.specs.Lines.{lines}
use Rattle.rows.specs.Stations.{stations}
use Rattle.rows.specs.Verdict as Rows
use Rattle.drawing.specs.Verdict as Drawing
use Rattle.texts.specs.declared.read.Reading.{Reading}

-- a plant's records and its tree, or one refusal
pub data Verdict : Type 0 where
  accepted : List Station → List Line → Tree → Verdict
  refused : Refusal → Verdict

abbrev pub because : Reason → Part → ℕ → Verdict
because reason part place = refused (record { reason = reason; part = part; place = place })

-- the tree comes last
abbrev pub on_tree : List Station → List Line → Drawing.Verdict → Verdict
on_tree ss ls (Drawing.accepted t) = accepted ss ls t
on_tree ss ls (Drawing.refused reason place) = because reason P.Tree place

-- the lines before it, between the stations that were read
abbrev pub on_lines : List Station → Rows.Verdict Line → List ℕ → Verdict
on_lines ss (Rows.table ls) tree = on_tree ss ls (Drawing.verdict (length ss) ls tree)
on_lines ss (Rows.refused reason place) tree = because reason P.Lines place

-- the stations first
abbrev pub on_stations : Rows.Verdict Station → List ℕ → List ℕ → Verdict
on_stations (Rows.table ss) ls tree = on_lines ss (Rows.verdict (lines (length ss)) ls) tree
on_stations (Rows.refused reason place) ls tree = because reason P.Stations place

-- a text is too long with more than 65,535 bytes, and then nothing is read
abbrev pub unless_long : List ℕ → Part → Verdict → Verdict
unless_long text part v = cond (nat_lt 65535 (length text)) (because TextTooLong part 0) v

abbrev pub verdict : List ℕ → List ℕ → List ℕ → Verdict
verdict ss ls tree =
    unless_long ss P.Stations (unless_long ls P.Lines (unless_long tree P.Tree (on_stations (Rows.verdict stations ss) ls tree)))

-- a reading of an accepted plant
pub record IsRead (ss ls tree : List ℕ) (p : Reading) : Type 0 where
  pub judged : verdict ss ls tree ≡ accepted (listed p.stations) (listed p.lines) (tree_of (listed p.nodes))
  pub plant : IsPlant (listed p.stations) (listed p.lines) (listed p.nodes)
  pub few_nodes : length (listed p.nodes) ≤ 255

-- the answer is the verdict
abbrev pub Answers : List ℕ → List ℕ → List ℕ → Result Reading Refusal → Type 0
Answers ss ls tree (Ok p) = IsRead ss ls tree p
Answers ss ls tree (Err e) = verdict ss ls tree ≡ refused e
