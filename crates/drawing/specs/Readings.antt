-- What the reader reads, and what its sketch holds then. Assumes nothing.
use Rattle.std.specs.Prelude.{◌≡◌, ℕ, ◌≤◌, List, length, Ok, Err, Result}
use Rattle.plant.specs.declared.refusal.Refusal.{Refusal}
use Rattle.plant.specs.Trees.{Net, Tree}
use Rattle.plant.specs.Nodes.{numbered}
use Rattle.plant.specs.Tables.{listed}
use Rattle.drawing.specs.declared.reader.Reader.{Reader}
use Rattle.drawing.specs.Grammar.{Out, good, Lines, whole}
use Rattle.drawing.specs.Reads.{rest, Faulted}
use Rattle.drawing.specs.Sketches.{net, named_in, Built}

abbrev pub IsTree : Result (Unit {0}) Refusal → Out Tree → Reader → Reader → Type 0
IsTree (Ok x) o before after = (t : Tree) × (o ≡ good t (rest after.text)) × Built t before.sketch after.sketch
IsTree (Err e) o before after = Faulted e o after.text.src.now

-- the reader went from `before` to `after` as the grammar f does, and has built the tree that it read
pub record ReadsTree (f : Net → ℕ → Lines → List ℕ → Out Tree) (before after : Reader) (r : Result (Unit {0}) Refusal) : Type 0 where
  pub src : after.text.src ≡ before.text.src
  pub reads : IsTree r (f (net before.sketch) (length before.sketch.lines.now) (named_in before.sketch.named) (rest before.text)) before after

-- a whole text, with the nodes of its tree
abbrev pub ReadsWhole : ℕ → ℕ → Reader → Reader → Result (Unit {0}) Refusal → Type 0
ReadsWhole d n before after (Ok x) =
    (t : Tree) × (u : List ℕ) × (whole d (net before.sketch) n (length before.sketch.lines.now) (rest before.text) ≡ good t u)
    × (length (listed after.sketch.nodes) ≤ 255) × (listed after.sketch.nodes ≡ numbered (net before.sketch) 0 t)
ReadsWhole d n before after (Err e) = Faulted e (whole d (net before.sketch) n (length before.sketch.lines.now) (rest before.text)) before.text.src.now
