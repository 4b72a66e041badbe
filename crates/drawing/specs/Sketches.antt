-- What a sketch holds while its text is read. Assumes nothing.
use Rattle.std.specs.Prelude.{◌≡◌, ℕ, ◌+◌, ◌*◌, Bool, true, false, not, ◌&&◌, ◌||◌, List, [], ◌∷◌, ◌++◌, length, nat_lt, slice_index_or, Ok, Err, Result}
use Rattle.plant.specs.declared.refusal.Reason.{Reason}
use Rattle.plant.specs.declared.refusal.Reason.TheVariants.{LeafNumber, HalvesApart, NotThePlant}
use Rattle.plant.specs.declared.tree.Join.{Join}
use Rattle.plant.specs.declared.tree.Shape.{Shape}
use Rattle.plant.specs.declared.tree.Shape.TheVariants as S
use Rattle.plant.specs.Trees.{Net, net_of, Tree, leaf}
use Rattle.plant.specs.Nodes.{size, numbered}
use Rattle.plant.specs.Held.{held, room}
use Rattle.plant.specs.Tables.{listed}
use Rattle.drawing.specs.declared.half.Half.{Half}
use Rattle.drawing.specs.declared.sketch.Sketch.{Sketch}
use Rattle.drawing.specs.Grammar.{Lines, with_lines}
use Rattle.drawing.specs.Halves.{half, marks, tally, Meet, AllMarked, Spans}

-- the plant's net
abbrev pub net : Sketch → Net
net s = net_of s.lines.now

-- how many nodes are complete
abbrev pub done : Sketch → ℕ
done s = length (listed s.nodes)

abbrev pub waiting : Sketch → List Half
waiting s = held s.halves

-- each line named has brought a node and a half, and each join one node more for one half less
abbrev pub Counted : Sketch → Type 0
Counted s = done s + length (waiting s) ≡ 2 * tally s.named

-- the lines named so far
abbrev pub named_in : List Bool → Lines
named_in xs k = slice_index_or xs k false

-- the number is that of a line, and no leaf has named it yet
abbrev pub free : Sketch → ℕ → Bool
free s k = nat_lt k (length s.lines.now) && not (slice_index_or s.named k false)

-- one node more, with its half on top of hs
pub record Grown (shape : Shape) (h : Half) (hs : List Half) (before after : Sketch) : Type 0 where
  pub lines : after.lines ≡ before.lines
  pub named : after.named ≡ before.named
  pub nodes : listed after.nodes ≡ listed before.nodes ++ record { shape = shape; left = h.left; right = h.right } ∷ []
  pub halves : waiting after ≡ hs ++ h ∷ []
  pub count : done after ≡ done before + 1
  pub room : room after.halves ≡ room before.halves

-- the half of a join, with the number of its node
abbrev pub joint : ℕ → Half → Half → Half
joint n p q = record { node = n; left = p.left; right = q.right; stations = marks (λ i. slice_index_or p.stations i false || slice_index_or q.stations i false) }

-- the two halves on top are joined where they meet
abbrev pub Joined : Join → Sketch → Sketch → Result (Unit {0}) Reason → Type 0
Joined j before after (Err r) = (r ≡ HalvesApart) × ((hs : List Half) (p q : Half) → waiting before ≡ hs ++ p ∷ q ∷ [] → Meet j p q → ⊥)
Joined j before after (Ok x) =
    (hs : List Half) (p q : Half) → waiting before ≡ hs ++ p ∷ q ∷ [] → Meet j p q × Grown (S.Join j p.node q.node) (joint (done before) p q) hs before after

-- the tree is complete, with its nodes, and its half waits
pub record Built (t : Tree) (before after : Sketch) : Type 0 where
  pub lines : after.lines ≡ before.lines
  pub named : named_in after.named ≡ with_lines t (named_in before.named)
  pub nodes : listed after.nodes ≡ listed before.nodes ++ numbered (net before) (done before) t
  pub halves : waiting after ≡ waiting before ++ half (net before) (done before) t ∷ []
  pub count : done after ≡ done before + size t
  pub room : room after.halves ≡ room before.halves
  pub counted : Counted before → Counted after

-- a leaf is added where its line is there and free
abbrev pub Leafed : ℕ → Sketch → Sketch → Result (Unit {0}) Reason → Type 0
Leafed k before after (Ok x) = (free before k ≡ true) × Built (leaf k) before after
Leafed k before after (Err r) = (r ≡ LeafNumber) × (free before k ≡ false)

-- every line is named, and the half is the piece of n stations from the first to the last
abbrev pub Complete : Sketch → ℕ → Half → Type 0
Complete s n h = AllMarked s.named (length s.lines.now) × Spans n h

-- the half on top completes the plant, or does not
abbrev pub Finished : ℕ → Sketch → Result (Unit {0}) Reason → Type 0
Finished n s (Ok x) = (hs : List Half) (h : Half) → waiting s ≡ hs ++ h ∷ [] → Complete s n h
Finished n s (Err r) = (r ≡ NotThePlant) × ((hs : List Half) (h : Half) → waiting s ≡ hs ++ h ∷ [] → Complete s n h → ⊥)

-- nothing is read yet
pub record Blank (s : Sketch) : Type 0 where
  pub unnamed : (k : ℕ) → slice_index_or s.named k false ≡ false
  pub none_done : done s ≡ 0
  pub none_waiting : waiting s ≡ []
  pub roomy : room s.halves ≡ 128
  pub counted : Counted s
