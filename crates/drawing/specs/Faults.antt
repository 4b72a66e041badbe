-- What a refusal of a tree's text says: the first fault, and that everything before it is in order. Assumes nothing.
use Rattle.std.specs.Prelude.{◌≡◌, ℕ, ◌+◌, ◌≤◌, max, true, false, ◌⊎◌, List, [], ◌∷◌, ◌++◌, length, take, drop, ◌≢◌}
use Rattle.plant.specs.declared.records.Line.{Line}
use Rattle.plant.specs.declared.refusal.Reason.{Reason}
use Rattle.plant.specs.declared.refusal.Reason.TheVariants.{TextTooLong, MemoryTooShort, TableGrammar, FieldCount, FieldForm, RowNumber, RowCount, LineEnds, TreeGrammar, TooDeep, LeafNumber, HalvesApart, NotThePlant, Blank, NoSuchRecord, OutOfRange, NothingFits, NotOpen}
use Rattle.plant.specs.declared.tree.Join.{Join}
use Rattle.plant.specs.declared.tree.Join.TheVariants.{Series, Parallel}
use Rattle.plant.specs.Trees.{Net, net_of, Tree, uses, InSeries, InParallel, Builds, Draws}
use Rattle.drawing.specs.Marks.{digit, letter_of}
use Rattle.drawing.specs.Written.{spelled, written, deep}

-- The grammar alone: the text of some tree, whatever its lines, in which at most 127 brackets stand open at once.
pub record Grammatical (t : Tree) (s : List ℕ) : Type 0 where
  pub text : s ≡ written t ++ 59 ∷ []
  pub depth : deep t ≤ 127

-- What stands before a place in the text: brackets that are open, some of them with the first half complete.
pub data Around : Type 0 where
  outside : Around
  in_first : Around → Around
  in_second : Around → Tree → Around

abbrev pub before : Around → List ℕ
before outside = []
before (in_first c) = before c ++ 40 ∷ []
before (in_second c a) = before c ++ 40 ∷ (written a ++ 44 ∷ [])

-- how many brackets stand open there, and how many did at most
abbrev pub standing : Around → ℕ
standing outside = 0
standing (in_first c) = standing c + 1
standing (in_second c a) = standing c + 1

abbrev pub most : Around → ℕ
most outside = 0
most (in_first c) = max (most c) (standing c + 1)
most (in_second c a) = max (most c) (standing c + 1 + deep a)

-- the halves that are complete there
abbrev pub halves : Around → List Tree
halves outside = []
halves (in_first c) = halves c
halves (in_second c a) = a ∷ halves c

abbrev pub AllBuilt : Net → List Tree → Type 0
AllBuilt N [] = Unit {0}
AllBuilt N (t ∷ ts) = Builds N t × AllBuilt N ts

-- how many of their leaves are the line k
abbrev pub total : List Tree → ℕ → ℕ
total [] k = 0
total (t ∷ ts) k = uses t k + total ts k

-- The trees are in order: every join meets, each leaf is one of the m lines, and no line is named twice.
pub record InOrder (N : Net) (m : ℕ) (ts : List Tree) : Type 0 where
  pub built : AllBuilt N ts
  pub among : (k : ℕ) → m ≤ k → total ts k ≡ 0
  pub once : (k : ℕ) → total ts k ≤ 1

-- the halves meet as the join asks
abbrev pub Meets : Net → Join → Tree → Tree → Type 0
Meets N Series a b = InSeries N a b
Meets N Parallel a b = InParallel N a b

abbrev pub NoDigit : List ℕ → Type 0
NoDigit [] = Unit {0}
NoDigit (b ∷ s) = digit b ≡ false

-- How far the text is in order: up to where a subtree is to begin, past a zero before another digit, past a subtree, past the bracket
-- that closes a pair, or past the semicolon.
pub data Reached (N : Net) (m : ℕ) (front rest : List ℕ) : Type 0 where
  at_subtree : (c : Around) → front ≡ before c → most c ≤ 127 → InOrder N m (halves c) → Reached N m front rest
  past_zero : (c : Around) (b : ℕ) (u : List ℕ) → front ≡ before c ++ 48 ∷ [] → rest ≡ b ∷ u → digit b ≡ true → most c ≤ 127 → InOrder N m (halves c) → Reached N m front rest
  past_subtree : (c : Around) (t : Tree) → front ≡ before c ++ written t → most c ≤ 127 → standing c + deep t ≤ 127 → InOrder N m (t ∷ halves c) → Reached N m front rest
  past_pair : (c : Around) (a b : Tree) → front ≡ before c ++ 40 ∷ (written a ++ 44 ∷ (written b ++ 41 ∷ [])) → most (in_second c a) ≤ 127 → standing c + 1 + deep b ≤ 127 → InOrder N m (b ∷ a ∷ halves c) → Reached N m front rest
  past_semicolon : (t : Tree) → front ≡ written t ++ 59 ∷ [] → deep t ≤ 127 → InOrder N m (t ∷ []) → Reached N m front rest

-- The bytes before the place begin a grammatical text. With the byte there, or the end there, they begin no tree's text, however deep.
pub record OutsideGrammar (N : Net) (m : ℕ) (front rest : List ℕ) : Type 0 where
  pub begins : (v : List ℕ) × (t : Tree) × Grammatical t (front ++ v)
  pub ended : rest ≡ [] → (t : Tree) → front ≢ written t ++ 59 ∷ []
  pub hopeless : (b : ℕ) (u v : List ℕ) (t : Tree) → rest ≡ b ∷ u → front ++ b ∷ v ≢ written t ++ 59 ∷ []
  pub reached : Reached N m front rest

-- A bracket is opened while 127 stand open.
pub record BracketTooDeep (N : Net) (m : ℕ) (front rest : List ℕ) : Type 0 where
  pub around : Around
  pub after : List ℕ
  pub front_is : front ≡ before around
  pub bracket : rest ≡ 40 ∷ after
  pub full : standing around ≡ 127
  pub shallow : most around ≤ 127
  pub order : InOrder N m (halves around)

-- A number is none of a line, or that of a line already named.
pub record NumberAtFault (N : Net) (m : ℕ) (front rest : List ℕ) : Type 0 where
  pub around : Around
  pub line : ℕ
  pub after : List ℕ
  pub front_is : front ≡ before around
  pub number : rest ≡ spelled line ++ after
  pub whole : NoDigit after
  pub fault : (m ≤ line) ⊎ (1 ≤ total (halves around) line)
  pub shallow : most around ≤ 127
  pub order : InOrder N m (halves around)

-- Two halves do not meet as their letter asks.
pub record LetterAtFault (N : Net) (m : ℕ) (front rest : List ℕ) : Type 0 where
  pub around : Around
  pub first : Tree
  pub second : Tree
  pub join : Join
  pub after : List ℕ
  pub front_is : front ≡ before around ++ 40 ∷ (written first ++ 44 ∷ (written second ++ 41 ∷ []))
  pub letter : rest ≡ letter_of join ∷ after
  pub fault : Meets N join first second → ⊥
  pub shallow_first : most (in_second around first) ≤ 127
  pub shallow_second : standing around + 1 + deep second ≤ 127
  pub order : InOrder N m (second ∷ first ∷ halves around)

-- The whole text is that of a tree in order, and the tree does not draw the plant.
pub record NotDrawn (N : Net) (n m : ℕ) (front rest : List ℕ) : Type 0 where
  pub tree : Tree
  pub text : Grammatical tree front
  pub ended : rest ≡ []
  pub order : InOrder N m (tree ∷ [])
  pub fault : Draws N n m tree → ⊥

-- what each reason says of the bytes before its place and from it on; no other reason is given
abbrev pub Fault : Net → ℕ → ℕ → List ℕ → List ℕ → Reason → Type 0
Fault N n m front rest TreeGrammar = OutsideGrammar N m front rest
Fault N n m front rest TooDeep = BracketTooDeep N m front rest
Fault N n m front rest LeafNumber = NumberAtFault N m front rest
Fault N n m front rest HalvesApart = LetterAtFault N m front rest
Fault N n m front rest NotThePlant = NotDrawn N n m front rest
Fault N n m front rest TextTooLong = ⊥
Fault N n m front rest MemoryTooShort = ⊥
Fault N n m front rest TableGrammar = ⊥
Fault N n m front rest FieldCount = ⊥
Fault N n m front rest FieldForm = ⊥
Fault N n m front rest RowNumber = ⊥
Fault N n m front rest RowCount = ⊥
Fault N n m front rest LineEnds = ⊥
Fault N n m front rest Blank = ⊥
Fault N n m front rest NoSuchRecord = ⊥
Fault N n m front rest OutOfRange = ⊥
Fault N n m front rest NothingFits = ⊥
Fault N n m front rest NotOpen = ⊥

-- the fault of a text for a plant of n stations and these lines, at a place in it
pub record FirstFault (n : ℕ) (ls : List Line) (s : List ℕ) (place : ℕ) (r : Reason) : Type 0 where
  pub within : place ≤ length s
  pub fault : Fault (net_of ls) n (length ls) (take place s) (drop place s) r
