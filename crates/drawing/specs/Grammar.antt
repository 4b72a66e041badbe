-- What a tree's text says, read from its first byte on. Assumes nothing.
use Rattle.std.specs.Prelude.{ℕ, zero, suc, ◌+◌, ◌-◌, ◌*◌, Bool, true, false, cond, not, ◌&&◌, ◌||◌, ltb, List, [], ◌∷◌, ◌==◌, nat_lt}
use Rattle.plant.specs.declared.tree.Join.{Join}
use Rattle.plant.specs.declared.tree.Join.TheVariants.{Series, Parallel}
use Rattle.plant.specs.declared.refusal.Reason.{Reason}
use Rattle.plant.specs.declared.refusal.Reason.TheVariants.{TreeGrammar, TooDeep, LeafNumber, HalvesApart, NotThePlant}
use Rattle.plant.specs.Trees.{Net, Tree, leaf, left, right, station_of, uses}
use Rattle.plant.specs.Nodes.{joined}
use Rattle.plant.specs.Records.{max_stations}
use Rattle.drawing.specs.declared.mark.Mark.{Mark}
use Rattle.drawing.specs.declared.mark.Mark.TheVariants.{Comma, Close, Semicolon}
use Rattle.drawing.specs.Marks.{sign, digit}

-- what a reading gives: a value and what is left, or a reason to refuse and what is left from the place of the fault on
pub data Out (A : Type 0) : Type 0 where
  good : A → List ℕ → Out A
  bad : Reason → List ℕ → Out A

abbrev pub then : {A B : Type 0} → Out A → (A → List ℕ → Out B) → Out B
then (good x s) f = f x s
then (bad r s) f = bad r s

-- one character
abbrev pub lit : Mark → List ℕ → Out (Unit {0})
lit m [] = bad TreeGrammar []
lit m (b ∷ s) = cond (b == sign m) (good tt s) (bad TreeGrammar (b ∷ s))

abbrev pub letter : List ℕ → Out Join
letter [] = bad TreeGrammar []
letter (b ∷ s) = cond (b == 115) (good Series s) (cond (b == 112) (good Parallel s) (bad TreeGrammar (b ∷ s)))

abbrev pub stop : List ℕ → Out (Unit {0})
stop [] = good tt []
stop (b ∷ s) = bad TreeGrammar (b ∷ s)

-- the digits after the number so far
abbrev pub digits : ℕ → List ℕ → Out ℕ
digits n [] = good n []
digits n (b ∷ s) = cond (digit b) (digits (n * 10 + (b - 48)) s) (good n (b ∷ s))

-- no digit follows a zero that begins a number
abbrev pub after_zero : List ℕ → Out ℕ
after_zero [] = good 0 []
after_zero (b ∷ s) = cond (digit b) (bad TreeGrammar (b ∷ s)) (good 0 (b ∷ s))

abbrev pub after_first : ℕ → List ℕ → Out ℕ
after_first d s = cond (d == 0) (after_zero s) (digits d s)

abbrev pub number : List ℕ → Out ℕ
number [] = bad TreeGrammar []
number (b ∷ s) = cond (digit b) (after_first (b - 48) s) (bad TreeGrammar (b ∷ s))

-- which lines the leaves so far have named
abbrev pub Lines : Type 0
Lines = ℕ → Bool

-- the lines named before, and those of a tree
abbrev pub with_lines : Tree → Lines → Lines
with_lines t named k = nat_lt 0 (uses t k) || named k

-- the test holds of each number below n
unfoldable pub below : ℕ → (ℕ → Bool) → Bool
below zero f = true
below (suc n) f = f n && below n f

-- two trees share no station but x and y
abbrev pub share_only : Net → Tree → Tree → ℕ → ℕ → Bool
share_only N a b x y = below max_stations (λ i. not (station_of N a i && station_of N b i) || (i == x || i == y))

-- two trees meet as the join asks
abbrev pub meet : Net → Join → Tree → Tree → Bool
meet N Series a b = right N a == left N b && share_only N a b (right N a) (right N a)
meet N Parallel a b = left N a == left N b && (right N a == right N b && share_only N a b (left N a) (right N a))

-- a leaf is a line that no leaf before it has named; m is the number of lines
abbrev pub leaf_line : ℕ → Lines → List ℕ → Out Tree
leaf_line m named s = then (number s) (λ k u. cond (nat_lt k m && not (named k)) (good (leaf k) u) (bad LeafNumber s))

-- the letter after two halves
abbrev pub join_letter : Net → Tree → Tree → List ℕ → Out Tree
join_letter N a b s = then (letter s) (λ j u. cond (meet N j a b) (good (joined j a b) u) (bad HalvesApart s))

-- what follows an opening bracket, where f reads a subtree
abbrev pub after_open : Net → (Lines → List ℕ → Out Tree) → Lines → List ℕ → Out Tree
after_open N f named s =
    then (f named s) (λ a s. then (lit Comma s) (λ _ s. then (f (with_lines a named) s) (λ b s. then (lit Close s) (λ _ s. join_letter N a b s))))

-- a leaf, or an opening bracket and what f reads after it
abbrev pub head : ℕ → (Lines → List ℕ → Out Tree) → Lines → List ℕ → Out Tree
head m f named [] = bad TreeGrammar []
head m f named (b ∷ s) = cond (b == 40) (f named s) (leaf_line m named (b ∷ s))

-- what follows an opening bracket, where d brackets may stand open from it on
abbrev pub opened : ℕ → Net → ℕ → Lines → List ℕ → Out Tree
opened zero N m named s = bad TooDeep (40 ∷ s)
opened (suc d) N m named s = after_open N (head m (opened d N m)) named s

-- a subtree in which at most d brackets stand open at once
abbrev pub subtree : ℕ → Net → ℕ → Lines → List ℕ → Out Tree
subtree d N m named s = head m (opened d N m) named s

abbrev pub pair : ℕ → Net → ℕ → Lines → List ℕ → Out Tree
pair d N m named s = after_open N (subtree d N m) named s

-- every line and station is there, and the whole runs from the first station to the last
abbrev pub complete : Net → ℕ → ℕ → Tree → Bool
complete N n m t = below m (λ k. ltb 0 (uses t k)) && (below n (station_of N t) && (left N t == 0 && right N t + 1 == n))

abbrev pub none_named : Lines
none_named k = false

-- what follows the tree: a semicolon and the end; and then it has to be the plant of n stations and m lines
abbrev pub ending : Net → ℕ → ℕ → Tree → List ℕ → Out Tree
ending N n m t s = then (lit Semicolon s) (λ _ s. then (stop s) (λ _ s. cond (complete N n m t) (good t s) (bad NotThePlant s)))

-- a whole text
abbrev pub whole : ℕ → Net → ℕ → ℕ → List ℕ → Out Tree
whole d N n m s = then (subtree d N m none_named s) (ending N n m)
