-- What is written is read. Assumes nothing.
use Rattle.std.proofs.Common.{◌≡◌, ℕ, zero, suc, ◌+◌, ◌≤◌, max, Bool, true, false, cond, not, ◌&&◌, ltb, List, [], ◌∷◌, ◌++◌, sym, refl, ap, ◌∙◌, subst, ⊎_elim, append_assoc, arith}
use Rattle.std.proofs.lemmas.Bool.{ne_eqb, and_from, lt-ltb, le-ltb, or_from, cases_lt, not_from_false}
use Rattle.plant.specs.declared.refusal.Reason.{Reason}
use Rattle.plant.specs.declared.refusal.Reason.TheVariants.{TreeGrammar, TooDeep, LeafNumber, HalvesApart, NotThePlant}
use Rattle.plant.specs.declared.tree.Join.{Join}
use Rattle.plant.specs.declared.tree.Join.TheVariants.{Series, Parallel}
use Rattle.plant.specs.Trees.{Net, Tree, leaf, series, parallel, uses, Builds, Draws}
use Rattle.plant.specs.Nodes.{joined}
use Rattle.drawing.specs.Marks.{letter_of}
use Rattle.drawing.specs.Grammar.{Out, good, bad, then, letter, stop, Lines, with_lines, meet, leaf_line, subtree, complete, none_named, ending, whole}
use Rattle.drawing.specs.Written.{spelled, written, deep}
use Rattle.drawing.specs.Faults.{NoDigit}
use Rattle.drawing.proofs.Spelling.{too_deep, leaf_number, halves_apart, not_plant, number_reads, begins}
use Rattle.drawing.proofs.Building.{Fits, uses_self, uses_joined, meets_series, meets_parallel, draws_complete}

letter_reads : (j : Join) (s : List ℕ) → letter (letter_of j ∷ s) ≡ good j s
letter_reads Series s = refl
letter_reads Parallel s = refl

-- the text of a join, in the parts in which it is read
pub joined_text : (j : Join) (a b : Tree) (u : List ℕ) → written (joined j a b) ++ u ≡ 40 ∷ (written a ++ 44 ∷ (written b ++ 41 ∷ letter_of j ∷ u))
unfolding written
joined_text Series a b u = simp append_assoc
joined_text Parallel a b u = simp append_assoc

pub leaf_text : (k : ℕ) → written (leaf k) ≡ spelled k
unfolding written
leaf_text k = refl

-- a text that begins with a digit is that of a leaf
leaf_first : (d : ℕ) (N : Net) (m : ℕ) (named : Lines) (b : ℕ) (s : List ℕ) → 48 ≤ b → subtree d N m named (b ∷ s) ≡ leaf_line m named (b ∷ s)
leaf_first d N m named b s low = let n : b ≡ 40 → ⊥ = omega arith in rw (ne_eqb b 40 n) refl

pub subtree_leaf : (d : ℕ) (N : Net) (m k : ℕ) (named : Lines) (u : List ℕ) → NoDigit u → subtree d N m named (spelled k ++ u) ≡ cond (ltb k m && not (named k)) (good (leaf k) u) (bad LeafNumber (spelled k ++ u))
subtree_leaf d N m k named u h =
    let w = begins k in
    let head_is : subtree d N m named (spelled k ++ u) ≡ leaf_line m named (spelled k ++ u) =
    ap (λ l. subtree d N m named (l ++ u)) w.is ∙ leaf_first d N m named w.first (w.others ++ u) w.low ∙ ap (λ l. leaf_line m named (l ++ u)) (sym w.is) in
    head_is ∙ ap (λ o. then o (λ x v. cond (ltb x m && not (named x)) (good (leaf x) v) (bad LeafNumber (spelled k ++ u)))) (number_reads k u h)

-- both halves of a join are read, and then its letter is judged
pub subtree_joined : (d : ℕ) (N : Net) (m : ℕ) (named : Lines) (j : Join) (a b : Tree) (u : List ℕ) → subtree d N m named (written a ++ 44 ∷ (written b ++ 41 ∷ letter_of j ∷ u)) ≡ good a (44 ∷ (written b ++ 41 ∷ letter_of j ∷ u)) → subtree d N m (with_lines a named) (written b ++ 41 ∷ letter_of j ∷ u) ≡ good b (41 ∷ letter_of j ∷ u) → subtree (suc d) N m named (written (joined j a b) ++ u) ≡ cond (meet N j a b) (good (joined j a b) u) (bad HalvesApart (letter_of j ∷ u))
subtree_joined d N m named j a b u one two =
    ap (subtree (suc d) N m named) (joined_text j a b u) ∙ rw (one, two, letter_reads j u) refl

-- ---- a tree in order is read

pub meets_joined : (N : Net) (j : Join) (a b : Tree) → Builds N (joined j a b) → meet N j a b ≡ true
meets_joined N Series a b w = meets_series N a b w.2
meets_joined N Parallel a b w = meets_parallel N a b w.2

builds_first : (N : Net) (j : Join) (a b : Tree) → Builds N (joined j a b) → Builds N a
builds_first N Series a b w = w.0
builds_first N Parallel a b w = w.0

builds_second : (N : Net) (j : Join) (a b : Tree) → Builds N (joined j a b) → Builds N b
builds_second N Series a b w = w.1
builds_second N Parallel a b w = w.1

fits_first : (N : Net) (m : ℕ) (named : Lines) (j : Join) (a b : Tree) → Fits N m named (joined j a b) → Fits N m named a
fits_first N m named j a b w = record {
  builds = builds_first N j a b w.builds;
  once = λ k. omega (arith, w.once k, uses_joined j a b k);
  among = λ k h. w.among k (omega (arith, uses_joined j a b k));
  fresh = λ k h. w.fresh k (omega (arith, uses_joined j a b k));
}

fits_second : (N : Net) (m : ℕ) (named : Lines) (j : Join) (a b : Tree) → Fits N m named (joined j a b) → Fits N m (with_lines a named) b
fits_second N m named j a b w = record {
  builds = builds_second N j a b w.builds;
  once = λ k. omega (arith, w.once k, uses_joined j a b k);
  among = λ k h. w.among k (omega (arith, uses_joined j a b k));
  fresh = λ k h. or_from _ _ (le-ltb 0 (uses a k) (omega (arith, w.once k, uses_joined j a b k))) (w.fresh k (omega (arith, uses_joined j a b k)));
}

pub join_reads : (d : ℕ) (N : Net) (m : ℕ) (named : Lines) (j : Join) (a b : Tree) (u : List ℕ) → ((d : ℕ) (named : Lines) (u : List ℕ) → Fits N m named a → deep a ≤ d → NoDigit u → subtree d N m named (written a ++ u) ≡ good a u) → ((d : ℕ) (named : Lines) (u : List ℕ) → Fits N m named b → deep b ≤ d → NoDigit u → subtree d N m named (written b ++ u) ≡ good b u) → Fits N m named (joined j a b) → max (deep a) (deep b) + 1 ≤ d → subtree d N m named (written (joined j a b) ++ u) ≡ good (joined j a b) u
join_reads zero N m named j a b u first second w h = absurd (omega arith)
join_reads (suc d) N m named j a b u first second w h =
    subtree_joined d N m named j a b u
    (first d named (44 ∷ (written b ++ 41 ∷ letter_of j ∷ u)) (fits_first N m named j a b w) (omega arith) refl)
    (second d (with_lines a named) (41 ∷ letter_of j ∷ u) (fits_second N m named j a b w) (omega arith) refl)
    ∙ ap (λ x. cond x (good (joined j a b) u) (bad HalvesApart (letter_of j ∷ u))) (meets_joined N j a b w.builds)

pub reads : (N : Net) (m : ℕ) (t : Tree) (d : ℕ) (named : Lines) (u : List ℕ) → Fits N m named t → deep t ≤ d → NoDigit u → subtree d N m named (written t ++ u) ≡ good t u
reads N m (leaf k) d named u w h stop =
    let used : 1 ≤ uses (leaf k) k = omega (arith, uses_self k) in
    let free = and_from _ _ (lt-ltb k m (w.among k used)) (not_from_false (named k) (w.fresh k used)) in
    ap (λ l. subtree d N m named (l ++ u)) (leaf_text k) ∙ subtree_leaf d N m k named u stop ∙ ap (λ x. cond x (good (leaf k) u) (bad LeafNumber (spelled k ++ u))) free
reads N m (series a b) d named u w h stop = join_reads d N m named Series a b u (reads N m a) (reads N m b) w h
reads N m (parallel a b) d named u w h stop = join_reads d N m named Parallel a b u (reads N m a) (reads N m b) w h

-- a tree that draws the plant is in order
pub draws_fits : (N : Net) (n m : ℕ) (t : Tree) → Draws N n m t → Fits N m none_named t
draws_fits N n m t w = record {
  builds = w.builds;
  once = λ k. ⊎_elim (λ lt. omega (arith, w.once k lt)) (λ ge. omega (arith, w.never k ge)) (cases_lt k m);
  among = λ k h. ⊎_elim (λ lt. lt) (λ ge. absurd (omega (arith, w.never k ge))) (cases_lt k m);
  fresh = λ k h. refl;
}

-- the end of a whole text
pub ending_reads : (N : Net) (n m : ℕ) (t : Tree) → ending N n m t (59 ∷ []) ≡ cond (complete N n m t) (good t []) (bad NotThePlant [])
ending_reads N n m t = refl

pub whole_reads : (d : ℕ) (N : Net) (n m : ℕ) (s : List ℕ) (t : Tree) → s ≡ written t ++ 59 ∷ [] → deep t ≤ d → Draws N n m t → whole d N n m s ≡ good t []
whole_reads d N n m s t e h w =
    ap (whole d N n m) e ∙ ap (λ o. then o (ending N n m)) (reads N m t d none_named (59 ∷ []) (draws_fits N n m t w) h refl)
    ∙ ending_reads N n m t ∙ ap (λ x. cond x (good t []) (bad NotThePlant [])) (draws_complete N n m t w)

-- ---- a grammatical text is never refused by the grammar

-- what is read from a tree's text: the tree, or a refusal that is not the grammar's
pub data Sorted (t : Tree) (u : List ℕ) (o : Out Tree) : Type 0 where
  tree : o ≡ good t u → Sorted t u o
  other : (r : Reason) (q : List ℕ) → o ≡ bad r q → (r ≡ TreeGrammar → ⊥) → Sorted t u o

sorted_if : (b : Bool) (t : Tree) (u q : List ℕ) (r : Reason) (o : Out Tree) → o ≡ cond b (good t u) (bad r q) → (r ≡ TreeGrammar → ⊥) → Sorted t u o
sorted_if true t u q r o e n = tree e
sorted_if false t u q r o e n = other r q e n

-- where the first half is refused, or the second
first_other : (d : ℕ) (N : Net) (m : ℕ) (named : Lines) (j : Join) (a b : Tree) (u q : List ℕ) (r : Reason) → subtree d N m named (written a ++ 44 ∷ (written b ++ 41 ∷ letter_of j ∷ u)) ≡ bad r q → subtree (suc d) N m named (written (joined j a b) ++ u) ≡ bad r q
first_other d N m named j a b u q r one = ap (subtree (suc d) N m named) (joined_text j a b u) ∙ rw one refl

second_other : (d : ℕ) (N : Net) (m : ℕ) (named : Lines) (j : Join) (a b : Tree) (u q : List ℕ) (r : Reason) → subtree d N m named (written a ++ 44 ∷ (written b ++ 41 ∷ letter_of j ∷ u)) ≡ good a (44 ∷ (written b ++ 41 ∷ letter_of j ∷ u)) → subtree d N m (with_lines a named) (written b ++ 41 ∷ letter_of j ∷ u) ≡ bad r q → subtree (suc d) N m named (written (joined j a b) ++ u) ≡ bad r q
second_other d N m named j a b u q r one two = ap (subtree (suc d) N m named) (joined_text j a b u) ∙ rw (one, two) refl

too_many : (N : Net) (m : ℕ) (named : Lines) (j : Join) (a b : Tree) (u : List ℕ) → Sorted (joined j a b) u (subtree zero N m named (written (joined j a b) ++ u))
too_many N m named j a b u = other TooDeep _ (ap (subtree zero N m named) (joined_text j a b u)) too_deep

join_sorted : (d : ℕ) (N : Net) (m : ℕ) (named : Lines) (j : Join) (a b : Tree) (u : List ℕ) → ((d : ℕ) (named : Lines) (u : List ℕ) → NoDigit u → Sorted a u (subtree d N m named (written a ++ u))) → ((d : ℕ) (named : Lines) (u : List ℕ) → NoDigit u → Sorted b u (subtree d N m named (written b ++ u))) → Sorted (joined j a b) u (subtree d N m named (written (joined j a b) ++ u))
join_sorted zero N m named j a b u first second = too_many N m named j a b u
join_sorted (suc d) N m named j a b u first second =
    elim (first d named (44 ∷ (written b ++ 41 ∷ letter_of j ∷ u)) refl) [
      | other r q e n ↦ other r q (first_other d N m named j a b u q r e) n
      | tree one ↦
          elim (second d (with_lines a named) (41 ∷ letter_of j ∷ u) refl) [
            | other r q e n ↦ other r q (second_other d N m named j a b u q r one e) n
            | tree two ↦ sorted_if (meet N j a b) _ u _ HalvesApart _ (subtree_joined d N m named j a b u one two) halves_apart
          ]
    ]

pub sorted : (N : Net) (m : ℕ) (t : Tree) (d : ℕ) (named : Lines) (u : List ℕ) → NoDigit u → Sorted t u (subtree d N m named (written t ++ u))
sorted N m (leaf k) d named u stop = sorted_if (ltb k m && not (named k)) (leaf k) u _ LeafNumber _ (ap (λ l. subtree d N m named (l ++ u)) (leaf_text k) ∙ subtree_leaf d N m k named u stop) leaf_number
sorted N m (series a b) d named u stop = join_sorted d N m named Series a b u (sorted N m a) (sorted N m b)
sorted N m (parallel a b) d named u stop = join_sorted d N m named Parallel a b u (sorted N m a) (sorted N m b)

pub whole_sorted : (d : ℕ) (N : Net) (n m : ℕ) (s : List ℕ) (t : Tree) → s ≡ written t ++ 59 ∷ [] → Sorted t [] (whole d N n m s)
whole_sorted d N n m s t e =
    let P : List ℕ → Type 0 = λ x. Sorted t [] (whole d N n m x) in
    subst P (sym e) (
    elim (sorted N m t d none_named (59 ∷ []) refl) [
      | other r q f x ↦ other r q (ap (λ o. then o (ending N n m)) f) x
      | tree f ↦ sorted_if (complete N n m t) t [] [] NotThePlant _ (ap (λ o. then o (ending N n m)) f ∙ ending_reads N n m t) not_plant
    ])
