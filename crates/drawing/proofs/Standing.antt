-- A first fault is where the grammar refuses: the way back from a fault to the verdict. Assumes nothing.
use Rattle.std.proofs.Common.{◌≡◌, ℕ, suc, ◌+◌, ◌-◌, ◌*◌, ◌<◌, ◌≤◌, max, true, false, cond, not, ◌&&◌, ltb, ◌⊎◌, List, [], ◌∷◌, ◌++◌, sym, refl, ap, ◌∙◌, subst, ⊎_elim, append_assoc, append-nil, arith}
use Rattle.std.proofs.lemmas.Bool.{ne_eqb, and_left, and_right, lt-ltb, le-ltb, cases_lt, cases_eq, not_from_true}
use Rattle.plant.specs.declared.refusal.Reason.{Reason}
use Rattle.plant.specs.declared.refusal.Reason.TheVariants.{TreeGrammar, TooDeep, LeafNumber, HalvesApart, NotThePlant}
use Rattle.plant.specs.declared.tree.Join.{Join}
use Rattle.plant.specs.declared.tree.Join.TheVariants.{Series, Parallel}
use Rattle.plant.specs.Trees.{Net, Tree, leaf, series, parallel}
use Rattle.plant.specs.Nodes.{joined}
use Rattle.drawing.specs.declared.mark.Mark.{Mark}
use Rattle.drawing.specs.declared.mark.Mark.TheVariants.{Comma, Close, Semicolon}
use Rattle.drawing.specs.Marks.{sign, digit, letter_of}
use Rattle.drawing.specs.Grammar.{good, bad, then, lit, letter, stop, Lines, with_lines, meet, join_letter, subtree, complete, none_named, ending, whole}
use Rattle.drawing.specs.Written.{spelled, written, deep}
use Rattle.drawing.specs.Faults.{Around, outside, in_first, in_second, before, standing, most, halves, total, InOrder, Meets, NoDigit, at_subtree, past_zero, past_subtree, past_pair, past_semicolon, OutsideGrammar, BracketTooDeep, NumberAtFault, LetterAtFault, NotDrawn}
use Rattle.drawing.proofs.Bytes.{by_bool}
use Rattle.drawing.proofs.Spelling.{is_digit, one_digit, spelled_more}
use Rattle.drawing.proofs.Building.{Ends, Among, Fits, series_meets, parallel_meets, fits_draws}
use Rattle.drawing.proofs.Writing.{joined_text, leaf_text, subtree_leaf, join_reads, reads, ending_reads}
use Rattle.drawing.proofs.Finding.{closing, fill, fill_text, more_lines}

-- the lines named before a place
abbrev named_by : List Tree → Lines
named_by ts k = ltb 0 (total ts k)

tail_order : (N : Net) (m : ℕ) (a : Tree) (ts : List Tree) → InOrder N m (a ∷ ts) → InOrder N m ts
tail_order N m a ts o = record { built = o.built.1; among = λ k ge. omega (arith, o.among k ge); once = λ k. omega (arith, o.once k) }

head_fits : (N : Net) (m : ℕ) (a : Tree) (ts : List Tree) → InOrder N m (a ∷ ts) → Fits N m (named_by ts) a
head_fits N m a ts o = record {
  builds = o.built.0;
  once = λ k. omega (arith, o.once k);
  among = λ k h. ⊎_elim (λ lt. lt) (λ ge. absurd (omega (arith, o.among k ge))) (cases_lt k m);
  fresh = λ k h. le-ltb 0 (total ts k) (omega (arith, o.once k));
}

named_more : (a : Tree) (ts : List Tree) → with_lines a (named_by ts) ≡ named_by (a ∷ ts)
named_more a ts = λ i k. more_lines a ts (named_by ts) (λ k. refl) k i

standing_most : (c : Around) → standing c ≤ most c
standing_most outside = omega arith
standing_most (in_first c) = omega arith
standing_most (in_second c a) = omega arith

-- ---- a subtree inside brackets

module _ (N : Net) (n m : ℕ) where
  -- the first half is read, and what follows it decides
  second_step : (d : ℕ) (c : Around) (a : Tree) (s q : List ℕ) (r : Reason) → deep a ≤ d → InOrder N m (a ∷ halves c) → subtree d N m (named_by (a ∷ halves c)) s ≡ bad r q → subtree (suc d) N m (named_by (halves c)) (40 ∷ (written a ++ 44 ∷ s)) ≡ bad r q
  second_step d c a s q r h o e =
      let one = reads N m a d (named_by (halves c)) (44 ∷ s) (head_fits N m a (halves c) o) h refl in
      let two : subtree d N m (with_lines a (named_by (halves c))) s ≡ bad r q = ap (λ l. subtree d N m l s) (named_more a (halves c)) ∙ e in
      rw (one, two) refl

  -- what is refused at a place is refused in the whole text
  forward : (c : Around) (d : ℕ) (s q : List ℕ) (r : Reason) → standing c + d ≡ 127 → most c ≤ 127 → InOrder N m (halves c) → subtree d N m (named_by (halves c)) s ≡ bad r q → whole 127 N n m (before c ++ s) ≡ bad r q
  forward outside d s q r e shallow o h =
      let at : d ≡ 127 = omega arith in
      ap (λ x. then x (ending N n m)) (ap (λ k. subtree k N m none_named s) (sym at) ∙ h)
  forward (in_first c) d s q r e shallow o h =
      ap (whole 127 N n m) (append_assoc (before c) (40 ∷ []) s) ∙ forward c (suc d) (40 ∷ s) q r (omega arith) (omega arith) o (rw h refl)
  forward (in_second c a) d s q r e shallow o h =
      ap (whole 127 N n m) (inside (before c) (written a) s) ∙ forward c (suc d) (40 ∷ (written a ++ 44 ∷ s)) q r (omega arith) (omega arith) (tail_order N m a (halves c) o) (second_step d c a s q r (omega arith) o h)
    where
      inside : (p w s : List ℕ) → (p ++ 40 ∷ (w ++ 44 ∷ [])) ++ s ≡ p ++ 40 ∷ (w ++ 44 ∷ s)
      inside p w s = simp append_assoc

  -- the same, with the brackets still allowed
  at_place : (c : Around) (s q : List ℕ) (r : Reason) → most c ≤ 127 → InOrder N m (halves c) → ((d : ℕ) → standing c + d ≡ 127 → subtree d N m (named_by (halves c)) s ≡ bad r q) → whole 127 N n m (before c ++ s) ≡ bad r q
  at_place c s q r shallow o h =
      let d = 127 - standing c in
      let e : standing c + d ≡ 127 = omega (arith, standing_most c) in
      forward c d s q r e shallow o (h d e)

  -- ---- brackets, numbers, letters, the plant

  pub bracket_stands : (front rest : List ℕ) → BracketTooDeep N m front rest → whole 127 N n m (front ++ rest) ≡ bad TooDeep rest
  bracket_stands front rest w =
      let c = w.around in
      let at = at_place c (40 ∷ w.after) (40 ∷ w.after) TooDeep w.shallow w.order (λ d e. let z : d ≡ 0 = omega (arith, w.full) in ap (λ k. subtree k N m (named_by (halves c)) (40 ∷ w.after)) z) in
      (λ i. whole 127 N n m (w.front_is i ++ w.bracket i)) ∙ at ∙ ap (bad TooDeep) (sym w.bracket)

  number_test : (ts : List Tree) (k : ℕ) → (m ≤ k) ⊎ (1 ≤ total ts k) → (ltb k m && not (named_by ts k)) ≡ false
  number_test ts k f =
      ⊎_elim
      (λ ge. and_left _ _ (le-ltb k m ge))
      (λ p. and_right (ltb k m) _ (not_from_true (named_by ts k) (lt-ltb 0 (total ts k) p)))
      f

  pub number_stands : (front rest : List ℕ) → NumberAtFault N m front rest → whole 127 N n m (front ++ rest) ≡ bad LeafNumber rest
  number_stands front rest w =
      let c = w.around in
      let s = spelled w.line ++ w.after in
      let at = at_place c s s LeafNumber w.shallow w.order (λ d e. subtree_leaf d N m w.line (named_by (halves c)) w.after w.whole ∙ ap (λ b. cond b (good (leaf w.line) w.after) (bad LeafNumber s)) (number_test (halves c) w.line w.fault)) in
      (λ i. whole 127 N n m (w.front_is i ++ w.number i)) ∙ at ∙ ap (bad LeafNumber) (sym w.number)

  -- both halves of a pair are read
  pair_reads : (d : ℕ) (c : Around) (a b : Tree) (s : List ℕ) → deep a ≤ d → deep b ≤ d → InOrder N m (b ∷ a ∷ halves c) → subtree (suc d) N m (named_by (halves c)) (40 ∷ (written a ++ 44 ∷ (written b ++ 41 ∷ s))) ≡ join_letter N a b s
  pair_reads d c a b s h g o =
      let one = reads N m a d (named_by (halves c)) (44 ∷ (written b ++ 41 ∷ s)) (head_fits N m a (halves c) (tail_order N m b (a ∷ halves c) o)) h refl in
      let two : subtree d N m (with_lines a (named_by (halves c))) (written b ++ 41 ∷ s) ≡ good b (41 ∷ s) =
      ap (λ l. subtree d N m l (written b ++ 41 ∷ s)) (named_more a (halves c)) ∙ reads N m b d (named_by (a ∷ halves c)) (41 ∷ s) (head_fits N m b (a ∷ halves c) o) g refl in
      rw (one, two) refl

  -- what is refused after a pair
  pair_place : (c : Around) (a b : Tree) (s q : List ℕ) (r : Reason) → most (in_second c a) ≤ 127 → standing c + 1 + deep b ≤ 127 → InOrder N m (b ∷ a ∷ halves c) → join_letter N a b s ≡ bad r q → whole 127 N n m ((before c ++ 40 ∷ (written a ++ 44 ∷ (written b ++ 41 ∷ []))) ++ s) ≡ bad r q
  pair_place c a b s q r first second o e =
      let d = 126 - standing c in
      let room : standing c + suc d ≡ 127 = omega arith in
      ap (whole 127 N n m) (pair_text (before c) (written a) (written b) s)
      ∙ forward c (suc d) (40 ∷ (written a ++ 44 ∷ (written b ++ 41 ∷ s))) q r room (omega arith) (tail_order N m a (halves c) (tail_order N m b (a ∷ halves c) o)) (pair_reads d c a b s (omega arith) (omega arith) o ∙ e)
    where
      pair_text : (p x y s : List ℕ) → (p ++ 40 ∷ (x ++ 44 ∷ (y ++ 41 ∷ []))) ++ s ≡ p ++ 40 ∷ (x ++ 44 ∷ (y ++ 41 ∷ s))
      pair_text p x y s = simp append_assoc

  letter_reads : (j : Join) (s : List ℕ) → letter (letter_of j ∷ s) ≡ good j s
  letter_reads Series s = refl
  letter_reads Parallel s = refl

  tree_reads : (t : Tree) (u : List ℕ) → deep t ≤ 127 → InOrder N m (t ∷ []) → NoDigit u → subtree 127 N m none_named (written t ++ u) ≡ good t u
  tree_reads t u h o stop = reads N m t 127 (named_by []) u (head_fits N m t [] o) h stop

  module _ (ends : Ends N n m) (few : n ≤ 64) where
    meets_from : (j : Join) (a b : Tree) → Among m a → meet N j a b ≡ true → Meets N j a b
    meets_from Series a b f e = series_meets N n m ends a b few f e
    meets_from Parallel a b f e = parallel_meets N n m ends a b few f e

    pub letter_stands : (front rest : List ℕ) → LetterAtFault N m front rest → whole 127 N n m (front ++ rest) ≡ bad HalvesApart rest
    letter_stands front rest w =
        let c = w.around in
        let a = w.first in
        let b = w.second in
        let j = w.join in
        let s = letter_of j ∷ w.after in
        let fits = head_fits N m a (halves c) (tail_order N m b (a ∷ halves c) w.order) in
        let apart : meet N j a b ≡ false = by_bool (meet N j a b) (λ e. absurd (w.fault (meets_from j a b fits.among e))) (λ e. e) in
        let judged : join_letter N a b s ≡ bad HalvesApart s = ap (λ o. then o (λ j u. cond (meet N j a b) (good (joined j a b) u) (bad HalvesApart s))) (letter_reads j w.after) ∙ ap (λ x. cond x (good (joined j a b) w.after) (bad HalvesApart s)) apart in
        (λ i. whole 127 N n m (w.front_is i ++ w.letter i)) ∙ pair_place c a b s s HalvesApart w.shallow_first w.shallow_second w.order judged ∙ ap (bad HalvesApart) (sym w.letter)

    pub plant_stands : (front rest : List ℕ) → NotDrawn N n m front rest → whole 127 N n m (front ++ rest) ≡ bad NotThePlant rest
    plant_stands front rest w =
        let t = w.tree in
        let fits = head_fits N m t [] w.order in
        let not_complete : complete N n m t ≡ false = by_bool (complete N n m t) (λ e. absurd (w.fault (fits_draws N n m (named_by []) t ends fits e))) (λ e. e) in
        (λ i. whole 127 N n m (w.text.text i ++ w.ended i)) ∙ ap (whole 127 N n m) (append-nil (written t ++ 59 ∷ []))
        ∙ ap (λ o. then o (ending N n m)) (tree_reads t (59 ∷ []) w.text.depth w.order refl) ∙ ending_reads N n m t
        ∙ ap (λ x. cond x (good t []) (bad NotThePlant [])) not_complete ∙ ap (bad NotThePlant) (sym w.ended)

  -- ---- bytes outside the grammar

  -- no tree's text goes on with what comes next
  abbrev Hopeless : List ℕ → List ℕ → Type 0
  Hopeless front rest = (b : ℕ) (u v : List ℕ) (t : Tree) → rest ≡ b ∷ u → front ++ b ∷ v ≡ written t ++ 59 ∷ [] → ⊥

  not_open : (c : Around) (b : ℕ) (u : List ℕ) → Hopeless (before c) (b ∷ u) → b ≡ 40 → ⊥
  unfolding closing fill written
  not_open c b u h is =
      h b u (48 ∷ closing (in_first c)) (fill (in_first c) (leaf 0)) refl
      (ap (λ x. before c ++ x ∷ 48 ∷ closing (in_first c)) is ∙ sym (append_assoc (before c) (40 ∷ []) (48 ∷ closing (in_first c))) ∙ fill_text (in_first c) (leaf 0))

  not_digit : (c : Around) (b : ℕ) (u : List ℕ) → Hopeless (before c) (b ∷ u) → digit b ≡ true → ⊥
  not_digit c b u h d =
      let w = is_digit b d in
      h b u (closing c) (fill c (leaf (b - 48))) refl
      (ap (λ l. before c ++ (l ++ closing c)) (sym (leaf_text (b - 48) ∙ one_digit b w.low w.high)) ∙ fill_text c (leaf (b - 48)))

  start_bad : (c : Around) (d : ℕ) (rest : List ℕ) → Hopeless (before c) rest → subtree d N m (named_by (halves c)) rest ≡ bad TreeGrammar rest
  start_bad c d [] h = refl
  start_bad c d (b ∷ u) h =
      let no_open = ne_eqb b 40 (not_open c b u h) in
      by_bool (digit b)
      (λ e. absurd (not_digit c b u h e))
      (λ e. rw (no_open, e) refl)

  zero_bad : (d : ℕ) (named : Lines) (b : ℕ) (u : List ℕ) → digit b ≡ true → subtree d N m named (48 ∷ b ∷ u) ≡ bad TreeGrammar (b ∷ u)
  zero_bad d named b u e = rw e refl

  -- the character that has to follow a subtree
  abbrev next_mark : Around → Mark
  next_mark outside = Semicolon
  next_mark (in_first c) = Comma
  next_mark (in_second c a) = Close

  closing_tail : Around → List ℕ
  closing_tail outside = []
  closing_tail (in_first c) = 48 ∷ 41 ∷ 115 ∷ closing c
  closing_tail (in_second c a) = 115 ∷ closing c

  closing_is : (c : Around) → closing c ≡ sign (next_mark c) ∷ closing_tail c
  unfolding closing closing_tail
  closing_is outside = refl
  closing_is (in_first c) = refl
  closing_is (in_second c a) = refl

  not_next : (c : Around) (t : Tree) (b : ℕ) (u : List ℕ) → Hopeless (before c ++ written t) (b ∷ u) → b ≡ sign (next_mark c) → ⊥
  not_next c t b u h is =
      h b u (closing_tail c) (fill c t) refl
      (append_assoc (before c) (written t) (b ∷ closing_tail c) ∙ ap (λ l. before c ++ (written t ++ l)) (ap (λ x. x ∷ closing_tail c) is ∙ sym (closing_is c)) ∙ fill_text c t)

  next_bad : (c : Around) (t : Tree) (rest : List ℕ) → Hopeless (before c ++ written t) rest → lit (next_mark c) rest ≡ bad TreeGrammar rest
  next_bad c t [] h = refl
  next_bad c t (b ∷ u) h = rw (ne_eqb b (sign (next_mark c)) (not_next c t b u h)) refl

  -- after a subtree that is read to its end
  past_bad : (c : Around) (t : Tree) (rest : List ℕ) → most c ≤ 127 → standing c + deep t ≤ 127 → InOrder N m (t ∷ halves c) → lit (next_mark c) rest ≡ bad TreeGrammar rest → ((d : ℕ) (named : Lines) → Fits N m named t → deep t ≤ d → subtree d N m named (written t ++ rest) ≡ good t rest) → whole 127 N n m (before c ++ (written t ++ rest)) ≡ bad TreeGrammar rest
  past_bad outside t rest shallow room o e ok =
      ap (λ x. then x (ending N n m)) (ok 127 none_named (head_fits N m t [] o) (omega arith)) ∙ rw e refl
  past_bad (in_first c) t rest shallow room o e ok =
      let d = 126 - standing c in
      let deep_enough : standing c + suc d ≡ 127 = omega arith in
      let one = ok d (named_by (halves c)) (head_fits N m t (halves c) o) (omega arith) in
      ap (whole 127 N n m) (append_assoc (before c) (40 ∷ []) (written t ++ rest))
      ∙ forward c (suc d) (40 ∷ (written t ++ rest)) rest TreeGrammar deep_enough (omega arith) (tail_order N m t (halves c) o) (rw (one, e) refl)
  past_bad (in_second c a) t rest shallow room o e ok =
      let d = 126 - standing c in
      let deep_enough : standing c + suc d ≡ 127 = omega arith in
      let oa = tail_order N m t (a ∷ halves c) o in
      let one = reads N m a d (named_by (halves c)) (44 ∷ (written t ++ rest)) (head_fits N m a (halves c) oa) (omega arith) refl in
      let two : subtree d N m (with_lines a (named_by (halves c))) (written t ++ rest) ≡ good t rest = ap (λ l. subtree d N m l (written t ++ rest)) (named_more a (halves c)) ∙ ok d (named_by (a ∷ halves c)) (head_fits N m t (a ∷ halves c) o) (omega arith) in
      ap (whole 127 N n m) (second_text (before c) (written a) (written t ++ rest))
      ∙ forward c (suc d) (40 ∷ (written a ++ 44 ∷ (written t ++ rest))) rest TreeGrammar deep_enough (omega arith) (tail_order N m a (halves c) oa) (rw (one, two, e) refl)
    where
      second_text : (p w s : List ℕ) → (p ++ 40 ∷ (w ++ 44 ∷ [])) ++ s ≡ p ++ 40 ∷ (w ++ 44 ∷ s)
      second_text p w s = simp append_assoc

  -- a digit after a number other than 0 goes on with the number
  not_longer : (c : Around) (k b : ℕ) (u : List ℕ) → 0 < k → Hopeless (before c ++ written (leaf k)) (b ∷ u) → digit b ≡ true → ⊥
  not_longer c k b u p h e =
      let w = is_digit b e in
      let more : written (leaf k) ++ b ∷ [] ≡ written (leaf (k * 10 + (b - 48))) = ap (λ l. l ++ b ∷ []) (leaf_text k) ∙ sym (spelled_more k b p w.low w.high) ∙ sym (leaf_text (k * 10 + (b - 48))) in
      h b u (closing c) (fill c (leaf (k * 10 + (b - 48)))) refl
      (longer (before c) (written (leaf k)) (closing c) b ∙ ap (λ l. before c ++ (l ++ closing c)) more ∙ fill_text c (leaf (k * 10 + (b - 48))))
    where
      longer : (p w z : List ℕ) (b : ℕ) → (p ++ w) ++ b ∷ z ≡ p ++ ((w ++ b ∷ []) ++ z)
      longer p w z b = simp append_assoc

  leaf_past : (c : Around) (k : ℕ) (rest : List ℕ) → most c ≤ 127 → standing c + deep (leaf k) ≤ 127 → InOrder N m (leaf k ∷ halves c) → Hopeless (before c ++ written (leaf k)) rest → whole 127 N n m (before c ++ (written (leaf k) ++ rest)) ≡ bad TreeGrammar rest
  leaf_past c k [] shallow room o h = past_bad c (leaf k) [] shallow room o refl_next (λ d named w g. reads N m (leaf k) d named [] w g tt)
    where
      refl_next : lit (next_mark c) [] ≡ bad TreeGrammar []
      refl_next = refl
  leaf_past c k (b ∷ u) shallow room o h =
      by_bool (digit b)
      (λ e.
      ⊎_elim
      (λ z.
      let text : written (leaf k) ++ b ∷ u ≡ 48 ∷ b ∷ u = ap (λ x. written (leaf x) ++ b ∷ u) z ∙ ap (λ l. l ++ b ∷ u) (leaf_text 0) in
      ap (λ l. whole 127 N n m (before c ++ l)) text ∙ at_place c (48 ∷ b ∷ u) (b ∷ u) TreeGrammar shallow (tail_order N m (leaf k) (halves c) o) (λ d room. zero_bad d (named_by (halves c)) b u e))
      (λ ne. absurd (not_longer c k b u (omega arith) h e))
      (cases_eq k 0))
      (λ e. past_bad c (leaf k) (b ∷ u) shallow room o (next_bad c (leaf k) (b ∷ u) h) (λ d named w g. reads N m (leaf k) d named (b ∷ u) w g e))

  join_past : (c : Around) (j : Join) (a b : Tree) (rest : List ℕ) → most c ≤ 127 → standing c + (max (deep a) (deep b) + 1) ≤ 127 → deep (joined j a b) ≡ max (deep a) (deep b) + 1 → InOrder N m (joined j a b ∷ halves c) → Hopeless (before c ++ written (joined j a b)) rest → whole 127 N n m (before c ++ (written (joined j a b) ++ rest)) ≡ bad TreeGrammar rest
  join_past c j a b rest shallow room is o h =
      past_bad c (joined j a b) rest shallow (omega arith) o (next_bad c (joined j a b) rest h)
      (λ d named w g. join_reads d N m named j a b rest (reads N m a) (reads N m b) w (omega arith))

  subtree_past : (c : Around) (t : Tree) (rest : List ℕ) → most c ≤ 127 → standing c + deep t ≤ 127 → InOrder N m (t ∷ halves c) → Hopeless (before c ++ written t) rest → whole 127 N n m (before c ++ (written t ++ rest)) ≡ bad TreeGrammar rest
  subtree_past c (leaf k) rest shallow room o h = leaf_past c k rest shallow room o h
  subtree_past c (series a b) rest shallow room o h = join_past c Series a b rest shallow room refl o h
  subtree_past c (parallel a b) rest shallow room o h = join_past c Parallel a b rest shallow room refl o h

  -- no letter of a join comes next
  not_letter : (c : Around) (j : Join) (a b : Tree) (x : ℕ) (u : List ℕ) → Hopeless (before c ++ 40 ∷ (written a ++ 44 ∷ (written b ++ 41 ∷ []))) (x ∷ u) → x ≡ letter_of j → ⊥
  not_letter c j a b x u h is =
      h x u (closing c) (fill c (joined j a b)) refl
      (flat (before c) (written a) (written b) (closing c) x ∙ ap (λ z. before c ++ 40 ∷ (written a ++ 44 ∷ (written b ++ 41 ∷ z ∷ closing c))) is ∙ ap (λ l. before c ++ l) (sym (joined_text j a b (closing c))) ∙ fill_text c (joined j a b))
    where
      flat : (p y w z : List ℕ) (x : ℕ) → (p ++ 40 ∷ (y ++ 44 ∷ (w ++ 41 ∷ []))) ++ x ∷ z ≡ p ++ 40 ∷ (y ++ 44 ∷ (w ++ 41 ∷ x ∷ z))
      flat p y w z x = simp append_assoc

  letter_bad : (c : Around) (a b : Tree) (rest : List ℕ) → Hopeless (before c ++ 40 ∷ (written a ++ 44 ∷ (written b ++ 41 ∷ []))) rest → join_letter N a b rest ≡ bad TreeGrammar rest
  letter_bad c a b [] h = refl
  letter_bad c a b (x ∷ u) h = rw (ne_eqb x 115 (not_letter c Series a b x u h), ne_eqb x 112 (not_letter c Parallel a b x u h)) refl

  stop_stands : (t : Tree) (rest : List ℕ) → deep t ≤ 127 → InOrder N m (t ∷ []) → (rest ≡ [] → ⊥) → whole 127 N n m ((written t ++ 59 ∷ []) ++ rest) ≡ bad TreeGrammar rest
  stop_stands t [] h o some = absurd (some refl)
  stop_stands t (b ∷ u) h o some = ap (whole 127 N n m) (append_assoc (written t) (59 ∷ []) (b ∷ u)) ∙ ap (λ x. then x (ending N n m)) (tree_reads t (59 ∷ b ∷ u) h o refl)

  pub grammar_stands : (front rest : List ℕ) → OutsideGrammar N m front rest → whole 127 N n m (front ++ rest) ≡ bad TreeGrammar rest
  grammar_stands front rest w =
      elim w.reached [
        | at_subtree c is shallow o ↦ ap (λ l. whole 127 N n m (l ++ rest)) is ∙ at_place c rest rest TreeGrammar shallow o (λ d e. start_bad c d rest (subst (λ l. Hopeless l rest) is w.hopeless))
        | past_zero c b u is there e shallow o ↦ (λ i. whole 127 N n m (is i ++ there i)) ∙ ap (whole 127 N n m) (append_assoc (before c) (48 ∷ []) (b ∷ u)) ∙ at_place c (48 ∷ b ∷ u) (b ∷ u) TreeGrammar shallow o (λ d room. zero_bad d (named_by (halves c)) b u e) ∙ ap (bad TreeGrammar) (sym there)
        | past_subtree c t is shallow room o ↦ ap (λ l. whole 127 N n m (l ++ rest)) is ∙ ap (whole 127 N n m) (append_assoc (before c) (written t) rest) ∙ subtree_past c t rest shallow room o (subst (λ l. Hopeless l rest) is w.hopeless)
        | past_pair c a b is first second o ↦ ap (λ l. whole 127 N n m (l ++ rest)) is ∙ pair_place c a b rest rest TreeGrammar first second o (letter_bad c a b rest (subst (λ l. Hopeless l rest) is w.hopeless))
        | past_semicolon t is h o ↦ ap (λ l. whole 127 N n m (l ++ rest)) is ∙ stop_stands t rest h o (λ none. w.ended none t is)
      ]
