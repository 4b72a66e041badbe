-- Where a text is refused, and that everything before is in order. Assumes nothing.
use Rattle.std.proofs.Common.{◌≡◌, ℕ, zero, suc, ◌+◌, ◌-◌, ◌*◌, ◌≤◌, max, Bool, true, false, cond, not, ◌&&◌, eqb, ltb, ◌⊎◌, List, [], ◌∷◌, ◌++◌, sym, refl, ap, ◌∙◌, subst, inl, inr, ⊎_elim, append_assoc, append-nil, arith}
use Rattle.std.proofs.lemmas.Bool.{eqb-true, and_cases, ltb-true, ltb-false, lt-ltb, le-ltb, cases_lt, not-false, both_ways}
use Rattle.plant.specs.declared.refusal.Reason.{Reason}
use Rattle.plant.specs.declared.refusal.Reason.TheVariants.{TreeGrammar, TooDeep, LeafNumber, HalvesApart, NotThePlant}
use Rattle.plant.specs.declared.tree.Join.{Join}
use Rattle.plant.specs.declared.tree.Join.TheVariants.{Series, Parallel}
use Rattle.plant.specs.Trees.{Net, Tree, leaf, series, uses}
use Rattle.plant.specs.Nodes.{joined}
use Rattle.drawing.specs.declared.mark.Mark.{Mark}
use Rattle.drawing.specs.declared.mark.Mark.TheVariants.{Comma, Close, Semicolon}
use Rattle.drawing.specs.Marks.{sign, digit, letter_of}
use Rattle.drawing.specs.Grammar.{Out, good, bad, then, lit, letter, stop, digits, after_zero, number, Lines, with_lines, meet, leaf_line, join_letter, after_open, subtree, complete, none_named, whole}
use Rattle.drawing.specs.Written.{spelled, written, deep}
use Rattle.drawing.specs.Faults.{Grammatical, Around, outside, in_first, in_second, before, standing, most, halves, total, InOrder, Meets, NoDigit, Reached, at_subtree, past_zero, past_subtree, past_pair, past_semicolon, BracketTooDeep, NumberAtFault, LetterAtFault, NotDrawn}
use Rattle.drawing.proofs.Bytes.{by_bool}
use Rattle.drawing.proofs.Spelling.{clash, same_good, is_digit, number_good}
use Rattle.drawing.proofs.Building.{Ends, Fits, meets_series, meets_parallel, draws_complete}
use Rattle.drawing.proofs.Laws.{Said, said, lit_good, letter_good, stop_good}
use Rattle.drawing.proofs.Writing.{leaf_text}

-- ---- what a refusal says of the steps before it

clash' : {A : Type 0} {P : Type 0} (r : Reason) (s u : List ℕ) (x : A) → good x u ≡ bad r s → P
clash' r s u x e = clash r s u x (sym e)

same_bad : {A : Type 0} (r w : Reason) (s q : List ℕ) → ◌≡◌ {A = Out A} (bad r s) (bad w q) → (w ≡ r) × (s ≡ q)
same_bad r w s q e = (cc, cc)

pub record Next {A B : Type 0} (o : Out A) (f : A → List ℕ → Out B) (r : Reason) (q : List ℕ) : Type 0 where
  pub value : A
  pub mid : List ℕ
  pub first : o ≡ good value mid
  pub next : f value mid ≡ bad r q

then_bad : {A B : Type 0} (o : Out A) (f : A → List ℕ → Out B) (r : Reason) (q : List ℕ) → then o f ≡ bad r q → (o ≡ bad r q) ⊎ Next o f r q
then_bad (good x s) f r q e = inr (record { value = x; mid = s; first = refl; next = e })
then_bad (bad w s) f r q e = inl (let p = same_bad w r s q e in λ i. bad (sym p.0 i) (p.1 i))

lit_bad : (m : Mark) (s : List ℕ) (r : Reason) (q : List ℕ) → lit m s ≡ bad r q → (r ≡ TreeGrammar) × (s ≡ q)
lit_bad m [] r q e = same_bad TreeGrammar r [] q e
lit_bad m (c ∷ s) r q e = by_bool (eqb c (sign m)) (λ h. clash' r q s tt (rw h at e)) (λ h. same_bad TreeGrammar r (c ∷ s) q (rw h at e))

letter_bad : (s : List ℕ) (r : Reason) (q : List ℕ) → letter s ≡ bad r q → (r ≡ TreeGrammar) × (s ≡ q)
letter_bad [] r q e = same_bad TreeGrammar r [] q e
letter_bad (c ∷ s) r q e =
    by_bool (eqb c 115)
    (λ h. clash' r q s Series (rw h at e))
    (λ h. let f = rw h at e in by_bool (eqb c 112) (λ i. clash' r q s Parallel (rw i at f)) (λ i. same_bad TreeGrammar r (c ∷ s) q (rw i at f)))

stop_bad : (s : List ℕ) (r : Reason) (q : List ℕ) → stop s ≡ bad r q → (r ≡ TreeGrammar) × (s ≡ q)
stop_bad [] r q e = clash' r q [] tt e
stop_bad (b ∷ s) r q e = same_bad TreeGrammar r (b ∷ s) q e

digits_never : (s : List ℕ) (n : ℕ) (r : Reason) (q : List ℕ) {P : Type 0} → digits n s ≡ bad r q → P
digits_never [] n r q e = clash' r q [] n e
digits_never (b ∷ s) n r q e = by_bool (digit b) (λ d. digits_never s (n * 10 + (b - 48)) r q (rw d at e)) (λ d. clash' r q (b ∷ s) n (rw d at e))

-- a digit that is refused
record DigitThere (q : List ℕ) : Type 0 where
  byte : ℕ
  after : List ℕ
  is : q ≡ byte ∷ after
  digit : digit byte ≡ true

zero_bad : (s : List ℕ) (r : Reason) (q : List ℕ) → after_zero s ≡ bad r q → (r ≡ TreeGrammar) × (s ≡ q) × DigitThere q
zero_bad [] r q e = clash' r q [] 0 e
zero_bad (b ∷ s) r q e = by_bool (digit b) (λ d. let p = same_bad TreeGrammar r (b ∷ s) q (rw d at e) in (p.0, p.1, record { byte = b; after = s; is = sym p.1; digit = d })) (λ d. clash' r q (b ∷ s) 0 (rw d at e))

-- a number is refused at its first byte, or at a digit after a leading zero
number_bad : (s : List ℕ) (r : Reason) (q : List ℕ) → number s ≡ bad r q → (r ≡ TreeGrammar) × ((s ≡ q) ⊎ ((s ≡ 48 ∷ q) × DigitThere q))
number_bad [] r q e = let p = same_bad TreeGrammar r [] q e in (p.0, inl p.1)
number_bad (b ∷ s) r q e =
    by_bool (digit b)
    (λ d.
    let f = rw d at e in
    by_bool (eqb (b - 48) 0)
    (λ z.
    let p = zero_bad s r q (rw z at f) in
    let low = (is_digit b d).low in
    let is : b ≡ 48 = omega (arith, eqb-true (b - 48) 0 z) in
    (p.0, inr ((λ i. is i ∷ p.1 i), p.2)))
    (λ z. digits_never s (b - 48) r q (rw z at f)))
    (λ d. let p = same_bad TreeGrammar r (b ∷ s) q (rw d at e) in (p.0, inl p.1))

-- a number ends where no digit follows
digits_stop : (s : List ℕ) (n k : ℕ) (u : List ℕ) → digits n s ≡ good k u → NoDigit u
digits_stop [] n k u e = subst NoDigit (same_good n k [] u e).1 tt
digits_stop (b ∷ s) n k u e = by_bool (digit b) (λ d. digits_stop s (n * 10 + (b - 48)) k u (rw d at e)) (λ d. subst NoDigit (same_good n k (b ∷ s) u (rw d at e)).1 d)

zero_stop : (s : List ℕ) (k : ℕ) (u : List ℕ) → after_zero s ≡ good k u → NoDigit u
zero_stop [] k u e = subst NoDigit (same_good 0 k [] u e).1 tt
zero_stop (b ∷ s) k u e = by_bool (digit b) (λ d. clash _ _ u k (rw d at e)) (λ d. subst NoDigit (same_good 0 k (b ∷ s) u (rw d at e)).1 d)

number_stop : (s : List ℕ) (k : ℕ) (u : List ℕ) → number s ≡ good k u → NoDigit u
number_stop [] k u e = clash _ _ u k e
number_stop (b ∷ s) k u e =
    by_bool (digit b)
    (λ d. let f = rw d at e in by_bool (eqb (b - 48) 0) (λ z. zero_stop s k u (rw z at f)) (λ z. digits_stop s (b - 48) k u (rw z at f)))
    (λ d. clash _ _ u k (rw d at e))

-- a test that was not passed
cond-bad : {A : Type 0} (b : Bool) (x : A) (s v q : List ℕ) (w r : Reason) → cond b (good x s) (bad w v) ≡ bad r q → (b ≡ false) × (r ≡ w) × (v ≡ q)
cond-bad true x s v q w r e = clash' r q s x e
cond-bad false x s v q w r e = let p = same_bad w r v q e in (refl, p.0, p.1)

-- ---- what stands before a place can be completed

unfoldable pub closing : Around → List ℕ
closing outside = 59 ∷ []
closing (in_first c) = 44 ∷ 48 ∷ 41 ∷ 115 ∷ closing c
closing (in_second c a) = 41 ∷ 115 ∷ closing c

unfoldable pub fill : Around → Tree → Tree
fill outside t = t
fill (in_first c) t = fill c (series t (leaf 0))
fill (in_second c a) t = fill c (series a t)

pub fill_text : (c : Around) (t : Tree) → before c ++ (written t ++ closing c) ≡ written (fill c t) ++ 59 ∷ []
unfolding closing fill written
fill_text outside t = refl
fill_text (in_first c) t =
    let e : (before c ++ 40 ∷ []) ++ (written t ++ 44 ∷ 48 ∷ 41 ∷ 115 ∷ closing c) ≡ before c ++ (written (series t (leaf 0)) ++ closing c) = simp append_assoc in
    e ∙ fill_text c (series t (leaf 0))
fill_text (in_second c a) t =
    let e : (before c ++ 40 ∷ (written a ++ 44 ∷ [])) ++ (written t ++ 41 ∷ 115 ∷ closing c) ≡ before c ++ (written (series a t) ++ closing c) = simp append_assoc in
    e ∙ fill_text c (series a t)

fill_deep : (c : Around) (t : Tree) → deep (fill c t) ≤ max (most c) (standing c + deep t)
unfolding fill
fill_deep outside t = omega arith
fill_deep (in_first c) t = let h = fill_deep c (series t (leaf 0)) in omega arith
fill_deep (in_second c a) t = let h = fill_deep c (series a t) in omega arith

abbrev Begun : List ℕ → Type 0
Begun front = (v : List ℕ) × (t : Tree) × Grammatical t (front ++ v)

begun : (c : Around) (t : Tree) (x y : List ℕ) → written t ≡ x ++ y → most c ≤ 127 → standing c + deep t ≤ 127 → Begun (before c ++ x)
begun c t x y e shallow room = (
  y ++ closing c,
  fill c t,
  record {
    text = append_assoc (before c) x (y ++ closing c) ∙ ap (λ l. before c ++ l) (sym (append_assoc x y (closing c)) ∙ ap (λ l. l ++ closing c) (sym e)) ∙ fill_text c t;
    depth = let h = fill_deep c t in omega arith;
  },
)

-- ---- the fault that is found

pub data Found (N : Net) (n m : ℕ) (front q : List ℕ) (r : Reason) : Type 0 where
  by_grammar : r ≡ TreeGrammar → (v : List ℕ) (t : Tree) → Grammatical t (front ++ v) → Reached N m front q → Found N n m front q r
  by_bracket : r ≡ TooDeep → BracketTooDeep N m front q → Found N n m front q r
  by_number : r ≡ LeafNumber → NumberAtFault N m front q → Found N n m front q r
  by_letter : r ≡ HalvesApart → LetterAtFault N m front q → Found N n m front q r
  by_plant : r ≡ NotThePlant → NotDrawn N n m front q → Found N n m front q r

pub record Place (N : Net) (n m : ℕ) (text q : List ℕ) (r : Reason) : Type 0 where
  pub front : List ℕ
  pub split : text ≡ front ++ q
  pub found : Found N n m front q r

-- where the reader stands
record Reading (N : Net) (m d : ℕ) (c : Around) (named : Lines) : Type 0 where
  lines : (k : ℕ) → named k ≡ ltb 0 (total (halves c) k)
  order : InOrder N m (halves c)
  depth : standing c + d ≡ 127
  shallow : most c ≤ 127

in_grammar : (N : Net) (n m : ℕ) (c : Around) (text s q x y : List ℕ) (r : Reason) (t : Tree) → r ≡ TreeGrammar → text ≡ before c ++ (x ++ q) → written t ≡ x ++ y → most c ≤ 127 → standing c + deep t ≤ 127 → Reached N m (before c ++ x) q → Place N n m text q r
in_grammar N n m c text s q x y r t why e w shallow room so =
    let b = begun c t x y w shallow room in
    record { front = before c ++ x; split = e ∙ sym (append_assoc (before c) x q); found = by_grammar why b.0 b.1 b.2 so }

-- one tree more in order
pub more_lines : (a : Tree) (ts : List Tree) (named : Lines) → ((k : ℕ) → named k ≡ ltb 0 (total ts k)) → (k : ℕ) → with_lines a named k ≡ ltb 0 (total (a ∷ ts) k)
more_lines a ts named h k =
    ⊎_elim
    (λ p. rw (lt-ltb 0 (uses a k) p, lt-ltb 0 (uses a k + total ts k) (omega arith)) refl)
    (λ z. let e : uses a k + total ts k ≡ total ts k = omega arith in rw (le-ltb 0 (uses a k) z, e) (h k))
    (cases_lt 0 (uses a k))

more_order : (N : Net) (m : ℕ) (a : Tree) (ts : List Tree) (named : Lines) → ((k : ℕ) → named k ≡ ltb 0 (total ts k)) → InOrder N m ts → Fits N m named a → InOrder N m (a ∷ ts)
more_order N m a ts named h o w = record {
  built = (w.builds, o.built);
  among = λ k ge. ⊎_elim (λ p. let lt = w.among k p in absurd (omega arith)) (λ z. omega (arith, o.among k ge)) (cases_lt 0 (uses a k));
  once = λ k. ⊎_elim
      (λ p. let z = ltb-false 0 (total ts k) (sym (h k) ∙ w.fresh k p) in omega (arith, w.once k))
      (λ z. omega (arith, o.once k))
      (cases_lt 0 (uses a k));
}

meet_fault : (N : Net) (j : Join) (a b : Tree) → meet N j a b ≡ false → Meets N j a b → ⊥
meet_fault N Series a b f w = both_ways _ f (meets_series N a b w)
meet_fault N Parallel a b f w = both_ways _ f (meets_parallel N a b w)

module _ (N : Net) (n m : ℕ) (ends : Ends N n m) (few : n ≤ 64) where
  in_first_reading : (d : ℕ) (c : Around) (named : Lines) → Reading N m (suc d) c named → Reading N m d (in_first c) named
  in_first_reading d c named w = record { lines = w.lines; order = w.order; depth = omega (arith, w.depth); shallow = omega (arith, w.depth, w.shallow) }

  in_second_reading : (d : ℕ) (c : Around) (named : Lines) (a : Tree) → Reading N m (suc d) c named → Fits N m named a → deep a ≤ d → Reading N m d (in_second c a) (with_lines a named)
  in_second_reading d c named a w f h = record {
    lines = more_lines a (halves c) named w.lines;
    order = more_order N m a (halves c) named w.lines w.order f;
    depth = omega (arith, w.depth);
    shallow = omega (arith, w.depth, w.shallow);
  }

  number_fault : (c : Around) (named : Lines) (k : ℕ) → ((k : ℕ) → named k ≡ ltb 0 (total (halves c) k)) → (ltb k m && not (named k)) ≡ false → (m ≤ k) ⊎ (1 ≤ total (halves c) k)
  number_fault c named k h e =
      ⊎_elim
      (λ p. inl (ltb-false k m p))
      (λ p. inr (ltb-true 0 (total (halves c) k) (sym (h k) ∙ not-false (named k) p)))
      (and_cases (ltb k m) (not (named k)) e)

  leaf_found : (d : ℕ) (c : Around) (named : Lines) (s : List ℕ) (r : Reason) (q : List ℕ) → Reading N m d c named → leaf_line m named s ≡ bad r q → Place N n m (before c ++ s) q r
  leaf_found d c named s r q w e =
      ⊎_elim
      (λ f.
      let p = number_bad s r q f in
      ⊎_elim
      (λ at. in_grammar N n m c _ s q [] (spelled 0) r (leaf 0) p.0 (ap (λ l. before c ++ l) at) (leaf_text 0) w.shallow (omega (arith, w.depth)) (at_subtree c (append-nil _) w.shallow w.order))
      (λ at. in_grammar N n m c _ s q (48 ∷ []) [] r (leaf 0) p.0 (ap (λ l. before c ++ l) at.0) (leaf_text 0) w.shallow (omega (arith, w.depth)) (past_zero c at.1.byte at.1.after refl at.1.is at.1.digit w.shallow w.order))
      p.1)
      (λ k.
      let g = cond-bad (ltb k.value m && not (named k.value)) (leaf k.value) k.mid s q LeafNumber r k.next in
      record {
        front = before c;
        split = ap (λ l. before c ++ l) g.2;
        found = by_number g.1 (record {
          around = c;
          line = k.value;
          after = k.mid;
          front_is = refl;
          number = sym g.2 ∙ number_good s k.value k.mid k.first;
          whole = number_stop s k.value k.mid k.first;
          fault = number_fault c named k.value w.lines g.0;
          shallow = w.shallow;
          order = w.order;
        });
      })
      (then_bad (number s) _ r q e)

  -- the parts of a pair
  first_order : (d : ℕ) (c : Around) (named : Lines) (a : Tree) → Reading N m d c named → Fits N m named a → InOrder N m (a ∷ halves c)
  first_order d c named a w x = more_order N m a (halves c) named w.lines w.order x

  both_order : (d : ℕ) (c : Around) (named : Lines) (a b : Tree) → Reading N m d c named → Fits N m named a → Fits N m (with_lines a named) b → InOrder N m (b ∷ a ∷ halves c)
  both_order d c named a b w x y = more_order N m b (a ∷ halves c) (with_lines a named) (more_lines a (halves c) named w.lines) (first_order d c named a w x) y

  comma_place : (d : ℕ) (c : Around) (named : Lines) (s : List ℕ) (r : Reason) (q : List ℕ) (a : Tree) → Reading N m (suc d) c named → Fits N m named a → deep a ≤ d → r ≡ TreeGrammar → s ≡ written a ++ q → Place N n m (before c ++ 40 ∷ s) q r
  unfolding written
  comma_place d c named s r q a w x h why e =
      in_grammar N n m c _ s q (40 ∷ written a) (44 ∷ 48 ∷ 41 ∷ 115 ∷ []) r (series a (leaf 0)) why (ap (λ l. before c ++ 40 ∷ l) e) refl w.shallow (omega (arith, w.depth))
      (past_subtree (in_first c) a (sym (append_assoc (before c) (40 ∷ []) (written a))) (omega (arith, w.depth, w.shallow)) (omega (arith, w.depth)) (first_order (suc d) c named a w x))

  close_place : (d : ℕ) (c : Around) (named : Lines) (s : List ℕ) (r : Reason) (q : List ℕ) (a b : Tree) → Reading N m (suc d) c named → Fits N m named a → Fits N m (with_lines a named) b → deep a ≤ d → deep b ≤ d → r ≡ TreeGrammar → s ≡ written a ++ 44 ∷ (written b ++ q) → Place N n m (before c ++ 40 ∷ s) q r
  unfolding written
  close_place d c named s r q a b w x y h g why e =
      in_grammar N n m c _ s q (40 ∷ (written a ++ 44 ∷ written b)) (41 ∷ 115 ∷ []) r (series a b) why (ap (λ l. before c ++ 40 ∷ l) (e ∙ sym (append_assoc (written a) (44 ∷ written b) q))) (ap (λ l. 40 ∷ l) (sym (append_assoc (written a) (44 ∷ written b) (41 ∷ 115 ∷ [])))) w.shallow (omega (arith, w.depth))
      (past_subtree (in_second c a) b (simp append_assoc) (omega (arith, w.depth, w.shallow)) (omega (arith, w.depth)) (both_order (suc d) c named a b w x y))

  letter_place : (d : ℕ) (c : Around) (named : Lines) (s : List ℕ) (r : Reason) (q : List ℕ) (a b : Tree) → Reading N m (suc d) c named → Fits N m named a → Fits N m (with_lines a named) b → deep a ≤ d → deep b ≤ d → r ≡ TreeGrammar → s ≡ written a ++ 44 ∷ (written b ++ 41 ∷ q) → Place N n m (before c ++ 40 ∷ s) q r
  unfolding written
  letter_place d c named s r q a b w x y h g why e =
      in_grammar N n m c _ s q (40 ∷ (written a ++ 44 ∷ (written b ++ 41 ∷ []))) (115 ∷ []) r (series a b) why (ap (λ l. before c ++ 40 ∷ l) (e ∙ simp append_assoc)) (simp append_assoc) w.shallow (omega (arith, w.depth))
      (past_pair c a b refl (omega (arith, w.depth, w.shallow)) (omega (arith, w.depth)) (both_order (suc d) c named a b w x y))

  apart_place : (d : ℕ) (c : Around) (named : Lines) (s : List ℕ) (r : Reason) (q u : List ℕ) (j : Join) (a b : Tree) → Reading N m (suc d) c named → Fits N m named a → Fits N m (with_lines a named) b → deep a ≤ d → deep b ≤ d → r ≡ HalvesApart → meet N j a b ≡ false → s ≡ written a ++ 44 ∷ (written b ++ 41 ∷ q) → q ≡ letter_of j ∷ u → Place N n m (before c ++ 40 ∷ s) q r
  apart_place d c named s r q u j a b w x y h g why f e l =
      record {
        front = before c ++ 40 ∷ (written a ++ 44 ∷ (written b ++ 41 ∷ []));
        split = ap (λ k. before c ++ 40 ∷ k) e ∙ simp append_assoc;
        found = by_letter why (record {
          around = c;
          first = a;
          second = b;
          join = j;
          after = u;
          front_is = refl;
          letter = l;
          fault = meet_fault N j a b f;
          shallow_first = omega (arith, w.depth, w.shallow);
          shallow_second = omega (arith, w.depth);
          order = both_order (suc d) c named a b w x y;
        });
      }

  -- the same text, seen from inside the bracket
  moved : (text text' q : List ℕ) (r : Reason) → text' ≡ text → Place N n m text q r → Place N n m text' q r
  moved text text' q r e p = record { front = p.front; split = e ∙ p.split; found = p.found }

  inside : (c : Around) (a : Tree) (s u : List ℕ) → s ≡ written a ++ 44 ∷ u → before c ++ 40 ∷ s ≡ (before c ++ 40 ∷ (written a ++ 44 ∷ [])) ++ u
  inside c a s u e = ap (λ l. before c ++ 40 ∷ l) e ∙ simp append_assoc

  letter_found : (d : ℕ) (c : Around) (named : Lines) (s v : List ℕ) (r : Reason) (q : List ℕ) (a b : Tree) → Reading N m (suc d) c named → Said N m d named s a (44 ∷ (written b ++ 41 ∷ v)) → Said N m d (with_lines a named) (written b ++ 41 ∷ v) b (41 ∷ v) → join_letter N a b v ≡ bad r q → Place N n m (before c ++ 40 ∷ s) q r
  letter_found d c named s v r q a b w x y e =
      ⊎_elim
      (λ f. let z = letter_bad v r q f in letter_place d c named s r q a b w x.fits y.fits x.depth y.depth z.0 (x.text ∙ ap (λ l. written a ++ 44 ∷ (written b ++ 41 ∷ l)) z.1))
      (λ l.
      let g = cond-bad (meet N l.value a b) (joined l.value a b) l.mid v q HalvesApart r l.next in
      let there : q ≡ letter_of l.value ∷ l.mid = sym g.2 ∙ letter_good v l.value l.mid l.first in
      let text : s ≡ written a ++ 44 ∷ (written b ++ 41 ∷ q) = x.text ∙ ap (λ z. written a ++ 44 ∷ (written b ++ 41 ∷ z)) g.2 in
      apart_place d c named s r q l.mid l.value a b w x.fits y.fits x.depth y.depth g.1 g.0 text there)
      (then_bad (letter v) (λ j u. cond (meet N j a b) (good (joined j a b) u) (bad HalvesApart v)) r q e)

  close_found : (d : ℕ) (c : Around) (named : Lines) (s v : List ℕ) (r : Reason) (q : List ℕ) (a b : Tree) → Reading N m (suc d) c named → Said N m d named s a (44 ∷ (written b ++ v)) → Said N m d (with_lines a named) (written b ++ v) b v → then (lit Close v) (λ _ u. join_letter N a b u) ≡ bad r q → Place N n m (before c ++ 40 ∷ s) q r
  close_found d c named s v r q a b w x y e =
      ⊎_elim
      (λ f. let z = lit_bad Close v r q f in close_place d c named s r q a b w x.fits y.fits x.depth y.depth z.0 (x.text ∙ ap (λ l. written a ++ 44 ∷ (written b ++ l)) z.1))
      (λ k.
      let is = lit_good Close v k.value k.mid k.first in
      letter_found d c named s k.mid r q a b w
      (subst (λ l. Said N m d named s a (44 ∷ (written b ++ l))) is x)
      (subst (λ l. Said N m d (with_lines a named) (written b ++ l) b l) is y)
      k.next)
      (then_bad (lit Close v) (λ _ u. join_letter N a b u) r q e)

  -- where a subtree inside the bracket is refused, it is known
  abbrev Inner : ℕ → Reason → List ℕ → Type 0
  Inner d r q = (c : Around) (named : Lines) (s : List ℕ) → Reading N m d c named → subtree d N m named s ≡ bad r q → Place N n m (before c ++ s) q r

  second_found : (d : ℕ) (c : Around) (named : Lines) (s v : List ℕ) (r : Reason) (q : List ℕ) (a : Tree) → Inner d r q → Reading N m (suc d) c named → Said N m d named s a (44 ∷ v) → then (subtree d N m (with_lines a named) v) (λ b u. then (lit Close u) (λ _ u. join_letter N a b u)) ≡ bad r q → Place N n m (before c ++ 40 ∷ s) q r
  second_found d c named s v r q a ih w x e =
      ⊎_elim
      (λ f. moved ((before c ++ 40 ∷ (written a ++ 44 ∷ [])) ++ v) (before c ++ 40 ∷ s) q r (inside c a s v x.text) (ih (in_second c a) (with_lines a named) v (in_second_reading d c named a w x.fits x.depth) f))
      (λ b.
      let y = said N n m ends few d (with_lines a named) v b.value b.mid b.first in
      close_found d c named s b.mid r q a b.value w
      (subst (λ l. Said N m d named s a (44 ∷ l)) y.text x)
      (subst (λ l. Said N m d (with_lines a named) l b.value b.mid) y.text y)
      b.next)
      (then_bad (subtree d N m (with_lines a named) v) (λ b u. then (lit Close u) (λ _ u. join_letter N a b u)) r q e)

  comma_found : (d : ℕ) (c : Around) (named : Lines) (s v : List ℕ) (r : Reason) (q : List ℕ) (a : Tree) → Inner d r q → Reading N m (suc d) c named → Said N m d named s a v → then (lit Comma v) (λ _ u. then (subtree d N m (with_lines a named) u) (λ b u. then (lit Close u) (λ _ u. join_letter N a b u))) ≡ bad r q → Place N n m (before c ++ 40 ∷ s) q r
  comma_found d c named s v r q a ih w x e =
      ⊎_elim
      (λ f. let p = lit_bad Comma v r q f in comma_place d c named s r q a w x.fits x.depth p.0 (x.text ∙ ap (λ l. written a ++ l) p.1))
      (λ p. second_found d c named s p.mid r q a ih w (subst (Said N m d named s a) (lit_good Comma v p.value p.mid p.first) x) p.next)
      (then_bad (lit Comma v) (λ _ u. then (subtree d N m (with_lines a named) u) (λ b u. then (lit Close u) (λ _ u. join_letter N a b u))) r q e)

  after_found : (d : ℕ) (c : Around) (named : Lines) (s : List ℕ) (r : Reason) (q : List ℕ) → Inner d r q → Reading N m (suc d) c named → after_open N (subtree d N m) named s ≡ bad r q → Place N n m (before c ++ 40 ∷ s) q r
  after_found d c named s r q ih w e =
      ⊎_elim
      (λ f. moved ((before c ++ 40 ∷ []) ++ s) (before c ++ 40 ∷ s) q r (sym (append_assoc (before c) (40 ∷ []) s)) (ih (in_first c) named s (in_first_reading d c named w) f))
      (λ a. comma_found d c named s a.mid r q a.value ih w (said N n m ends few d named s a.value a.mid a.first) a.next)
      (then_bad (subtree d N m named s) _ r q e)

  bracket_place : (c : Around) (named : Lines) (s : List ℕ) (r : Reason) (q : List ℕ) → Reading N m 0 c named → ◌≡◌ {A = Out Tree} (bad TooDeep (40 ∷ s)) (bad r q) → Place N n m (before c ++ 40 ∷ s) q r
  bracket_place c named s r q w e =
      let p = same_bad {A = Tree} TooDeep r (40 ∷ s) q e in
      record {
        front = before c;
        split = ap (λ l. before c ++ l) p.1;
        found = by_bracket p.0 (record { around = c; after = s; front_is = refl; bracket = sym p.1; full = omega (arith, w.depth); shallow = w.shallow; order = w.order });
      }

  empty_place : (d : ℕ) (c : Around) (named : Lines) (r : Reason) (q : List ℕ) → Reading N m d c named → ◌≡◌ {A = Out Tree} (bad TreeGrammar []) (bad r q) → Place N n m (before c ++ []) q r
  empty_place d c named r q w e =
      let p = same_bad {A = Tree} TreeGrammar r [] q e in
      in_grammar N n m c _ [] q [] (spelled 0) r (leaf 0) p.0 (ap (λ l. before c ++ l) p.1) (leaf_text 0) w.shallow (omega (arith, w.depth)) (at_subtree c (append-nil _) w.shallow w.order)

  subtree_found : (d : ℕ) (c : Around) (named : Lines) (s : List ℕ) (r : Reason) (q : List ℕ) → Reading N m d c named → subtree d N m named s ≡ bad r q → Place N n m (before c ++ s) q r
  subtree_found zero c named [] r q w e = empty_place zero c named r q w e
  subtree_found (suc d) c named [] r q w e = empty_place (suc d) c named r q w e
  subtree_found zero c named (b ∷ s) r q w e =
      by_bool (eqb b 40)
      (λ h. moved (before c ++ 40 ∷ s) _ q r (ap (λ x. before c ++ x ∷ s) (eqb-true b 40 h)) (bracket_place c named s r q w (rw h at e)))
      (λ h. leaf_found zero c named (b ∷ s) r q w (rw h at e))
  subtree_found (suc d) c named (b ∷ s) r q w e =
      by_bool (eqb b 40)
      (λ h. moved (before c ++ 40 ∷ s) _ q r (ap (λ x. before c ++ x ∷ s) (eqb-true b 40 h)) (after_found d c named s r q (λ c named s w f. subtree_found d c named s r q w f) w (rw h at e)))
      (λ h. leaf_found (suc d) c named (b ∷ s) r q w (rw h at e))

  start : Reading N m 127 outside none_named
  start = record { lines = λ k. refl; order = record { built = tt; among = λ k ge. refl; once = λ k. omega arith }; depth = omega arith; shallow = omega arith }

  tree_order : (t : Tree) → Fits N m none_named t → InOrder N m (t ∷ [])
  tree_order t w = more_order N m t [] none_named (λ k. refl) (record { built = tt; among = λ k ge. refl; once = λ k. omega arith }) w

  pub whole_found : (s : List ℕ) (r : Reason) (q : List ℕ) → whole 127 N n m s ≡ bad r q → Place N n m s q r
  whole_found s r q e =
      ⊎_elim
      (λ f. subtree_found 127 outside none_named s r q start f)
      (λ a.
      let t = a.value in
      let x = said N n m ends few 127 none_named s t a.mid a.first in
      ⊎_elim
      (λ f.
      let p = lit_bad Semicolon a.mid r q f in
      record { front = written t; split = x.text ∙ ap (λ l. written t ++ l) p.1; found = by_grammar p.0 (59 ∷ []) t (record { text = refl; depth = x.depth }) (past_subtree outside t refl (omega arith) (omega (arith, x.depth)) (tree_order t x.fits)) })
      (λ p.
      let semi = x.text ∙ ap (λ l. written t ++ l) (lit_good Semicolon a.mid p.value p.mid p.first) in
      ⊎_elim
      (λ f.
      let z = stop_bad p.mid r q f in
      record {
        front = written t ++ 59 ∷ [];
        split = semi ∙ ap (λ l. written t ++ 59 ∷ l) z.1 ∙ sym (append_assoc (written t) (59 ∷ []) q);
        found = by_grammar z.0 [] t (record { text = append-nil _; depth = x.depth }) (past_semicolon t refl x.depth (tree_order t x.fits));
      })
      (λ k.
      let end = stop_good p.mid k.value k.mid k.first in
      let g = cond-bad (complete N n m t) t k.mid k.mid q NotThePlant r k.next in
      let none : q ≡ [] = sym g.2 ∙ end.1 in
      let text : s ≡ written t ++ 59 ∷ [] = semi ∙ ap (λ l. written t ++ 59 ∷ l) end.0 in
      record {
        front = written t ++ 59 ∷ [];
        split = text ∙ sym (append-nil _) ∙ ap (λ l. (written t ++ 59 ∷ []) ++ l) (sym none);
        found = by_plant g.1 (record {
          tree = t;
          text = record { text = refl; depth = x.depth };
          ended = none;
          order = tree_order t x.fits;
          fault = λ w. both_ways _ g.0 (draws_complete N n m t w);
        });
      })
      (then_bad (stop p.mid) _ r q p.next))
      (then_bad (lit Semicolon a.mid) _ r q a.next))
      (then_bad (subtree 127 N m none_named s) _ r q e)
