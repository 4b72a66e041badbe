-- The grammar looks one byte ahead at most: what it reads, and where it refuses, hangs on no byte after that. Assumes nothing.
use Rattle.std.proofs.Common.{◌≡◌, ℕ, zero, suc, ◌+◌, ◌-◌, ◌*◌, Bool, true, false, cond, not, ◌&&◌, eqb, ltb, List, [], ◌∷◌, ◌++◌, sym, refl, ap, ◌∙◌, append_assoc, arith}
use Rattle.plant.specs.declared.refusal.Reason.{Reason}
use Rattle.plant.specs.declared.refusal.Reason.TheVariants.{TreeGrammar, TooDeep, LeafNumber, HalvesApart, NotThePlant}
use Rattle.plant.specs.declared.tree.Join.TheVariants.{Series, Parallel}
use Rattle.plant.specs.Trees.{Net, Tree, leaf}
use Rattle.plant.specs.Nodes.{joined}
use Rattle.drawing.specs.declared.mark.Mark.{Mark}
use Rattle.drawing.specs.declared.mark.Mark.TheVariants.{Comma, Close, Semicolon}
use Rattle.drawing.specs.Marks.{sign, digit}
use Rattle.drawing.specs.Grammar.{Out, good, bad, then, lit, letter, stop, digits, after_zero, number, Lines, with_lines, meet, leaf_line, join_letter, after_open, subtree, pair, complete, none_named, whole}
use Rattle.drawing.proofs.Bytes.{by_bool}
use Rattle.drawing.proofs.Spelling.{leaf_number, halves_apart, too_deep, not_plant}

abbrev pub rest_of : {A : Type 0} → Out A → List ℕ
rest_of (good x s) = s
rest_of (bad r s) = s

abbrev pub swap : {A : Type 0} → Out A → List ℕ → Out A
swap (good x s) v = good x v
swap (bad r s) v = bad r v

-- a value, or a refusal by the grammar; the other refusals stand at the beginning of what they judge
abbrev pub Plain : {A : Type 0} → Out A → Type 0
Plain (good x s) = Unit {0}
Plain (bad r s) = r ≡ TreeGrammar

-- the outcome is the same at each text with the same front and the same next byte
pub record At {A : Type 0} (f : List ℕ → Out A) (s : List ℕ) (o : Out A) : Type 0 where
  pub front : List ℕ
  pub split : s ≡ front ++ rest_of o
  pub same : (b : ℕ) (u v : List ℕ) → rest_of o ≡ b ∷ u → f (front ++ b ∷ v) ≡ swap o (b ∷ v)

pub record Look {A : Type 0} (f : List ℕ → Out A) (s : List ℕ) : Type 0 where
  pub out : Out A
  pub is : f s ≡ out
  pub at : Plain out → At f s out

abbrev pub Looks : {A : Type 0} → (List ℕ → Out A) → Type 0
Looks f = (s : List ℕ) → Look f s

not_cons : {P : Type 0} (b : ℕ) (u : List ℕ) → [] ≡ b ∷ u → P
not_cons b u e = let z : ◌≡◌ {A = ℕ} 0 1 = cc in absurd (omega arith)

first : (c b : ℕ) (s u : List ℕ) → c ∷ s ≡ b ∷ u → b ≡ c
first c b s u e = cc

pure_at : {A : Type 0} (x : A) (s : List ℕ) → At (λ v. good x v) s (good x s)
pure_at x s = record { front = []; split = refl; same = λ b u v h. refl }

pub pure_looks : {A : Type 0} (x : A) → Looks (λ s. good x s)
pure_looks x s = record { out = good x s; is = refl; at = λ _. pure_at x s }

-- at the end of the text
at_end : {A : Type 0} (f : List ℕ → Out A) (o : Out A) → f [] ≡ o → rest_of o ≡ [] → Look f []
at_end f o e r = record { out = o; is = e; at = λ _. record { front = []; split = sym r; same = λ b u v h. not_cons b u (sym r ∙ h) } }

-- where f goes by the next byte alone, and leaves it
at_byte : {A : Type 0} (f : List ℕ → Out A) (c : ℕ) (s : List ℕ) (o : Out A) → rest_of o ≡ c ∷ s → ((v : List ℕ) → f (c ∷ v) ≡ swap o (c ∷ v)) → swap o (c ∷ s) ≡ o → Look f (c ∷ s)
at_byte f c s o r all back =
    record {
      out = o;
      is = all s ∙ back;
      at = λ _. record { front = []; split = sym r; same = λ b u v h. let e = first c b s u (sym r ∙ h) in rw e (all v) };
    }

-- where f takes the next byte and goes on as g
at_more : {A : Type 0} (f g : List ℕ → Out A) (c : ℕ) (s : List ℕ) → ((v : List ℕ) → f (c ∷ v) ≡ g v) → Look g s → Look f (c ∷ s)
at_more f g c s all k =
    record {
      out = k.out;
      is = all s ∙ k.is;
      at = λ p. let a = k.at p in record {
        front = c ∷ a.front;
        split = ap (λ l. c ∷ l) a.split;
        same = λ b u v h. all (a.front ++ b ∷ v) ∙ a.same b u v h;
      };
    }

along : {A : Type 0} (f g : List ℕ → Out A) (c : ℕ) (s F r u : List ℕ) (b : ℕ) (v : List ℕ) → ((w : List ℕ) → f (c ∷ w) ≡ g (c ∷ w)) → c ∷ s ≡ F ++ r → r ≡ b ∷ u → f (F ++ b ∷ v) ≡ g (F ++ b ∷ v)
along f g c s [] r u b v all e h = let i = first c b s u (e ∙ h) in rw i (all v)
along f g c s (x ∷ F) r u b v all e h = let i = first c x s (F ++ r) e in rw i (all (F ++ b ∷ v))

-- where f and g agree on every text that begins with c
at_like : {A : Type 0} (f g : List ℕ → Out A) (c : ℕ) (s : List ℕ) → ((v : List ℕ) → f (c ∷ v) ≡ g (c ∷ v)) → Look g (c ∷ s) → Look f (c ∷ s)
at_like f g c s all k =
    record {
      out = k.out;
      is = all s ∙ k.is;
      at = λ p. let a = k.at p in record {
        front = a.front;
        split = a.split;
        same = λ b u v h. along f g c s a.front (rest_of k.out) u b v all a.split h ∙ a.same b u v h;
      };
    }

keeps : {A : Type 0} (f : List ℕ → Out A) (x : A) (F q G r u : List ℕ) (b : ℕ) (v : List ℕ) → ((c : ℕ) (w z : List ℕ) → q ≡ c ∷ w → f (F ++ c ∷ z) ≡ good x (c ∷ z)) → q ≡ G ++ r → r ≡ b ∷ u → f (F ++ (G ++ b ∷ v)) ≡ good x (G ++ b ∷ v)
keeps f x F q [] r u b v h e i = h b u v (e ∙ i)
keeps f x F q (c ∷ G) r u b v h e i = h c (G ++ r) (G ++ b ∷ v) e

then_at : {A B : Type 0} (f : List ℕ → Out A) (g : A → List ℕ → Out B) → ((x : A) → Looks (g x)) → (s : List ℕ) (o : Out A) → f s ≡ o → (Plain o → At f s o) → Look (λ s. then (f s) g) s
then_at f g lg s (bad r q) is at =
    record {
      out = bad r q;
      is = ap (λ o. then o g) is;
      at = λ p. let a = at p in record { front = a.front; split = a.split; same = λ b u v h. ap (λ o. then o g) (a.same b u v h) };
    }
then_at f g lg s (good x q) is at =
    let a = at tt in
    let k = lg x q in
    record {
      out = k.out;
      is = ap (λ o. then o g) is ∙ k.is;
      at = λ p. let c = k.at p in record {
        front = a.front ++ c.front;
        split = a.split ∙ ap (λ l. a.front ++ l) c.split ∙ sym (append_assoc a.front c.front (rest_of k.out));
        same = λ b u v e.
            let one = keeps f x a.front q c.front (rest_of k.out) u b v a.same c.split e in
            ap (λ l. then (f l) g) (append_assoc a.front c.front (b ∷ v)) ∙ ap (λ o. then o g) one ∙ c.same b u v e;
      };
    }

pub then_looks : {A B : Type 0} (f : List ℕ → Out A) (g : A → List ℕ → Out B) → Looks f → ((x : A) → Looks (g x)) → Looks (λ s. then (f s) g)
then_looks f g lf lg s = let k = lf s in then_at f g lg s k.out k.is k.at

-- what is read and then judged, with a refusal of its own
judged_at : {A B : Type 0} (f : List ℕ → Out A) (test : A → Bool) (made : A → B) (r : Reason) → (r ≡ TreeGrammar → ⊥) → (s : List ℕ) (o : Out A) → f s ≡ o → (Plain o → At f s o) → Look (λ s. then (f s) (λ x u. cond (test x) (good (made x) u) (bad r s))) s
judged_at f test made r n s (bad w q) is at =
    record {
      out = bad w q;
      is = ap (λ o. then o (λ x u. cond (test x) (good (made x) u) (bad r s))) is;
      at = λ p. let a = at p in record { front = a.front; split = a.split; same = λ b u v h. ap (λ o. then o (λ x y. cond (test x) (good (made x) y) (bad r (a.front ++ b ∷ v)))) (a.same b u v h) };
    }
judged_at f test made r n s (good x q) is at =
    let a = at tt in
    by_bool (test x)
    (λ h. record {
      out = good (made x) q;
      is = ap (λ o. then o (λ x u. cond (test x) (good (made x) u) (bad r s))) is ∙ ap (λ t. cond t (good (made x) q) (bad r s)) h;
      at = λ p. record {
        front = a.front;
        split = a.split;
        same = λ b u v e. ap (λ o. then o (λ x y. cond (test x) (good (made x) y) (bad r (a.front ++ b ∷ v)))) (a.same b u v e) ∙ ap (λ t. cond t (good (made x) (b ∷ v)) (bad r (a.front ++ b ∷ v))) h;
      };
    })
    (λ h. record {
      out = bad r s;
      is = ap (λ o. then o (λ x u. cond (test x) (good (made x) u) (bad r s))) is ∙ ap (λ t. cond t (good (made x) q) (bad r s)) h;
      at = λ p. absurd (n p);
    })

judged_looks : {A B : Type 0} (f : List ℕ → Out A) (test : A → Bool) (made : A → B) (r : Reason) → (r ≡ TreeGrammar → ⊥) → Looks f → Looks (λ s. then (f s) (λ x u. cond (test x) (good (made x) u) (bad r s)))
judged_looks f test made r n lf s = let k = lf s in judged_at f test made r n s k.out k.is k.at

pub lit_looks : (m : Mark) → Looks (lit m)
lit_looks m [] = at_end (lit m) (bad TreeGrammar []) refl refl
lit_looks m (c ∷ s) =
    by_bool (eqb c (sign m))
    (λ h. at_more (lit m) (λ v. good tt v) c s (λ v. rw h refl) (pure_looks tt s))
    (λ h. at_byte (lit m) c s (bad TreeGrammar (c ∷ s)) refl (λ v. rw h refl) refl)

letter_looks : Looks letter
letter_looks [] = at_end letter (bad TreeGrammar []) refl refl
letter_looks (c ∷ s) =
    by_bool (eqb c 115)
    (λ h. at_more letter (λ v. good Series v) c s (λ v. rw h refl) (pure_looks Series s))
    (λ h.
    by_bool (eqb c 112)
    (λ i. at_more letter (λ v. good Parallel v) c s (λ v. rw (h, i) refl) (pure_looks Parallel s))
    (λ i. at_byte letter c s (bad TreeGrammar (c ∷ s)) refl (λ v. rw (h, i) refl) refl))

digits_looks : (s : List ℕ) (n : ℕ) → Look (digits n) s
digits_looks [] n = at_end (digits n) (good n []) refl refl
digits_looks (b ∷ s) n =
    by_bool (digit b)
    (λ d. at_more (digits n) (digits (n * 10 + (b - 48))) b s (λ v. rw d refl) (digits_looks s (n * 10 + (b - 48))))
    (λ d. at_byte (digits n) b s (good n (b ∷ s)) refl (λ v. rw d refl) refl)

zero_looks : Looks after_zero
zero_looks [] = at_end after_zero (good 0 []) refl refl
zero_looks (b ∷ s) =
    by_bool (digit b)
    (λ d. at_byte after_zero b s (bad TreeGrammar (b ∷ s)) refl (λ v. rw d refl) refl)
    (λ d. at_byte after_zero b s (good 0 (b ∷ s)) refl (λ v. rw d refl) refl)

number_looks : Looks number
number_looks [] = at_end number (bad TreeGrammar []) refl refl
number_looks (b ∷ s) =
    by_bool (digit b)
    (λ d.
    by_bool (eqb (b - 48) 0)
    (λ z. at_more number after_zero b s (λ v. rw (d, z) refl) (zero_looks s))
    (λ z. at_more number (digits (b - 48)) b s (λ v. rw (d, z) refl) (digits_looks s (b - 48))))
    (λ d. at_byte number b s (bad TreeGrammar (b ∷ s)) refl (λ v. rw d refl) refl)

stop_looks : Looks stop
stop_looks [] = at_end stop (good tt []) refl refl
stop_looks (b ∷ s) = at_byte stop b s (bad TreeGrammar (b ∷ s)) refl (λ v. refl) refl

leaf_looks : (m : ℕ) (named : Lines) → Looks (leaf_line m named)
leaf_looks m named = judged_looks number (λ k. ltb k m && not (named k)) leaf LeafNumber leaf_number number_looks

join_looks : (N : Net) (a b : Tree) → Looks (join_letter N a b)
join_looks N a b = judged_looks letter (λ j. meet N j a b) (λ j. joined j a b) HalvesApart halves_apart letter_looks

after_looks : (N : Net) (f : Lines → List ℕ → Out Tree) → ((named : Lines) → Looks (f named)) → (named : Lines) → Looks (after_open N f named)
after_looks N f l named =
    then_looks (f named) _ (l named) (λ a.
    then_looks (lit Comma) _ (lit_looks Comma) (λ _.
    then_looks (f (with_lines a named)) _ (l (with_lines a named)) (λ b.
    then_looks (lit Close) _ (lit_looks Close) (λ _.
    join_looks N a b))))

pub subtree_looks : (d : ℕ) (N : Net) (m : ℕ) (named : Lines) → Looks (subtree d N m named)
subtree_looks zero N m named [] = at_end (subtree zero N m named) (bad TreeGrammar []) refl refl
subtree_looks zero N m named (b ∷ s) =
    by_bool (eqb b 40)
    (λ h. record { out = bad TooDeep (40 ∷ s); is = rw h refl; at = λ p. absurd (too_deep p) })
    (λ h. at_like (subtree zero N m named) (leaf_line m named) b s (λ v. rw h refl) (leaf_looks m named (b ∷ s)))
subtree_looks (suc d) N m named [] = at_end (subtree (suc d) N m named) (bad TreeGrammar []) refl refl
subtree_looks (suc d) N m named (b ∷ s) =
    by_bool (eqb b 40)
    (λ h. at_more (subtree (suc d) N m named) (pair d N m named) b s (λ v. rw h refl) (after_looks N (subtree d N m) (subtree_looks d N m) named s))
    (λ h. at_like (subtree (suc d) N m named) (leaf_line m named) b s (λ v. rw h refl) (leaf_looks m named (b ∷ s)))

last_looks : (b : Bool) (t : Tree) → Looks (λ s. cond b (good t s) (bad NotThePlant s))
last_looks true t s = record { out = good t s; is = refl; at = λ _. pure_at t s }
last_looks false t s = record { out = bad NotThePlant s; is = refl; at = λ p. absurd (not_plant p) }

pub whole_looks : (d : ℕ) (N : Net) (n m : ℕ) → Looks (whole d N n m)
whole_looks d N n m =
    then_looks (subtree d N m none_named) _ (subtree_looks d N m none_named) (λ t.
    then_looks (lit Semicolon) _ (lit_looks Semicolon) (λ _.
    then_looks stop _ stop_looks (λ _. last_looks (complete N n m t) t)))
