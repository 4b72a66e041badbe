-- The grammar reads what is written, and nothing else. Assumes nothing.
use Rattle.std.proofs.Common.{◌≡◌, ℕ, zero, suc, ◌+◌, ◌≤◌, max, Bool, true, false, cond, not, ◌&&◌, eqb, ltb, List, [], ◌∷◌, ◌++◌, sym, refl, ap, ◌∙◌, subst, append_assoc, arith}
use Rattle.std.proofs.lemmas.Bool.{eqb-true, and_parts, ltb-true, not-true}
use Rattle.plant.specs.declared.refusal.Reason.TheVariants.{LeafNumber, HalvesApart, NotThePlant}
use Rattle.plant.specs.declared.tree.Join.{Join}
use Rattle.plant.specs.declared.tree.Join.TheVariants.{Series, Parallel}
use Rattle.plant.specs.Trees.{Net, Tree, leaf, Draws}
use Rattle.plant.specs.Nodes.{joined}
use Rattle.drawing.specs.declared.mark.Mark.{Mark}
use Rattle.drawing.specs.declared.mark.Mark.TheVariants.{Comma, Close, Semicolon}
use Rattle.drawing.specs.Marks.{sign, letter_of}
use Rattle.drawing.specs.Grammar.{Out, good, bad, then, lit, letter, stop, number, Lines, with_lines, meet, leaf_line, opened, subtree, complete, none_named, whole}
use Rattle.drawing.specs.Written.{spelled, written, deep}
use Rattle.drawing.proofs.Bytes.{by_bool}
use Rattle.drawing.proofs.Spelling.{clash, same_good, number_good}
use Rattle.drawing.proofs.Building.{Ends, Fits, leaf_fits, joined_fits, fits_draws}

pub record Then {A B : Type 0} (o : Out A) (f : A → List ℕ → Out B) (y : B) (u : List ℕ) : Type 0 where
  pub value : A
  pub mid : List ℕ
  pub first : o ≡ good value mid
  pub next : f value mid ≡ good y u

pub then_good : {A B : Type 0} (o : Out A) (f : A → List ℕ → Out B) (y : B) (u : List ℕ) → then o f ≡ good y u → Then o f y u
then_good (good x s) f y u e = record { value = x; mid = s; first = refl; next = e }
then_good (bad r s) f y u e = clash r s u y e

pub lit_good : (m : Mark) (s : List ℕ) (x : Unit {0}) (u : List ℕ) → lit m s ≡ good x u → s ≡ sign m ∷ u
lit_good m [] x u e = clash _ [] u x e
lit_good m (b ∷ s) x u e =
    by_bool (eqb b (sign m))
    (λ h. let g = rw h at e in let p = eqb-true b (sign m) h in let q = (same_good tt x s u g).1 in cc)
    (λ h. clash _ (b ∷ s) u x (rw h at e))

pub letter_good : (s : List ℕ) (j : Join) (u : List ℕ) → letter s ≡ good j u → s ≡ letter_of j ∷ u
letter_good [] j u e = clash _ [] u j e
letter_good (b ∷ s) j u e =
    by_bool (eqb b 115)
    (λ h. let g = same_good Series j s u (rw h at e) in let p = eqb-true b 115 h in let q : 115 ≡ letter_of j = ap letter_of g.0 in cc)
    (λ h.
    let f = rw h at e in
    by_bool (eqb b 112)
    (λ i. let g = same_good Parallel j s u (rw i at f) in let p = eqb-true b 112 i in let q : 112 ≡ letter_of j = ap letter_of g.0 in cc)
    (λ i. clash _ (b ∷ s) u j (rw i at f)))

pub stop_good : (s : List ℕ) (x : Unit {0}) (u : List ℕ) → stop s ≡ good x u → (s ≡ []) × (u ≡ [])
stop_good [] x u e = (refl, sym (same_good tt x [] u e).1)
stop_good (b ∷ s) x u e = clash _ (b ∷ s) u x e

-- a test that was passed
cond-good : {A : Type 0} (b : Bool) (x y : A) (s u v : List ℕ) → (r : _) → cond b (good x s) (bad r v) ≡ good y u → (b ≡ true) × (x ≡ y) × (s ≡ u)
cond-good true x y s u v r e = let g = same_good x y s u e in (refl, g.0, g.1)
cond-good false x y s u v r e = clash r v u y e

-- what a subtree's text says of the tree that is read from it
pub record Said (N : Net) (m d : ℕ) (named : Lines) (s : List ℕ) (t : Tree) (u : List ℕ) : Type 0 where
  pub text : s ≡ written t ++ u
  pub depth : deep t ≤ d
  pub fits : Fits N m named t

pub written_joined : (s m₁ m₂ m₃ m₄ u : List ℕ) (j : Join) (a b : Tree) → s ≡ written a ++ m₁ → m₁ ≡ 44 ∷ m₂ → m₂ ≡ written b ++ m₃ → m₃ ≡ 41 ∷ m₄ → m₄ ≡ letter_of j ∷ u → 40 ∷ s ≡ written (joined j a b) ++ u
unfolding written
written_joined s m₁ m₂ m₃ m₄ u Series a b p q r v w = simp append_assoc (rw (p, q, r, v, w) refl)
written_joined s m₁ m₂ m₃ m₄ u Parallel a b p q r v w = simp append_assoc (rw (p, q, r, v, w) refl)

pub deep_joined : (j : Join) (a b : Tree) → deep (joined j a b) ≡ max (deep a) (deep b) + 1
deep_joined Series a b = refl
deep_joined Parallel a b = refl

module _ (N : Net) (n m : ℕ) (ends : Ends N n m) (few : n ≤ 64) where
  leaf_said : (d : ℕ) (named : Lines) (s : List ℕ) (t : Tree) (u : List ℕ) → leaf_line m named s ≡ good t u → Said N m d named s t u
  unfolding written
  leaf_said d named s t u e =
      let a = then_good (number s) _ t u e in
      let k = a.value in
      let g = cond-good (ltb k m && not (named k)) (leaf k) t a.mid u s LeafNumber a.next in
      let p = and_parts (ltb k m) _ g.0 in
      subst (λ x. Said N m d named s x u) g.1 (record {
        text = number_good s k a.mid a.first ∙ ap (λ x. spelled k ++ x) g.2;
        depth = omega arith;
        fits = leaf_fits N n m k named ends (ltb-true k m p.0) (not-true (named k) p.1);
      })

  head_said : (d : ℕ) → ((named : Lines) (s : List ℕ) (t : Tree) (u : List ℕ) → opened d N m named s ≡ good t u → Said N m d named (40 ∷ s) t u) → (named : Lines) (s : List ℕ) (t : Tree) (u : List ℕ) → subtree d N m named s ≡ good t u → Said N m d named s t u
  head_said d f named [] t u e = clash _ [] u t e
  head_said d f named (b ∷ s) t u e =
      by_bool (eqb b 40)
      (λ h. let P : ℕ → Type 0 = λ x. Said N m d named (x ∷ s) t u in subst P (sym (eqb-true b 40 h)) (f named s t u (rw h at e)))
      (λ h. leaf_said d named (b ∷ s) t u (rw h at e))

  opened_said : (d : ℕ) (named : Lines) (s : List ℕ) (t : Tree) (u : List ℕ) → opened d N m named s ≡ good t u → Said N m d named (40 ∷ s) t u
  opened_said zero named s t u e = clash _ (40 ∷ s) u t e
  opened_said (suc d) named s t u e =
      let a = then_good _ _ t u e in
      let p = then_good _ _ t u a.next in
      let b = then_good _ _ t u p.next in
      let q = then_good _ _ t u b.next in
      let l = then_good _ _ t u q.next in
      let first = head_said d (opened_said d) named s a.value a.mid a.first in
      let second = head_said d (opened_said d) (with_lines a.value named) p.mid b.value b.mid b.first in
      let comma = lit_good Comma a.mid p.value p.mid p.first in
      let close = lit_good Close b.mid q.value q.mid q.first in
      let letters = letter_good q.mid l.value l.mid l.first in
      let g = cond-good (meet N l.value a.value b.value) (joined l.value a.value b.value) t l.mid u q.mid HalvesApart l.next in
      subst (λ x. Said N m (suc d) named (40 ∷ s) x u) g.1 (record {
        text = written_joined s a.mid p.mid b.mid q.mid u l.value a.value b.value first.text comma second.text close (letters ∙ ap (λ x. letter_of l.value ∷ x) g.2);
        depth = omega (arith, deep_joined l.value a.value b.value, first.depth, second.depth);
        fits = joined_fits N n m l.value a.value b.value named ends few first.fits second.fits g.0;
      })

  pub said : (d : ℕ) (named : Lines) (s : List ℕ) (t : Tree) (u : List ℕ) → subtree d N m named s ≡ good t u → Said N m d named s t u
  said d = head_said d (opened_said d)

  -- a text that is accepted is the writing of a tree that draws the plant
  pub record DrawnBy (d : ℕ) (s : List ℕ) (t : Tree) : Type 0 where
    pub text : s ≡ written t ++ 59 ∷ []
    pub depth : deep t ≤ d
    pub draws : Draws N n m t

  pub whole_said : (d : ℕ) (s : List ℕ) (t : Tree) (u : List ℕ) → whole d N n m s ≡ good t u → DrawnBy d s t
  whole_said d s t u e =
      let a = then_good _ _ t u e in
      let p = then_good _ _ t u a.next in
      let q = then_good _ _ t u p.next in
      let w = said d none_named s a.value a.mid a.first in
      let semi = lit_good Semicolon a.mid p.value p.mid p.first in
      let end = stop_good p.mid q.value q.mid q.first in
      let g = cond-good (complete N n m a.value) a.value t q.mid u q.mid NotThePlant q.next in
      subst (λ x. DrawnBy d s x) g.1 (record {
        text = w.text ∙ ap (λ x. written a.value ++ x) (semi ∙ ap (λ x. 59 ∷ x) end.0);
        depth = w.depth;
        draws = fits_draws N n m none_named a.value ends w.fits g.0;
      })
