-- A sketch is begun, and grows by a join. Assumes nothing.
use Rattle.std.proofs.Common.{◌≡◌, ℕ, zero, suc, ◌+◌, ◌≤◌, Bool, false, ◌||◌, List, [], ◌∷◌, ◌++◌, length, get_or, replicate, Some, None, Option, sym, refl, ap, ◌∙◌, subst, ⊎_elim, append_assoc, arith}
use Rattle.std.proofs.lemmas.List.{same_from_push, get_or-replicate, length-replicate, get_or_past}
use Rattle.std.proofs.lemmas.Bool.{cases_lt}
use Rattle.plant.specs.declared.tree.Join.{Join}
use Rattle.plant.specs.declared.tree.Shape.TheVariants as S
use Rattle.plant.specs.Held.{room, Popped}
use Rattle.plant.specs.Tables.{listed}
use Rattle.drawing.specs.declared.half.Half.{Half}
use Rattle.drawing.specs.declared.sketch.Sketch.{Sketch}
use Rattle.drawing.specs.Halves.{Meet, marks, tally}
use Rattle.drawing.specs.Sketches.{done, waiting, Grown, joint, Blank}

pub popped_some : {T : Type 0} (r : Option T) (x : T) (l m : List T) → r ≡ Some x → Popped r l m → l ≡ m ++ x ∷ []
popped_some None x l m e p = let z : ◌≡◌ {A = ℕ} 0 1 = cc in absurd (omega arith)
popped_some (Some y) x l m e p = let is : y ≡ x = cc in p ∙ ap (λ z. m ++ z ∷ []) is

-- the two halves on top
pub record Two (h hs : List Half) (a b x y : Half) : Type 0 where
  pub first : a ≡ x
  pub second : b ≡ y
  pub under : h ≡ hs

pub two : (l m h hs : List Half) (a b x y : Half) → l ≡ m ++ b ∷ [] → m ≡ h ++ a ∷ [] → l ≡ hs ++ x ∷ y ∷ [] → Two h hs a b x y
two l m h hs a b x y p q e =
    let top = same_from_push m (hs ++ x ∷ []) b y (sym p ∙ e ∙ sym (append_assoc hs (x ∷ []) (y ∷ []))) in
    let next = same_from_push h hs a x (sym q ∙ top.0) in
    record { first = next.1; second = top.1; under = next.0 }

pub meet_same : (j : Join) (a b x y : Half) → a ≡ x → b ≡ y → Meet j a b → Meet j x y
meet_same j a b x y p q m = subst (λ z. Meet j x z) q (subst (λ z. Meet j z b) p m)

-- a join of the two on top
pub join_grown : (j : Join) (before after : Sketch) (mid : Sketch) (n : ℕ) (st : List Bool) (a b x y : Half) (hs : List Half) → mid.lines ≡ before.lines → mid.named ≡ before.named → mid.nodes ≡ before.nodes → n ≡ done before → Two (waiting mid) hs a b x y → room mid.halves ≡ room before.halves → st ≡ marks (λ i. get_or a.stations i false || get_or b.stations i false) → Grown (S.Join j a.node b.node) (record { node = n; left = a.left; right = b.right; stations = st }) (waiting mid) mid after → Grown (S.Join j x.node y.node) (joint (done before) x y) hs before after
join_grown j before after mid n st a b x y hs lines named nodes at w r e g =
    let h : record { node = n; left = a.left; right = b.right; stations = st } ≡ joint (done before) x y =
    (λ i. record { node = at i; left = a.left; right = b.right; stations = e i }) ∙ (λ i. joint (done before) (w.first i) (w.second i)) in
    record {
      lines = g.lines ∙ lines;
      named = g.named ∙ named;
      nodes = g.nodes ∙ (λ i. listed (nodes i) ++ record { shape = S.Join j (w.first i).node (w.second i).node; left = (w.first i).left; right = (w.second i).right } ∷ []);
      halves = g.halves ∙ (λ i. w.under i ++ h i ∷ []);
      count = g.count ∙ ap (λ v. length (listed v) + 1) nodes;
      room = g.room ∙ r;
    }

-- ---- nothing is read yet

unmarked : (n k : ℕ) → get_or (replicate n false) k false ≡ false
unmarked n k = ⊎_elim (λ lt. get_or-replicate n k false false lt) (λ ge. let e : length (replicate n false) ≤ k = omega (arith, length-replicate n false) in get_or_past (replicate n false) k false e) (cases_lt k n)

tally_none : (n : ℕ) → tally (replicate n false) ≡ 0
tally_none zero = refl
tally_none (suc n) = tally_none n

pub blank_new : (s : Sketch) → s.named ≡ replicate 128 false → listed s.nodes ≡ [] → waiting s ≡ [] → room s.halves ≡ 128 → Blank s
blank_new s named none empty roomy = record {
  unnamed = λ k. ap (λ l. get_or l k false) named ∙ unmarked 128 k;
  none_done = ap length none;
  none_waiting = empty;
  roomy = roomy;
  counted = omega (arith, ap length none, ap length empty, ap tally named ∙ tally_none 128);
}
