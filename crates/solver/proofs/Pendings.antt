-- One step of the trace keeps what stands. Assumes nothing.
use Rattle.std.proofs.Common.{◌≡◌, ℕ, ◌+◌, ◌≤◌, Bool, true, false, ◌⊎◌, List, [], ◌∷◌, ◌++◌, length, get_or, Option, sym, refl, ◌∙◌, subst, inl, inr, ⊎_elim, arith}
use Rattle.std.proofs.lemmas.Bool.{cases_Bool, both_ways}
use Rattle.plant.specs.declared.records.Station.{Station}
use Rattle.plant.specs.declared.records.Line.{Line}
use Rattle.plant.specs.declared.site.Plant.{Plant}
use Rattle.plant.specs.Selections.{Selection}
use Rattle.plant.specs.Trees.{Tree, leaf, series, parallel, left, right, inner, station_of}
use Rattle.cells.specs.Subtrees.{leaves}
use Rattle.cells.specs.Tables.{memory}
use Rattle.cells.specs.Traces.{Traces}
use Rattle.cells.proofs.Pieces.{left_on, right_on}
use Rattle.joins.specs.declared.cell.Spot.{Spot}
use Rattle.solver.specs.Pending.{In, load, tree_at, leaves_at, Clear, Apart, Traced, Entry, Pending}
use Rattle.filling.specs.Sites.{site, scores}

-- ---- one more at the end

pub in_old : (e y : Spot) (xs : List Spot) → In e xs → In e (xs ++ y ∷ [])
in_old e y [] i = absurd i
in_old e y (x ∷ xs) i = ⊎_elim (λ is. inl is) (λ r. inr (in_old e y xs r)) i

pub in_new : (y : Spot) (xs : List Spot) → In y (xs ++ y ∷ [])
in_new y [] = inl refl
in_new y (x ∷ xs) = inr (in_new y xs)

pub in_cases : (e y : Spot) (xs : List Spot) → In e (xs ++ y ∷ []) → In e xs ⊎ (e ≡ y)
in_cases e y [] i = ⊎_elim (λ is. inr is) (λ r. absurd r) i
in_cases e y (x ∷ xs) i = ⊎_elim (λ is. inl (inl is)) (λ r. ⊎_elim (λ old. inl (inr old)) (λ is. inr is) (in_cases e y xs r)) i

pub load_more : (w : Spot → ℕ) (xs : List Spot) (y : Spot) → load w (xs ++ y ∷ []) ≡ load w xs + w y
load_more w [] y = omega arith
load_more w (x ∷ xs) y = omega (arith, load_more w xs y)

pub leaves_pos : (t : Tree) → 1 ≤ leaves t
leaves_pos (leaf k) = omega arith
leaves_pos (series a b) = omega (arith, leaves_pos a)
leaves_pos (parallel a b) = omega (arith, leaves_pos a)

-- each cell to be traced has a leaf of its own
pub stack_short : (p : Plant) (xs : List Spot) → length xs ≤ load (leaves_at p) xs
stack_short p [] = omega arith
stack_short p (x ∷ xs) = omega (arith, stack_short p xs, leaves_pos (tree_at p x))

module _ (p : Plant) where
  apart_init : (xs : List Spot) (y : Spot) → Apart p (xs ++ y ∷ []) → Apart p xs
  apart_init [] y h = tt
  apart_init (x ∷ xs) y h = ((λ e i. h.0 e (in_old e y xs i)), apart_init xs y h.1)

  apart_last : (xs : List Spot) (y : Spot) → Apart p (xs ++ y ∷ []) → (e : Spot) → In e xs → Clear p e y × Clear p y e
  apart_last [] y h e i = absurd i
  apart_last (x ∷ xs) y h e i = ⊎_elim
      (λ is. subst (λ (e : Spot). Clear p e y × Clear p y e) (sym is) (h.0 y (in_new y xs)))
      (λ r. apart_last xs y h.1 e r) i

  apart_more : (xs : List Spot) (y : Spot) → Apart p xs → ((e : Spot) → In e xs → Clear p e y × Clear p y e) → Apart p (xs ++ y ∷ [])
  apart_more [] y h all = ((λ e i. absurd i), tt)
  apart_more (x ∷ xs) y h all = (
    (λ e i. ⊎_elim (λ old. h.0 e old) (λ is. subst (λ (e : Spot). Clear p x e × Clear p e x) (sym is) (all x (inl refl))) (in_cases e y xs i)),
    apart_more xs y h.1 (λ e i. all e (inr i)),
  )

not_so : (b : Bool) → (b ≡ true → ⊥) → b ≡ false
not_so b f = ⊎_elim (λ e. absurd (f e)) (λ e. e) (cases_Bool b)

not_both : (b c : Bool) → (b ≡ true → c ≡ true) → c ≡ false → b ≡ false
not_both b c to e = not_so b (λ f. both_ways c e (to f))

module _ {F : Type 0} (nil : F) (plus : F → F → F) (f : Station → F) (g : Line → F) (p : Plant) (cells : List (Option F)) (top : Spot) where
  abbrev Inner : Spot → ℕ → Bool
  Inner e i = inner (site p).net (tree_at p e) i

  abbrev On : Spot → ℕ → Bool
  On e i = station_of (site p).net (tree_at p e) i

  entry_kept : (marks marks' : List Bool) (e : Spot) → get_or marks' (left (site p).net (tree_at p e)) false ≡ get_or marks (left (site p).net (tree_at p e)) false
      → get_or marks' (right (site p).net (tree_at p e)) false ≡ get_or marks (right (site p).net (tree_at p e)) false → Entry p cells marks e → Entry p cells marks' e
  entry_kept marks marks' e el er h = record { within = h.within; hours = h.hours; goal = h.goal; holds = h.holds; at_left = el ∙ h.at_left; at_right = er ∙ h.at_right }

  -- a join makes way for its halves
  pub pending_join : (xs : List Spot) (x one two : Spot) (marks marks' : List Bool) → Pending nil plus f g p cells top (xs ++ x ∷ []) marks
      → ((i : ℕ) → Inner one i ≡ true → Inner x i ≡ true) → ((i : ℕ) → Inner two i ≡ true → Inner x i ≡ true)
      → ((i : ℕ) → On one i ≡ true → On x i ≡ true) → ((i : ℕ) → On two i ≡ true → On x i ≡ true)
      → Clear p one two → Clear p two one
      → ((i : ℕ) → Inner x i ≡ false → get_or marks' i false ≡ get_or marks i false)
      → Entry p cells marks' one → Entry p cells marks' two
      → ((S : Selection) → Traced nil plus f g p cells one S → Traced nil plus f g p cells two S → ((i : ℕ) → On x i ≡ true → Inner one i ≡ false → Inner two i ≡ false → S i ≡ get_or marks' i false) → Traced nil plus f g p cells x S)
      → leaves_at p x ≡ leaves_at p one + leaves_at p two → length marks' ≡ 64 → Pending nil plus f g p cells top ((xs ++ two ∷ []) ++ one ∷ []) marks'
  pending_join xs x one two marks marks' old in_one in_two on_one on_two clear12 clear21 kept entry_one entry_two traced count wide =
      let rest = apart_init p xs x old.apart in
      let from_x = apart_last p xs x old.apart in
      let old_clear : (e : Spot) → In e xs → (i : ℕ) → On e i ≡ true → Inner x i ≡ false = λ e i_xs i on. not_so (Inner x i) ((from_x e i_xs).0 i on) in
      record {
        wide = wide;
        each = λ e i. ⊎_elim
            (λ i2. ⊎_elim
            (λ i_xs. entry_kept marks marks' e
            (kept _ (old_clear e i_xs _ (left_on (site p).net (tree_at p e)))) (kept _ (old_clear e i_xs _ (right_on (site p).net (tree_at p e)))) (old.each e (in_old e x xs i_xs)))
            (λ is. subst (Entry p cells marks') (sym is) entry_two)
            (in_cases e two xs i2))
            (λ is. subst (Entry p cells marks') (sym is) entry_one)
            (in_cases e one (xs ++ two ∷ []) i);
        apart = apart_more p (xs ++ two ∷ []) one
            (apart_more p xs two rest (λ e i. ((λ k on inn. (from_x e i).0 k on (in_two k inn)), (λ k on inn. (from_x e i).1 k (on_two k on) inn))))
            (λ e i. ⊎_elim
            (λ i_xs. ((λ k on inn. (from_x e i_xs).0 k on (in_one k inn)), (λ k on inn. (from_x e i_xs).1 k (on_one k on) inn)))
            (λ is. subst (λ (e : Spot). Clear p e one × Clear p one e) (sym is) (clear21, clear12))
            (in_cases e two xs i));
        complete = λ S traces agrees.
            let t1 = traces one (in_new one (xs ++ two ∷ [])) in
            let t2 = traces two (in_old two one (xs ++ two ∷ []) (in_new two xs)) in
            let agree_x : (i : ℕ) → On x i ≡ true → Inner one i ≡ false → Inner two i ≡ false → S i ≡ get_or marks' i false = λ i on n1 n2. agrees i (λ e ie. ⊎_elim
            (λ i2. ⊎_elim (λ i_xs. not_so (Inner e i) ((from_x e i_xs).1 i on)) (λ is. subst (λ (e : Spot). Inner e i ≡ false) (sym is) n2) (in_cases e two xs i2))
            (λ is. subst (λ (e : Spot). Inner e i ≡ false) (sym is) n1)
            (in_cases e one (xs ++ two ∷ []) ie)) in
            old.complete S
            (λ e ie. ⊎_elim
            (λ i_xs. traces e (in_old e one (xs ++ two ∷ []) (in_old e two xs i_xs)))
            (λ is. subst (λ (e : Spot). Traced nil plus f g p cells e S) (sym is) (traced S t1 t2 agree_x))
            (in_cases e x xs ie))
            (λ i outside.
            let nx = outside x (in_new x xs) in
            let n1 = not_both (Inner one i) (Inner x i) (in_one i) nx in
            let n2 = not_both (Inner two i) (Inner x i) (in_two i) nx in
            agrees i (λ e ie. ⊎_elim
            (λ i2. ⊎_elim (λ i_xs. outside e (in_old e x xs i_xs)) (λ is. subst (λ (e : Spot). Inner e i ≡ false) (sym is) n2) (in_cases e two xs i2))
            (λ is. subst (λ (e : Spot). Inner e i ≡ false) (sym is) n1)
            (in_cases e one (xs ++ two ∷ []) ie)) ∙ kept i nx);
        light = omega (arith, old.light, load_more (leaves_at p) xs x, load_more (leaves_at p) xs two, load_more (leaves_at p) (xs ++ two ∷ []) one);
      }

  -- a leaf is done
  pub pending_leaf : (xs : List Spot) (x : Spot) (marks : List Bool) (k : ℕ) → Pending nil plus f g p cells top (xs ++ x ∷ []) marks → tree_at p x ≡ leaf k → x.hours ≡ 0 → Pending nil plus f g p cells top xs marks
  pending_leaf xs x marks k old is none =
      let from_x = apart_last p xs x old.apart in
      let here = old.each x (in_new x xs) in
      record {
        wide = old.wide;
        each = λ e i. old.each e (in_old e x xs i);
        apart = apart_init p xs x old.apart;
        complete = λ S traces agrees.
            let at : (i : ℕ) → On x i ≡ true → S i ≡ get_or marks i false = λ i on. agrees i (λ e ie. not_so (Inner e i) ((from_x e ie).1 i on)) in
            let l = at _ (left_on (site p).net (tree_at p x)) ∙ here.at_left in
            let r = at _ (right_on (site p).net (tree_at p x)) ∙ here.at_right in
            let lk : S ((site p).net.from k) ≡ x.left = subst (λ (t : Tree). S (left (site p).net t) ≡ x.left) is l in
            let rk : S ((site p).net.to k) ≡ x.right = subst (λ (t : Tree). S (right (site p).net t) ≡ x.right) is r in
            old.complete S
            (λ e ie. ⊎_elim
            (λ i_xs. traces e i_xs)
            (λ same. subst (λ (e : Spot). Traced nil plus f g p cells e S) (sym same)
            (subst (λ (t : Tree). Traces nil plus (site p) (scores f g p) (memory (p.budget + 1) cells) x.node t x.left x.right x.hours S) (sym is) (lk, rk, none)))
            (in_cases e x xs ie))
            (λ i outside. agrees i (λ e ie. outside e (in_old e x xs ie)));
        light = omega (arith, old.light, load_more (leaves_at p) xs x);
      }

  -- before the first step, and after the last
  pub pending_start : (marks : List Bool) → length marks ≡ 64 → Entry p cells marks top → leaves_at p top ≤ 128 → Pending nil plus f g p cells top (top ∷ []) marks
  pending_start marks wide entry few = record {
    wide = wide;
    each = λ e i. ⊎_elim (λ is. subst (Entry p cells marks) (sym is) entry) (λ r. absurd r) i;
    apart = ((λ e i. absurd i), tt);
    complete = λ S traces agrees. traces top (inl refl);
    light = omega arith;
  }
