-- The four rows of a node, one after the other. Assumes nothing.
use Rattle.std.proofs.Common.{◌≡◌, ℕ, ◌+◌, ◌*◌, ◌<◌, ◌≤◌, min, Bool, true, false, ◌≢◌, List, length, get_or, set, Option, ◌∙◌, subst, ⊎_elim, mul-le-mul_right, add-mul, arith, length-set, get_or-set_other, get_or-set_same}
use Rattle.std.proofs.lemmas.Bool.{cases_lt}
use Rattle.plant.specs.declared.records.Station.{Station}
use Rattle.plant.specs.declared.records.Line.{Line}
use Rattle.plant.specs.declared.site.Plant.{Plant}
use Rattle.cells.specs.Inside.{Choice}
use Rattle.cells.specs.Subtrees.{sub}
use Rattle.cells.specs.Tables.{bit, place, memory, most}
use Rattle.cells.specs.Tops.{Tops}
use Rattle.cells.proofs.Filling.{row_before}
use Rattle.filling.specs.Sites.{site, scores, tree, Filled, Known, RowFilled, NodesFilled}
use Rattle.filling.proofs.Standing.{filled_kept}

module _ {F : Type 0} {nil : F} {plus : F → F → F} {above : F → F → Bool} {f : Station → F} {g : Line → F} (p : Plant) where
  pub row_keeps : (x y : List (Option F)) (v : ℕ) (l r : Bool) → length y ≡ length x → RowFilled nil plus above f g p x y v l r → Filled nil plus above f g p x v → Filled nil plus above f g p y v
  row_keeps x y v l r long row filled = filled_kept p x y v l r long row.kept_below filled

  -- a cell of an earlier row of the node stays as it is
  row_stays : (x y : List (Option F)) (v : ℕ) (l r l' r' : Bool) (h : ℕ) → h ≤ p.budget → 2 * bit l + bit r < 2 * bit l' + bit r' → RowFilled nil plus above f g p x y v l' r' → memory (p.budget + 1) y v l r h ≡ memory (p.budget + 1) x v l r h
  row_stays x y v l r l' r' h le lt row = row.kept_below (place (p.budget + 1) v l r h) (row_before (4 * v + 2 * bit l + bit r) (4 * v + 2 * bit l' + bit r') (p.budget + 1) h (omega arith) (omega arith))

  module _ (x0 x1 x2 x3 x4 : List (Option F)) (v : ℕ) (r1 : RowFilled nil plus above f g p x0 x1 v false false) (r2 : RowFilled nil plus above f g p x1 x2 v false true)
      (r3 : RowFilled nil plus above f g p x2 x3 v true false) (r4 : RowFilled nil plus above f g p x3 x4 v true true) where
    here : (l r : Bool) (h : ℕ) → h ≤ p.budget → Tops above (Choice nil plus (site p) (scores f g p) (sub (tree p) v) l r h) (memory (p.budget + 1) x4 v l r h)
    here false false h le =
        rw (row_stays x3 x4 v false false true true h le (omega arith) r4, row_stays x2 x3 v false false true false h le (omega arith) r3, row_stays x1 x2 v false false false true h le (omega arith) r2) (r1.best h le)
    here false true h le = rw (row_stays x3 x4 v false true true true h le (omega arith) r4, row_stays x2 x3 v false true true false h le (omega arith) r3) (r2.best h le)
    here true false h le = rw (row_stays x3 x4 v true false true true h le (omega arith) r4) (r3.best h le)
    here true true h le = r4.best h le

    pub rows_filled : length x1 ≡ length x0 → length x2 ≡ length x1 → length x3 ≡ length x2 → length x4 ≡ length x3 → Filled nil plus above f g p x0 v → NodesFilled nil plus above f g p x0 x4 (v + 1)
    rows_filled l1 l2 l3 l4 filled =
        let all = row_keeps x3 x4 v true true l4 r4 (row_keeps x2 x3 v true false l3 r3 (row_keeps x1 x2 v false true l2 r2 (row_keeps x0 x1 v false false l1 r1 filled))) in
        let w = p.budget + 1 in
        record {
          filled = record {
            room = all.room;
            done = λ u lt l r h le. ⊎_elim (λ less. all.done u less l r h le)
                (λ ge. let e : v ≡ u = omega arith in subst (λ (u : ℕ). Tops above (Choice nil plus (site p) (scores f g p) (sub (tree p) u) l r h) (memory (p.budget + 1) x4 u l r h)) e (here l r h le))
                (cases_lt u v);
          };
          kept_past = λ k past.
              let le1 : 4 * v + 2 * 0 + 0 + 1 ≤ (v + 1) * 4 = omega arith in
              let le2 : 4 * v + 2 * 0 + 1 + 1 ≤ (v + 1) * 4 = omega arith in
              let le3 : 4 * v + 2 * 1 + 0 + 1 ≤ (v + 1) * 4 = omega arith in
              let le4 : 4 * v + 2 * 1 + 1 + 1 ≤ (v + 1) * 4 = omega arith in
              r4.kept_past k (omega (arith, mul-le-mul_right w le4, add-mul (4 * v + 2 * 1 + 1) 1 w))
              ∙ r3.kept_past k (omega (arith, mul-le-mul_right w le3, add-mul (4 * v + 2 * 1 + 0) 1 w))
              ∙ r2.kept_past k (omega (arith, mul-le-mul_right w le2, add-mul (4 * v + 2 * 0 + 1) 1 w))
              ∙ r1.kept_past k (omega (arith, mul-le-mul_right w le1, add-mul (4 * v + 2 * 0 + 0) 1 w));
        }

  pub nodes_more : (x y z : List (Option F)) (v : ℕ) → NodesFilled nil plus above f g p x y v → NodesFilled nil plus above f g p y z (v + 1) → NodesFilled nil plus above f g p x z (v + 1)
  nodes_more x y z v a b = record {
    filled = b.filled;
    kept_past = λ k le. let w = p.budget + 1 in let four : v * 4 ≤ (v + 1) * 4 = omega arith in b.kept_past k le ∙ a.kept_past k (omega (arith, mul-le-mul_right w four));
  }

pub known_more : (p : Plant) (reach : List ℕ) (v x : ℕ) → v < 255 → x ≡ min p.budget (most (site p) (sub (tree p) v)) → Known p reach v → Known p (set reach v x) (v + 1)
known_more p reach v x lt is known = record {
  long = length-set reach v x ∙ known.long;
  is = λ u le. ⊎_elim
      (λ less. let ne : u ≢ v = omega arith in rw get_or-set_other (known.is u less))
      (λ ge. let e : v ≡ u = omega arith in let in_List : v < length reach = omega (arith, known.long) in subst (λ (u : ℕ). get_or (set reach v x) u 0 ≡ min p.budget (most (site p) (sub (tree p) u))) e (rw get_or-set_same is))
      (cases_lt u v);
}
