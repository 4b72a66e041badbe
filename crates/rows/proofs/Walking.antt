-- How the reading of a text goes on after its first records.
use Rattle.std.proofs.Common.{◌≡◌, ℕ, ◌+◌, ◌-◌, ◌<◌, ◌≤◌, ◌⊎◌, List, [], ◌∷◌, ◌++◌, map, length, take, drop, sym, refl, ap, ◌∙◌, subst, inl, inr, ⊎_elim, append_assoc, arith}
use Rattle.std.specs.List.{AllByRecursion}
use Rattle.std.proofs.ByRecursion.{All-append, All-push}
use Rattle.std.proofs.lemmas.List.{length-append, take-take, take-append-drop}
use Rattle.std.proofs.lemmas.Bool.{cases_order}
use Rattle.tables.specs.Laws.{parts, told, meaning, Reading, StuckAt, Refused}
use Rattle.tables.specs.Machine.{Told, done, stuck, row, whole, again}
use Rattle.tables.specs.Written as W
use Rattle.tables.proofs.Complete.{complete, means, reads, refused_at, onto, lines_whole}
use Rattle.tables.proofs.Sweep.{lines_push}
use Rattle.rows.specs.Faults.{After, Next}
use Rattle.rows.specs.Written.{meant}

-- ---- from the parts of a record to what its fields mean

means_all : (fs : List W.Field) → AllByRecursion W.Allowed fs → map meaning (map W.bytes fs) ≡ map W.contents fs
means_all [] h = refl
means_all (f ∷ fs) h = λ k. means f h.0 k ∷ means_all fs h.1 k

pub meant_is : (r : W.Row) → W.Proper r → map meaning (parts r) ≡ meant r
meant_is r h = means_all (W.fields r) (All-append W.Allowed r.front (r.last ∷ []) h.front (h.last, tt))

pub proper_rows : (t : W.Table) → W.Whole t → AllByRecursion W.Proper (W.rows t)
proper_rows (W.ended rs) h = h.0
proper_rows (W.cut rs r) h = All-append W.Proper rs (r ∷ []) h.0 (h.1, tt)

some_rows : (t : W.Table) → W.Whole t → 0 < length (W.rows t)
some_rows (W.ended rs) h = h.1
some_rows (W.cut rs r) h = omega (arith, length-append rs (r ∷ []))

-- ---- the next record

-- a record that is there is told
pub next_told : (rest : List ℕ) (r : W.Row) → Next rest r → (t : Told) × (whole rest ≡ row (parts r) t)
next_told rest r n =
    ⊎_elim
    (λ x. (again x.0, ap whole x.1 ∙ lines_whole r [] (n.proper, tt) x.0))
    (λ e. (done, ap whole e ∙ complete (W.cut [] r) (tt, n.proper, inl refl)))
    n.there

-- where a record is told, it is there, and what is told after it is told of the rest
pub record Found (rest : List ℕ) (ps : List (List ℕ)) (t : Told) : Type 0 where
  pub this : W.Row
  pub next : Next rest this
  pub is : ps ≡ parts this
  pub left : ((v : List ℕ) × (rest ≡ W.lines (this ∷ []) ++ v) × (t ≡ again v)) ⊎ ((rest ≡ W.line this) × (t ≡ done))

pub told_next : (rest : List ℕ) (ps : List (List ℕ)) (t : Told) → whole rest ≡ row ps t → Found rest ps t
told_next rest ps t e =
    let o : Reading rest [] (row ps t) = subst (Reading rest []) e (reads rest) in
    let r = o.0 in
    record {
      this = r;
      next = record { proper = o.1; there = o.3 };
      is = o.2;
      left = ⊎_elim
          (λ x. let both = sym e ∙ ap whole x.1 ∙ lines_whole r [] (o.1, tt) x.0 in let left : t ≡ again x.0 = cc in inl (x.0, x.1, left))
          (λ x. let both = sym e ∙ ap whole x ∙ complete (W.cut [] r) (tt, o.1, inl refl) in let left : t ≡ done = cc in inr (x, left))
          o.3;
    }

-- a text has a record
pub not_over : (s : List ℕ) → whole s ≡ done → ⊥
not_over s e = let o : Reading s [] done = subst (Reading s []) e (reads s) in omega (arith, ap length o.3, some_rows o.0 o.1)

pub over_rest : (rest : List ℕ) → again rest ≡ done → rest ≡ []
over_rest [] e = refl
over_rest (b ∷ s) e = absurd (not_over (b ∷ s) e)

pub stuck_rest : (rest q : List ℕ) → again rest ≡ stuck q → whole rest ≡ stuck q
stuck_rest [] q e = cc
stuck_rest (b ∷ s) q e = e

pub row_rest : (rest : List ℕ) (ps : List (List ℕ)) (t : Told) → again rest ≡ row ps t → (whole rest ≡ row ps t) × (0 < length rest)
row_rest [] ps t e = cc
row_rest (b ∷ s) ps t e = (e, omega arith)

-- where the reading is stuck, no record is
pub no_next : (rest q : List ℕ) → whole rest ≡ stuck q → (r : W.Row) → Next rest r → ⊥
no_next rest q e r n = let f = next_told rest r n in let g : stuck q ≡ row (parts r) f.0 = sym e ∙ f.1 in cc

-- ---- the records before it

pub after_whole : (s : List ℕ) (before : List W.Row) (rest : List ℕ) → After s before rest → 0 < length before → whole s ≡ onto (map parts before) (again rest)
after_whole s [] rest w some = absurd (omega arith)
after_whole s (r ∷ rs) rest w some = ap whole w.split ∙ lines_whole r rs w.proper rest

pub after_next : (s : List ℕ) (before : List W.Row) (rest : List ℕ) (r : W.Row) (v : List ℕ) → After s before rest → W.Proper r → rest ≡ W.lines (r ∷ []) ++ v → After s (before ++ r ∷ []) v
after_next s before rest r v w p e =
    record {
      proper = All-push W.Proper before r w.proper p;
      split = w.split ∙ ap (λ l. W.lines before ++ l) e ∙ sym (append_assoc (W.lines before) (W.lines (r ∷ [])) v) ∙ ap (λ l. l ++ v) (sym (lines_push before r));
    }

pub told_onto : (pss : List (List (List ℕ))) → told pss ≡ onto pss done
told_onto [] = refl
told_onto (ps ∷ pss) = ap (λ t. row ps t) (told_onto pss)

stuck_onto : (pss : List (List (List ℕ))) (q : List ℕ) → StuckAt (onto pss (stuck q)) q
stuck_onto [] q = refl
stuck_onto (ps ∷ pss) q = stuck_onto pss q

-- the fault where the reading is stuck after these records
pub stuck_after : (s : List ℕ) (pss : List (List (List ℕ))) (q : List ℕ) → whole s ≡ onto pss (stuck q) → Refused s (length s - length q)
stuck_after s pss q e = refused_at s q (subst (λ t. StuckAt t q) (sym e) (stuck_onto pss q))

-- a text has one fault of the grammar
earlier : (s : List ℕ) (p q : ℕ) → Refused s p → Refused s q → p < q → ⊥
earlier s p q a b lt =
    let v = b.viable in
    let within = b.within in
    let inside : p < length s = omega arith in
    let le : p + 1 ≤ q = omega arith in
    let same : take (p + 1) s ++ (drop (p + 1) (take q s) ++ v.0) ≡ take q s ++ v.0 = sym (append_assoc (take (p + 1) s) (drop (p + 1) (take q s)) v.0) ∙ ap (λ l. (l ++ drop (p + 1) (take q s)) ++ v.0) (sym (take-take (p + 1) q s le)) ∙ ap (λ l. l ++ v.0) (take-append-drop (p + 1) (take q s)) in
    a.hopeless (drop (p + 1) (take q s) ++ v.0) v.1 inside v.2 (same ∙ v.3)

pub refused_once : (s : List ℕ) (p q : ℕ) → Refused s p → Refused s q → p ≡ q
refused_once s p q a b = ⊎_elim (λ e. e) (λ o. ⊎_elim (λ lt. absurd (earlier s p q a b lt)) (λ lt. absurd (earlier s q p b a lt)) o) (cases_order p q)
