-- A field stands for a value exactly when it is the writing of that value.
use Rattle.std.proofs.Common.{◌≡◌, ℕ, ◌<◌, ◌≤◌, Bool, true, false, eqb, ltb, leb, ◌⊎◌, List, [], map, length, get_or, ℤ, pos, negsuc, nat_abs, Some, None, Err, codes, Option, Result, sym, refl, ap, ◌∙◌, subst, inl, ⊎_elim, arith}
use Rattle.std.specs.Str.{bytes_eq}
use Rattle.std.proofs.lemmas.Slice.Eq.{bytes_eq-Decides}
use Rattle.std.proofs.lemmas.List.{get_or-map}
use Rattle.std.proofs.lemmas.Bool.{cases_Bool, eqb-true, le-leb, leb-true, lt-ltb, ltb-true}
use Rattle.plant.specs.declared.records.Hold.{Hold}
use Rattle.plant.specs.declared.records.Hold.TheVariants as H
use Rattle.plant.specs.declared.refusal.Reason.{Reason}
use Rattle.plant.specs.declared.refusal.Reason.TheVariants as R
use Rattle.tables.specs.Laws.{meaning}
use Rattle.tables.specs.Numerals.{spelled, spelledℤ, numeral, signed_by}
use Rattle.tables.proofs.Spelling.{spelled_law}
use Rattle.rows.specs.Fields.{limited, limitedℤ, marked, hold_from, need, field}
use Rattle.rows.specs.Written.{word, mark}

-- a need is not met, or all after it is in question
pub need_cases : {A B P : Type 0} (o : Option A) (f : A → Result B Reason) → ((x : A) → o ≡ Some x → (f x ≡ Err R.FieldForm) ⊎ P) → (need o f ≡ Err R.FieldForm) ⊎ P
need_cases None f h = inl refl
need_cases (Some x) f h = h x refl

-- the i-th part means the i-th of the meanings
pub field_is : (ps xs : List (List ℕ)) (i : ℕ) → map meaning ps ≡ xs → i < length ps → field ps i ≡ get_or xs i []
field_is ps xs i h lt = sym (get_or-map meaning ps i [] [] lt) ∙ ap (λ l. get_or l i []) h

-- ---- what is read is written so

limited_some : (most : ℕ) (o : Option ℕ) (n : ℕ) → limited most o ≡ Some n → (o ≡ Some n) × (n ≤ most)
limited_some most None n e = cc
limited_some most (Some m) n e =
    ⊎_elim
    (λ h. let is = rw h at e in let q : m ≡ n = cc in let l = leb-true m most h in (ap {B = Option ℕ} (λ x. Some x) q, omega arith))
    (λ h. let no = rw h at e in cc)
    (cases_Bool (leb m most))

limitedℤ_some : (o : Option ℤ) (z : ℤ) → limitedℤ o ≡ Some z → (o ≡ Some z) × (nat_abs z ≤ 1000000000)
limitedℤ_some None z e = cc
limitedℤ_some (Some (pos n)) z e =
    ⊎_elim
    (λ h. let is = rw h at e in let q : pos n ≡ z = cc in (ap {B = Option ℤ} (λ x. Some x) q, subst (λ (x : ℤ). nat_abs x ≤ 1000000000) q (leb-true n 1000000000 h)))
    (λ h. let no = rw h at e in cc)
    (cases_Bool (leb n 1000000000))
limitedℤ_some (Some (negsuc n)) z e =
    ⊎_elim
    (λ h. let is = rw h at e in let q : negsuc n ≡ z = cc in (ap {B = Option ℤ} (λ x. Some x) q, subst (λ (x : ℤ). nat_abs x ≤ 1000000000) q (ltb-true n 1000000000 h)))
    (λ h. let no = rw h at e in cc)
    (cases_Bool (ltb n 1000000000))

marked_some : (o : Option ℕ) (u : Bool) → marked o ≡ Some u → o ≡ Some (mark u)
marked_some None u e = cc
marked_some (Some n) u e =
    ⊎_elim
    (λ h. let is = rw h at e in let q : false ≡ u = cc in ap {B = Option ℕ} (λ x. Some x) (eqb-true n 0 h ∙ ap mark q))
    (λ h.
    let f = rw h at e in
    ⊎_elim
    (λ g. let is = rw g at f in let q : true ≡ u = cc in ap {B = Option ℕ} (λ x. Some x) (eqb-true n 1 g ∙ ap mark q))
    (λ g. let no = rw g at f in cc)
    (cases_Bool (eqb n 1)))
    (cases_Bool (eqb n 0))

pub hold_read : (w : List ℕ) (o : Hold) → hold_from w ≡ Some o → w ≡ word o
hold_read w o e =
    ⊎_elim
    (λ h. let is = rw h at e in let q : H.Free ≡ o = cc in (bytes_eq-Decides w (codes "free")).0 h ∙ ap word q)
    (λ h.
    let f = rw h at e in
    ⊎_elim
    (λ g. let is = rw g at f in let q : H.Open ≡ o = cc in (bytes_eq-Decides w (codes "open")).0 g ∙ ap word q)
    (λ g.
    let k = rw g at f in
    ⊎_elim
    (λ j. let is = rw j at k in let q : H.Shut ≡ o = cc in (bytes_eq-Decides w (codes "shut")).0 j ∙ ap word q)
    (λ j. let no = rw j at k in cc)
    (cases_Bool (bytes_eq w (codes "shut"))))
    (cases_Bool (bytes_eq w (codes "open"))))
    (cases_Bool (bytes_eq w (codes "free")))

pub number_read : (s : List ℕ) (n : ℕ) → numeral s ≡ Some n → s ≡ spelled n
number_read s n e = spelled_law.read s n e

pub hours_read : (s : List ℕ) (n : ℕ) → limited 1000 (numeral s) ≡ Some n → (s ≡ spelled n) × (n ≤ 1000)
hours_read s n e = let l = limited_some 1000 (numeral s) n e in (spelled_law.read s n l.0, l.1)

pub gain_read : (s : List ℕ) (g : ℤ) → limitedℤ (signed_by numeral s) ≡ Some g → (s ≡ spelledℤ g) × (nat_abs g ≤ 1000000000)
gain_read s g e = let l = limitedℤ_some (signed_by numeral s) g e in (spelled_law.readℤ s g l.0, l.1)

pub mark_read : (s : List ℕ) (u : Bool) → marked (numeral s) ≡ Some u → s ≡ spelled (mark u)
mark_read s u e = spelled_law.read s (mark u) (marked_some (numeral s) u e)

-- ---- what is written is read so

pub number_written : (n : ℕ) → numeral (spelled n) ≡ Some n
number_written n = spelled_law.written n

limitedℤ_fair : (z : ℤ) → nat_abs z ≤ 1000000000 → limitedℤ (Some z) ≡ Some z
limitedℤ_fair (pos n) h = rw (le-leb n 1000000000 h) refl
limitedℤ_fair (negsuc n) h = rw (lt-ltb n 1000000000 h) refl

marked_mark : (u : Bool) → marked (Some (mark u)) ≡ Some u
marked_mark true = refl
marked_mark false = refl

limited_fair : (n most : ℕ) → n ≤ most → limited most (Some n) ≡ Some n
limited_fair n most h = rw (le-leb n most h) refl

pub hours_written : (n : ℕ) → n ≤ 1000 → limited 1000 (numeral (spelled n)) ≡ Some n
hours_written n h = ap (limited 1000) (spelled_law.written n) ∙ limited_fair n 1000 h

pub gain_written : (g : ℤ) → nat_abs g ≤ 1000000000 → limitedℤ (signed_by numeral (spelledℤ g)) ≡ Some g
gain_written g h = ap limitedℤ (spelled_law.writtenℤ g) ∙ limitedℤ_fair g h

pub mark_written : (u : Bool) → marked (numeral (spelled (mark u))) ≡ Some u
mark_written u = ap marked (spelled_law.written (mark u)) ∙ marked_mark u

pub hold_written : (o : Hold) → hold_from (word o) ≡ Some o
hold_written H.Free = refl
hold_written H.Open = refl
hold_written H.Shut = refl
