-- A table half read.
use Rattle.std.proofs.Common.{◌≡◌, ℕ, ◌+◌, ◌-◌, ◌<◌, ◌≤◌, Bool, true, false, cond, ltb, if◌then◌else◌, List, [], ◌∷◌, ◌++◌, length, drop, Ok, Err, Result, MatchResult, sym, ap, ◌∙◌, ⊎_elim, arith, Bor}
use Rattle.std.proofs.lemmas.Bool.{cases_lt, ltb-false}
use Rattle.std.proofs.lemmas.List.{length-drop}
use Rattle.plant.specs.declared.refusal.Reason.{Reason}
use Rattle.plant.specs.declared.refusal.Reason.TheVariants as R
use Rattle.plant.specs.declared.refusal.Part.{Part}
use Rattle.plant.specs.declared.refusal.Refusal.{Refusal}
use Rattle.plant.specs.declared.table.Table.{Table}
use Rattle.plant.specs.Tables.{listed}
use Rattle.tables.specs.declared.grammar.Records.{Records}
use Rattle.tables.specs.Fields.{held}
use Rattle.tables.specs.Reads.{rest, Begins}
use Rattle.tables.specs.Machine.{again, whole}
use Rattle.tables.proofs.Complete.{follow, whole_run, again_run, shorter}
use Rattle.rows.specs.Verdict.{Rules, Lawful, refused, verdict, first, after, judged, NextRecord}

-- the place from what is left
place : (src : List ℕ) (text : Records) → text.src.now ≡ src → length src - length (rest text) ≡ text.pos
place src text e = omega (arith, length-drop text.pos text.src.now, ap length e, text.within)

begins : (src : Bor (List ℕ)) (t₀ : Records) → Begins src t₀ → rest t₀ ≡ src.now
begins src t₀ b = ap (λ n. drop n t₀.src.now) b.1 ∙ ap (λ r. r.now) b.0

now_is : (src : Bor (List ℕ)) (t₀ t₁ : Records) → Begins src t₀ → t₁.src ≡ t₀.src → t₁.src.now ≡ src.now
now_is src t₀ t₁ b e = ap (λ r. r.now) (e ∙ b.0)

module _ {A : Type 0} (U : Rules A) {least most : ℕ} (laws : Lawful U least most) (part : Part) where
  pub record Going (src : List ℕ) (text : Records) (rows : List A) : Type 0 where
    pub same : text.src.now ≡ src
    pub so_far : verdict U src ≡ after U (length src) (again (rest text)) rows

  -- the first record
  pub first_bad : (src : Bor (List ℕ)) (t₀ t₁ : Records) (e : Refusal) → Begins src t₀ → NextRecord part t₀ t₁ (Err e)
      → (verdict U src.now ≡ refused e.reason e.place) × (e.part ≡ part)
  first_bad src t₀ t₁ e b r =
      let s = src.now in
      let told = ap (first U (length s)) (ap whole (sym (begins src t₀ b)) ∙ whole_run (rest t₀) ∙ ap follow r.found.0) in
      let at = place s t₁ (now_is src t₀ t₁ b r.src) in
      (told ∙ ap (refused R.TableGrammar) at ∙ (λ i. refused (sym r.found.1 i).reason (sym r.found.1 i).place), ap (λ x. x.part) r.found.1)

  pub first_row : (src : Bor (List ℕ)) (t₀ t₁ : Records) (f : Table (Bor (List ℕ)) 6) (h : Bool) → Begins src t₀ → NextRecord part t₀ t₁ (Ok f) → h ≡ U.heads (held f)
      → verdict U src.now ≡ cond h (after U (length src.now) (again (rest t₁)) []) (refused R.FieldCount 0)
  first_row src t₀ t₁ f h b r e =
      let s = src.now in
      ap (first U (length s)) (ap whole (sym (begins src t₀ b)) ∙ whole_run (rest t₀) ∙ ap follow r.found.1)
      ∙ ap (λ t. cond t (after U (length s) (again (rest t₁)) []) (refused R.FieldCount 0)) (sym (e ∙ ap U.heads r.found.2 ∙ laws.heads_six r.found.0))

  pub start : (src : Bor (List ℕ)) (t₀ t₁ : Records) (f : Table (Bor (List ℕ)) 6) (rows : List A) → Begins src t₀ → NextRecord part t₀ t₁ (Ok f)
      → true ≡ U.heads (held f) → rows ≡ [] → Going src.now t₁ rows
  start src t₀ t₁ f rows b r e n =
      record {
        same = now_is src t₀ t₁ b r.src;
        so_far = first_row src t₀ t₁ f true b r e ∙ ap (after U (length src.now) (again (rest t₁))) (sym n);
      }

  -- each record after it
  pub next_bad : (src : List ℕ) (t₀ t₁ : Records) (rows : List A) (e : Refusal) → Going src t₀ rows → 0 < length (rest t₀) → NextRecord part t₀ t₁ (Err e)
      → (verdict U src ≡ refused e.reason e.place) × (e.part ≡ part)
  next_bad src t₀ t₁ rows e g some r =
      let told = g.so_far ∙ ap (λ x. after U (length src) x rows) (again_run (rest t₀) some ∙ ap follow r.found.0) in
      let at = place src t₁ (ap (λ x. x.now) r.src ∙ g.same) in
      (told ∙ ap (refused R.TableGrammar) at ∙ (λ i. refused (sym r.found.1 i).reason (sym r.found.1 i).place), ap (λ x. x.part) r.found.1)

  pub next_row : (src : List ℕ) (t₀ t₁ : Records) (rows : List A) (f : Table (Bor (List ℕ)) 6) (x : Result A Reason) → Going src t₀ rows → 0 < length (rest t₀) → NextRecord part t₀ t₁ (Ok f)
      → x ≡ U.judge (length rows + 1) (held f) → verdict U src ≡ judged x rows (after U (length src) (again (rest t₁)))
  next_row src t₀ t₁ rows f x g some r e =
      let ps = r.found.0 in
      g.so_far ∙ ap (λ x. after U (length src) x rows) (again_run (rest t₀) some ∙ ap follow r.found.1)
      ∙ ap (λ y. judged y rows (after U (length src) (again (rest t₁)))) (sym (e ∙ ap (U.judge (length rows + 1)) r.found.2 ∙ laws.judge_six (length rows + 1) ps))

  pub next_wrong : (src : List ℕ) (t₀ t₁ : Records) (rows : List A) (f : Table (Bor (List ℕ)) 6) (n : ℕ) (x : Result A Reason) (z : Refusal) → Going src t₀ rows → 0 < length (rest t₀) → NextRecord part t₀ t₁ (Ok f)
      → n ≡ length rows → x ≡ U.judge (length rows + 1) (held f) → MatchResult x (λ a. ⊥) (λ e. z ≡ record { reason = e; part = part; place = n + 1 })
      → (verdict U src ≡ refused z.reason z.place) × (z.part ≡ part)
  next_wrong src t₀ t₁ rows f n (Ok a) z g some r count e h = absurd h
  next_wrong src t₀ t₁ rows f n (Err m) z g some r count e h =
      (next_row src t₀ t₁ rows f (Err m) g some r e ∙ ap (λ n. refused m (n + 1)) (sym count) ∙ (λ i. refused (sym h i).reason (sym h i).place), ap (λ z. z.part) h)

  pub next_fine : (src : List ℕ) (t₀ t₁ : Records) (rows rows' : List A) (f : Table (Bor (List ℕ)) 6) (a : A) → Going src t₀ rows → 0 < length (rest t₀) → NextRecord part t₀ t₁ (Ok f)
      → Ok a ≡ U.judge (length rows + 1) (held f) → rows' ≡ rows ++ a ∷ [] → Going src t₁ rows'
  next_fine src t₀ t₁ rows rows' f a g some r e pushed =
      record {
        same = ap (λ x. x.now) r.src ∙ g.same;
        so_far = next_row src t₀ t₁ rows f (Ok a) g some r e ∙ ap (after U (length src) (again (rest t₁))) (sym pushed);
      }

  -- a row that is judged fine is no more than the most, so a table with room for these takes it
  room : (k : ℕ) (ps : List (List ℕ)) (a : A) → Ok a ≡ U.judge k ps → k ≤ most
  room k ps a e =
      ⊎_elim
      (λ lt. let f : Ok a ≡ Err R.RowCount = e ∙ laws.full k ps lt in let z : ◌≡◌ {A = ℕ} 0 1 = cc in absurd (omega arith))
      (λ ge. ge)
      (cases_lt most k)

  pub pushed : {N : ℕ} (t t' : Table A N) (ps : List (List ℕ)) (a : A) (taken : Bool) → most ≡ N → Ok a ≡ U.judge (length (listed t) + 1) ps
      → taken ≡ ltb (length (listed t)) N → listed t' ≡ (if taken then listed t ++ a ∷ [] else listed t) → listed t' ≡ listed t ++ a ∷ []
  pushed t t' ps a true most_is e is new = new
  pushed {N} t t' ps a false most_is e is new = absurd (omega (arith, room (length (listed t) + 1) ps a e, ltb-false (length (listed t)) N (sym is), most_is))

  pub less : (src : List ℕ) (t₀ t₁ : Records) (rows : List A) (f : Table (Bor (List ℕ)) 6) → Going src t₀ rows → 0 < length (rest t₀) → NextRecord part t₀ t₁ (Ok f)
      → length t₁.src.now - t₁.pos < length t₀.src.now - t₀.pos
  less src t₀ t₁ rows f g some r =
      omega (arith, shorter (rest t₀) r.found.0 (rest t₁) some r.found.1, length-drop t₀.pos t₀.src.now, length-drop t₁.pos t₁.src.now)
