-- A text is accepted exactly when it is the writing of rows, and refused exactly where its first fault is.
use Rattle.std.proofs.Common.{◌≡◌, ℕ, ◌+◌, ◌-◌, ◌<◌, ◌≤◌, false, cond, ltb, List, [], ◌∷◌, ◌++◌, map, length, Ok, Err, Result, sym, refl, ap, ◌∙◌, subst, inl, inr, ⊎_elim, append_assoc, append-nil, arith}
use Rattle.std.specs.List.{AllByRecursion}
use Rattle.std.proofs.ByRecursion.{All-push}
use Rattle.std.proofs.lemmas.List.{length_push, map-append}
use Rattle.std.proofs.lemmas.Bool.{cases_Bool, both_ways, lt-ltb, le-ltb, ltb-true, ltb-false, cond_both}
use Rattle.plant.specs.declared.refusal.Reason.{Reason}
use Rattle.plant.specs.declared.refusal.Reason.TheVariants as R
use Rattle.tables.specs.Laws.{parts, meaning, Refused}
use Rattle.tables.specs.Machine.{Told, done, stuck, row, whole, again}
use Rattle.tables.specs.Written as W
use Rattle.tables.proofs.Complete.{complete, onto, again_is}
use Rattle.rows.specs.Faults.{Breaks, After, Next, GrammarAtFault, HeaderAtFault, RowAtFault, TooFew, FirstFault}
use Rattle.rows.specs.Laws.{AcceptedWhenWritten, RefusedAtFirstFault}
use Rattle.rows.specs.Lines.{lines}
use Rattle.rows.specs.Stations.{stations}
use Rattle.rows.specs.Verdict.{Rules, Verdict, table, refused, verdict, first, after, judged}
use Rattle.rows.specs.Written.{Form, Fair, Lists, Writes, cells_from, meant, station_form, line_form}
use Rattle.rows.proofs.Judging.{Judges, Judged, Takes, judge_says, takes_judged, breaks_judged}
use Rattle.rows.proofs.LineForm as L
use Rattle.rows.proofs.StationForm as S
use Rattle.rows.proofs.Walking.{meant_is, proper_rows, next_told, Found, told_next, not_over, over_rest, stuck_rest, row_rest, no_next, after_whole, after_next, told_onto, stuck_after, refused_once}

module _ {A : Type 0} (U : Rules A) (F : Form A) (J : Judges U F) where
  -- ---- what the verdict says

  abbrev Says : List ℕ → Verdict A → Type 0
  Says s (table rows) = Writes F s rows
  Says s (refused r place) = FirstFault F s place r

  row_fault : (s : List ℕ) (place : ℕ) (r : Reason) → RowAtFault F s place r → FirstFault F s place r
  row_fault s place R.TableGrammar w = absurd w.fault
  row_fault s place R.FieldCount w = inr w
  row_fault s place R.FieldForm w = w
  row_fault s place R.RowNumber w = w
  row_fault s place R.RowCount w = inl w
  row_fault s place R.LineEnds w = w
  row_fault s place R.TextTooLong w = absurd w.fault
  row_fault s place R.MemoryTooShort w = absurd w.fault
  row_fault s place R.TreeGrammar w = absurd w.fault
  row_fault s place R.TooDeep w = absurd w.fault
  row_fault s place R.LeafNumber w = absurd w.fault
  row_fault s place R.HalvesApart w = absurd w.fault
  row_fault s place R.NotThePlant w = absurd w.fault
  row_fault s place R.Blank w = absurd w.fault
  row_fault s place R.NoSuchRecord w = absurd w.fault
  row_fault s place R.OutOfRange w = absurd w.fault
  row_fault s place R.NothingFits w = absurd w.fault
  row_fault s place R.NotOpen w = absurd w.fault

  cells_push : (k : ℕ) (rows : List A) (a : A) → cells_from F k rows ++ F.cells (k + length rows) a ∷ [] ≡ cells_from F k (rows ++ a ∷ [])
  cells_push k [] a = let e : k + 0 ≡ k = omega arith in ap (λ i. F.cells i a ∷ []) e
  cells_push k (b ∷ rows) a =
      let e : k + length (b ∷ rows) ≡ k + 1 + length rows = omega arith in
      ap (λ l. F.cells k b ∷ l) (ap (λ i. cells_from F (k + 1) rows ++ F.cells i a ∷ []) e ∙ cells_push (k + 1) rows a)

  lists_push : (rs : List W.Row) (rows : List A) (r : W.Row) (a : A) → Lists F rs rows → Takes F (length rows) (meant r) a → Lists F (rs ++ r ∷ []) (rows ++ a ∷ [])
  lists_push rs rows r a l t =
      let at : length rows ≡ 0 + length rows = omega arith in
      record {
        cells = map-append meant rs (r ∷ []) ∙ (λ i. l.cells i ++ t.is i ∷ []) ∙ ap (λ k. F.head ∷ (cells_from F 0 rows ++ F.cells k a ∷ [])) at ∙ ap (λ x. F.head ∷ x) (cells_push 0 rows a);
        fair = All-push (Fair F) rows a l.fair t.fair;
        few = omega (arith, length_push rows a, t.few);
      }

  lists_some : (rs : List W.Row) (rows : List A) → Lists F rs rows → 0 < length rs
  lists_some [] rows l = let e = l.cells in cc
  lists_some (r ∷ rs) rows l = omega arith

  -- the whole text is a table in order
  table_says : (s : List ℕ) (x : W.Table) (rows : List A) → W.Whole x → s ≡ W.text x → Lists F (W.rows x) rows → Says s (after U (length s) done rows)
  table_says s x rows w e l =
      cond_both (ltb (length rows) U.least) _ _ (Says s)
      (λ p. inr (record { table = x; whole = w; text = e; rows = rows; order = l; number = refl; fault = subst (λ n. length rows < n) J.least_is (ltb-true (length rows) U.least p) }))
      (λ p. record { table = x; whole = w; text = e; lists = l; enough = subst (λ n. n ≤ length rows) J.least_is (ltb-false (length rows) U.least p) })

  after_says : (s : List ℕ) (t : Told) (before : List W.Row) (rest : List ℕ) (rows : List A) → again rest ≡ t → After s before rest → Lists F before rows → Says s (after U (length s) t rows)
  after_says s done before rest rows e w l =
      let text : s ≡ W.lines before = w.split ∙ ap (λ x. W.lines before ++ x) (over_rest rest e) ∙ append-nil (W.lines before) in
      table_says s (W.ended before) rows (w.proper, lists_some before rows l) text l
  after_says s (stuck q) before rest rows e w l =
      record {
        before = before;
        rest = rest;
        after = w;
        order = inr (rows, l);
        unended = no_next rest q (stuck_rest rest q e);
        fault = stuck_after s (map parts before) q (after_whole s before rest w (lists_some before rows l) ∙ ap (onto (map parts before)) e);
      }
  after_says s (row ps t) before rest rows e w l =
      by (U.judge (length rows + 1) ps) (subst (λ x. Judged F (length rows) x (U.judge (length rows + 1) ps)) (ap (map meaning) f.is ∙ meant_is r proper) (judge_says U F J (length rows) ps))
      (λ a v k. after_says s t (before ++ r ∷ []) v (rows ++ a ∷ []) k)
    where
      some : 0 < length rest
      some = (row_rest rest ps t e).1

      f : Found rest ps t
      f = told_next rest ps t (row_rest rest ps t e).0

      r : W.Row
      r = f.this

      proper : W.Proper r
      proper = f.next.proper

      by : (x : Result A Reason) → Judged F (length rows) (meant r) x
          → ((a : A) (v : List ℕ) → again v ≡ t → After s (before ++ r ∷ []) v → Lists F (before ++ r ∷ []) (rows ++ a ∷ []) → Says s (after U (length s) t (rows ++ a ∷ [])))
          → Says s (judged x rows (after U (length s) t))
      by (Ok a) k ih =
          let more = lists_push before rows r a l k in
          ⊎_elim
          (λ x. ih a x.0 (sym x.2) (after_next s before rest r x.0 w proper x.1) more)
          (λ x. subst (λ u. Says s (after U (length s) u (rows ++ a ∷ []))) (sym x.1) (table_says s (W.cut before r) (rows ++ a ∷ []) (w.proper, proper, inr (omega (arith, ap length x.0, some))) (w.split ∙ ap (λ u. W.lines before ++ u) x.0) more))
          f.left
      by (Err m) k ih = row_fault s (length rows + 1) m (record { before = before; rest = rest; after = w; rows = rows; order = l; more = some; this = r; next = f.next; number = refl; fault = k })

  first_says : (s : List ℕ) (t : Told) → whole s ≡ t → Says s (first U (length s) t)
  first_says s done e = absurd (not_over s e)
  first_says s (stuck q) e = record { before = []; rest = s; after = record { proper = tt; split = refl }; order = inl refl; unended = no_next s q e; fault = stuck_after s [] q e }
  first_says s (row ps t) e =
      let f = told_next s ps t e in
      let r = f.this in
      let proper = f.next.proper in
      let is : map meaning ps ≡ meant r = ap (map meaning) f.is ∙ meant_is r proper in
      cond_both (U.heads ps) _ _ (Says s)
      (λ h.
      let l : Lists F (r ∷ []) [] = record { cells = ap (λ x. x ∷ []) (sym is ∙ J.heads_true ps h); fair = tt; few = omega arith } in
      ⊎_elim
      (λ x. after_says s t (r ∷ []) x.0 [] (sym x.2) (record { proper = (proper, tt); split = x.1 }) l)
      (λ x. subst (λ u. Says s (after U (length s) u [])) (sym x.1) (table_says s (W.cut [] r) [] (tt, proper, inl refl) x.0 l))
      f.left)
      (λ h. inl (record { this = r; next = f.next; first = refl; fault = λ k. both_ways (U.heads ps) h (J.true_heads ps (is ∙ k)) }))

  says : (s : List ℕ) → Says s (verdict U s)
  says s = first_says s (whole s) refl

  -- ---- what is written is accepted

  rows_taken : (rs : List W.Row) (more : List A) (n : ℕ) (t : Told) (rows : List A) → AllByRecursion W.Proper rs → map meant rs ≡ cells_from F (length rows) more → AllByRecursion (Fair F) more → length rows + length more ≤ F.most → after U n (onto (map parts rs) t) rows ≡ after U n t (rows ++ more)
  rows_taken [] [] n t rows p e f le = ap (after U n t) (sym (append-nil rows))
  rows_taken [] (a ∷ more) n t rows p e f le = cc
  rows_taken (r ∷ rs) [] n t rows p e f le = cc
  rows_taken (r ∷ rs) (a ∷ more) n t rows p e f le =
      let this : meant r ≡ F.cells (length rows) a = cc in
      let later : map meant rs ≡ cells_from F (length rows + 1) more = cc in
      let few : length rows < F.most = omega arith in
      let taken : U.judge (length rows + 1) (parts r) ≡ Ok a = takes_judged U F J (length rows) (parts r) a (record { is = meant_is r p.0 ∙ this; fair = f.0; few = few }) in
      ap (λ x. judged x rows (after U n (onto (map parts rs) t))) taken
      ∙ rows_taken rs more n t (rows ++ a ∷ []) p.1 (later ∙ ap (λ k. cells_from F k more) (sym (length_push rows a))) f.1 (omega (arith, length_push rows a))
      ∙ ap (after U n t) (append_assoc rows (a ∷ []) more)

  -- records in order are taken, whatever is told after them
  lists_taken : (rs : List W.Row) (rows : List A) (n : ℕ) (t : Told) → AllByRecursion W.Proper rs → Lists F rs rows → first U n (onto (map parts rs) t) ≡ after U n t rows
  lists_taken [] rows n t p l = let e = l.cells in cc
  lists_taken (r ∷ rs) rows n t p l =
      let cells = l.cells in
      let head : meant r ≡ F.head = cc in
      let later : map meant rs ≡ cells_from F 0 rows = cc in
      let le : 0 + length rows ≤ F.most = omega (arith, l.few) in
      ap (λ b. cond b (after U n (onto (map parts rs) t) []) (refused R.FieldCount 0)) (J.true_heads (parts r) (meant_is r p.0 ∙ head))
      ∙ rows_taken rs rows n t [] p.1 later l.fair le

  table_taken : (s : List ℕ) (x : W.Table) (rows : List A) → W.Whole x → s ≡ W.text x → Lists F (W.rows x) rows → verdict U s ≡ after U (length s) done rows
  table_taken s x rows w e l =
      ap (first U (length s)) (ap whole e ∙ complete x w ∙ told_onto (map parts (W.rows x))) ∙ lists_taken (W.rows x) rows (length s) done (proper_rows x w) l

  all_written : (s : List ℕ) (rows : List A) → Writes F s rows → verdict U s ≡ table rows
  all_written s rows w =
      let enough : U.least ≤ length rows = subst (λ x. x ≤ length rows) (sym J.least_is) w.enough in
      table_taken s w.table rows w.whole w.text w.lists ∙ ap (λ b. cond b (refused R.RowCount (length rows)) (table rows)) (le-ltb (length rows) U.least enough)

  -- ---- what has a first fault is refused for it

  after_taken : (s : List ℕ) (before : List W.Row) (rest : List ℕ) (rows : List A) → After s before rest → Lists F before rows → verdict U s ≡ after U (length s) (again rest) rows
  after_taken s before rest rows w l = ap (first U (length s)) (after_whole s before rest w (lists_some before rows l)) ∙ lists_taken before rows (length s) (again rest) w.proper l

  row_refused : (s : List ℕ) (place : ℕ) (r : Reason) → RowAtFault F s place r → verdict U s ≡ refused r place
  row_refused s place r w =
      let n = next_told w.rest w.this w.next in
      let broken : Breaks F (length w.rows) (map meaning (parts w.this)) r = subst (λ x. Breaks F (length w.rows) x r) (sym (meant_is w.this w.next.proper)) w.fault in
      after_taken s w.before w.rest w.rows w.after w.order
      ∙ ap (λ t. after U (length s) t w.rows) (again_is w.rest w.more ∙ n.1)
      ∙ ap (λ x. judged x w.rows (after U (length s) n.0)) (breaks_judged U F J (length w.rows) (parts w.this) r broken)
      ∙ ap (refused r) (sym w.number)

  header_refused : (s : List ℕ) (place : ℕ) → HeaderAtFault F s place → verdict U s ≡ refused R.FieldCount place
  header_refused s place w =
      let n = next_told s w.this w.next in
      let not_head : U.heads (parts w.this) ≡ false = ⊎_elim (λ h. absurd (w.fault (sym (meant_is w.this w.next.proper) ∙ J.heads_true (parts w.this) h))) (λ h. h) (cases_Bool (U.heads (parts w.this))) in
      ap (first U (length s)) n.1
      ∙ ap (λ b. cond b (after U (length s) n.0 []) (refused R.FieldCount 0)) not_head
      ∙ ap (refused R.FieldCount) (sym w.first)

  few_refused : (s : List ℕ) (place : ℕ) → TooFew F s place → verdict U s ≡ refused R.RowCount place
  few_refused s place w =
      let less : length w.rows < U.least = subst (λ n. length w.rows < n) (sym J.least_is) w.fault in
      table_taken s w.table w.rows w.whole w.text w.order
      ∙ ap (λ b. cond b (refused R.RowCount (length w.rows)) (table w.rows)) (lt-ltb (length w.rows) U.least less)
      ∙ ap (refused R.RowCount) (sym w.number)

  -- a fault of the grammar in the header
  grammar_first : (s : List ℕ) (place : ℕ) (t : Told) → whole s ≡ t → ((r : W.Row) → Next s r → ⊥) → Refused s place → first U (length s) t ≡ refused R.TableGrammar place
  grammar_first s place done e never k = absurd (not_over s e)
  grammar_first s place (stuck q) e never k = ap (refused R.TableGrammar) (refused_once s (length s - length q) place (stuck_after s [] q e) k)
  grammar_first s place (row ps t) e never k = let f = told_next s ps t e in absurd (never f.this f.next)

  -- and one after it
  grammar_after : (s : List ℕ) (place : ℕ) (before : List W.Row) (rest : List ℕ) (rows : List A) (t : Told) → again rest ≡ t → After s before rest → Lists F before rows → ((r : W.Row) → Next rest r → ⊥) → Refused s place → after U (length s) t rows ≡ refused R.TableGrammar place
  grammar_after s place before rest rows done e w l never k =
      let text : s ≡ W.lines before = w.split ∙ ap (λ x. W.lines before ++ x) (over_rest rest e) ∙ append-nil (W.lines before) in
      absurd (k.none (W.ended before) (w.proper, lists_some before rows l) text)
  grammar_after s place before rest rows (stuck q) e w l never k =
      let at : whole s ≡ onto (map parts before) (stuck q) = after_whole s before rest w (lists_some before rows l) ∙ ap (onto (map parts before)) e in
      ap (refused R.TableGrammar) (refused_once s (length s - length q) place (stuck_after s (map parts before) q at) k)
  grammar_after s place before rest rows (row ps t) e w l never k = let f = told_next rest ps t (row_rest rest ps t e).0 in absurd (never f.this f.next)

  grammar_refused : (s : List ℕ) (place : ℕ) → GrammarAtFault F s place → verdict U s ≡ refused R.TableGrammar place
  grammar_refused s place w =
      ⊎_elim
      (λ none.
      let all : w.rest ≡ s = sym (w.after.split ∙ ap (λ x. W.lines x ++ w.rest) none) in
      grammar_first s place (whole s) refl (subst (λ (x : List ℕ). (r : W.Row) → Next x r → ⊥) all w.unended) w.fault)
      (λ l. after_taken s w.before w.rest l.0 w.after l.1 ∙ grammar_after s place w.before w.rest l.0 (again w.rest) refl w.after l.1 w.unended w.fault)
      w.order

  first_refused : (s : List ℕ) (r : Reason) (place : ℕ) → FirstFault F s place r → verdict U s ≡ refused r place
  first_refused s R.TableGrammar place w = grammar_refused s place w
  first_refused s R.FieldCount place w = ⊎_elim (λ h. header_refused s place h) (λ h. row_refused s place R.FieldCount h) w
  first_refused s R.FieldForm place w = row_refused s place R.FieldForm w
  first_refused s R.RowNumber place w = row_refused s place R.RowNumber w
  first_refused s R.RowCount place w = ⊎_elim (λ h. row_refused s place R.RowCount h) (λ h. few_refused s place h) w
  first_refused s R.LineEnds place w = row_refused s place R.LineEnds w
  first_refused s R.TextTooLong place w = absurd w
  first_refused s R.MemoryTooShort place w = absurd w
  first_refused s R.TreeGrammar place w = absurd w
  first_refused s R.TooDeep place w = absurd w
  first_refused s R.LeafNumber place w = absurd w
  first_refused s R.HalvesApart place w = absurd w
  first_refused s R.NotThePlant place w = absurd w
  first_refused s R.Blank place w = absurd w
  first_refused s R.NoSuchRecord place w = absurd w
  first_refused s R.OutOfRange place w = absurd w
  first_refused s R.NothingFits place w = absurd w
  first_refused s R.NotOpen place w = absurd w

  -- ---- the two laws

  accepted_when_written : AcceptedWhenWritten U F
  accepted_when_written =
      record {
        only_written = λ s rows e. subst (Says s) e (says s);
        all_written = all_written;
        one_writing = λ s rows others v w. let same = sym (all_written s rows v) ∙ all_written s others w in cc;
      }

  refused_at_first_fault : RefusedAtFirstFault U F
  refused_at_first_fault = record { only_first = λ s r place e. subst (Says s) e (says s); all_first = first_refused }

pub stations_accepted : AcceptedWhenWritten stations station_form
stations_accepted = accepted_when_written stations station_form S.judges

pub lines_accepted : (n : ℕ) → AcceptedWhenWritten (lines n) (line_form n)
lines_accepted n = accepted_when_written (lines n) (line_form n) (L.judges n)

pub stations_refused : RefusedAtFirstFault stations station_form
stations_refused = refused_at_first_fault stations station_form S.judges

pub lines_refused : (n : ℕ) → RefusedAtFirstFault (lines n) (line_form n)
lines_refused n = refused_at_first_fault (lines n) (line_form n) (L.judges n)
