-- Which rows a kind of table takes, and which rule another row breaks.
use Rattle.std.proofs.Common.{◌≡◌, ℕ, ◌+◌, ◌<◌, ◌≤◌, Bool, true, false, cond, eqb, ltb, ◌⊎◌, List, [], map, length, get_or, Some, Ok, Err, Result, sym, refl, ap, ◌∙◌, subst, ⊎_elim, arith}
use Rattle.std.proofs.lemmas.List.{length-map}
use Rattle.std.proofs.lemmas.Bool.{cases_Bool, eqb-true, eqb-false, eq-eqb, ne_eqb, lt-ltb, le-ltb, ltb-true, ltb-false, cond_both}
use Rattle.plant.specs.declared.refusal.Reason.{Reason}
use Rattle.plant.specs.declared.refusal.Reason.TheVariants as R
use Rattle.tables.specs.Laws.{meaning}
use Rattle.tables.specs.Numerals.{spelled, numeral}
use Rattle.tables.proofs.Spelling.{spelled_law}
use Rattle.rows.specs.Faults.{Counted, Formed, Numbered, Ended, Breaks}
use Rattle.rows.specs.Verdict.{Rules}
use Rattle.rows.specs.Written.{Form, Fair}

-- what becomes of a row whose fields are right
abbrev pub settled : {A : Type 0} → Bool → Bool → A → Result A Reason
settled numbered between a = cond numbered (cond between (Ok a) (Err R.LineEnds)) (Err R.RowNumber)

-- the rules judge what the form writes: one row is read from its fields and written to them
pub record Judges {A : Type 0} (U : Rules A) (F : Form A) : Type 0 where
  pub body : ℕ → List (List ℕ) → Result A Reason
  pub judge_is : (k : ℕ) (ps : List (List ℕ)) → U.judge k ps ≡ cond (ltb F.most k) (Err R.RowCount) (cond (eqb (length ps) (length F.head)) (body k ps) (Err R.FieldCount))
  pub least_is : U.least ≡ F.least
  pub between : A → Bool
  pub between_true : (a : A) → between a ≡ true → F.Between a
  pub true_between : (a : A) → F.Between a → between a ≡ true
  pub first_cell : (i : ℕ) (a : A) → get_or (F.cells i a) 0 [] ≡ spelled i
  pub columns : (i : ℕ) (a : A) → length (F.cells i a) ≡ length F.head
  pub written : (k i : ℕ) (a : A) (ps : List (List ℕ)) → map meaning ps ≡ F.cells i a → F.InRange a → body k ps ≡ settled (eqb (i + 1) k) (between a) a
  pub formed : (k : ℕ) (ps : List (List ℕ)) → length ps ≡ length F.head → (body k ps ≡ Err R.FieldForm) ⊎ Formed F (map meaning ps)
  pub heads_true : (ps : List (List ℕ)) → U.heads ps ≡ true → map meaning ps ≡ F.head
  pub true_heads : (ps : List (List ℕ)) → map meaning ps ≡ F.head → U.heads ps ≡ true

-- the fields are those of the k-th row
pub record Takes {A : Type 0} (F : Form A) (k : ℕ) (cs : List (List ℕ)) (a : A) : Type 0 where
  pub is : cs ≡ F.cells k a
  pub fair : Fair F a
  pub few : k < F.most

-- what an answer says of the k-th row, counted from 0
abbrev pub Judged : {A : Type 0} → Form A → ℕ → List (List ℕ) → Result A Reason → Type 0
Judged F k cs (Ok a) = Takes F k cs a
Judged F k cs (Err r) = Breaks F k cs r

not_form : {A : Type 0} (p q : Bool) (a : A) → settled p q a ≡ Err R.FieldForm → ⊥
not_form true true a e = cc
not_form true false a e = cc
not_form false q a e = cc

not_ends : {A : Type 0} (p : Bool) (a : A) → settled p true a ≡ Err R.LineEnds → ⊥
not_ends true a e = cc
not_ends false a e = cc

same_number : (i k : ℕ) → spelled i ≡ spelled k → i ≡ k
same_number i k e =
    let both : Some i ≡ Some k = sym (spelled_law.written i) ∙ ap numeral e ∙ spelled_law.written k in
    cc

module _ {A : Type 0} (U : Rules A) (F : Form A) (J : Judges U F) where
  -- fields that are right
  settled_says : (k : ℕ) (ps : List (List ℕ)) (i : ℕ) (a : A) → k < F.most → F.InRange a → map meaning ps ≡ F.cells i a → Judged F k (map meaning ps) (settled (eqb (i + 1) (k + 1)) (J.between a) a)
  settled_says k ps i a few range e =
      let counted : Counted F (map meaning ps) = ap length e ∙ J.columns i a in
      let formed : Formed F (map meaning ps) = (i, a, range, e) in
      let first : get_or (map meaning ps) 0 [] ≡ spelled i = ap (λ l. get_or l 0 []) e ∙ J.first_cell i a in
      cond_both (eqb (i + 1) (k + 1)) _ _ (Judged F k (map meaning ps))
      (λ p.
      let same : i + 1 ≡ k + 1 = eqb-true (i + 1) (k + 1) p in
      let at : i ≡ k = omega arith in
      cond_both (J.between a) _ _ (Judged F k (map meaning ps))
      (λ q. record { is = e ∙ ap (λ x. F.cells x a) at; fair = (range, J.between_true a q); few = few })
      (λ q. (
        few,
        counted,
        formed,
        first ∙ ap spelled at,
        λ o.
            let here : J.body (k + 1) ps ≡ Err R.LineEnds = J.written (k + 1) i a ps e range ∙ (λ x. settled (p x) (q x) a) in
            let there : J.body (k + 1) ps ≡ settled (eqb (o.0 + 1) (k + 1)) true o.1 = J.written (k + 1) o.0 o.1 ps o.4 o.2 ∙ ap (λ x. settled (eqb (o.0 + 1) (k + 1)) x o.1) (J.true_between o.1 o.3) in
            not_ends (eqb (o.0 + 1) (k + 1)) o.1 (sym there ∙ here),
      )))
      (λ p. (few, counted, formed, λ numbered. eqb-false (i + 1) (k + 1) p (ap (λ x. x + 1) (same_number i k (sym first ∙ numbered)))))

  body_says : (k : ℕ) (ps : List (List ℕ)) → k < F.most → length ps ≡ length F.head → Judged F k (map meaning ps) (J.body (k + 1) ps)
  body_says k ps few n =
      ⊎_elim
      (λ e. subst (Judged F k (map meaning ps)) (sym e) (few, length-map ps meaning ∙ n, λ o. not_form (eqb (o.0 + 1) (k + 1)) (J.between o.1) o.1 (sym (J.written (k + 1) o.0 o.1 ps o.3 o.2) ∙ e)))
      (λ o. subst (Judged F k (map meaning ps)) (sym (J.written (k + 1) o.0 o.1 ps o.3 o.2)) (settled_says k ps o.0 o.1 few o.2 o.3))
      (J.formed (k + 1) ps n)

  pub judge_says : (k : ℕ) (ps : List (List ℕ)) → Judged F k (map meaning ps) (U.judge (k + 1) ps)
  judge_says k ps =
      subst (Judged F k (map meaning ps)) (sym (J.judge_is (k + 1) ps))
      (cond_both (ltb F.most (k + 1)) _ _ (Judged F k (map meaning ps))
      (λ p. let lt = ltb-true F.most (k + 1) p in omega arith)
      (λ p.
      let le = ltb-false F.most (k + 1) p in
      let few : k < F.most = omega arith in
      cond_both (eqb (length ps) (length F.head)) _ _ (Judged F k (map meaning ps))
      (λ q. body_says k ps few (eqb-true (length ps) (length F.head) q))
      (λ q. (few, λ n. eqb-false (length ps) (length F.head) q (sym (length-map ps meaning) ∙ n)))))

  pub takes_judged : (k : ℕ) (ps : List (List ℕ)) (a : A) → Takes F k (map meaning ps) a → U.judge (k + 1) ps ≡ Ok a
  takes_judged k ps a t =
      let few : k + 1 ≤ F.most = omega (arith, t.few) in
      let n : length ps ≡ length F.head = sym (length-map ps meaning) ∙ ap length t.is ∙ J.columns k a in
      J.judge_is (k + 1) ps
      ∙ (λ x. cond (le-ltb F.most (k + 1) few x) (Err R.RowCount) (cond (eq-eqb (length ps) (length F.head) n x) (J.body (k + 1) ps) (Err R.FieldCount)))
      ∙ J.written (k + 1) k a ps t.is t.fair.0
      ∙ (λ x. settled (eq-eqb (k + 1) (k + 1) refl x) (J.true_between a t.fair.1 x) a)

  -- ---- a row that breaks a rule, and none before it, is refused for it

  whole_body : (k : ℕ) (ps : List (List ℕ)) → k < F.most → Counted F (map meaning ps) → U.judge (k + 1) ps ≡ J.body (k + 1) ps
  whole_body k ps few counted =
      let le : k + 1 ≤ F.most = omega arith in
      let n : length ps ≡ length F.head = sym (length-map ps meaning) ∙ counted in
      J.judge_is (k + 1) ps ∙ (λ x. cond (le-ltb F.most (k + 1) le x) (Err R.RowCount) (cond (eq-eqb (length ps) (length F.head) n x) (J.body (k + 1) ps) (Err R.FieldCount)))

  past_most : (k : ℕ) (ps : List (List ℕ)) → F.most ≤ k → U.judge (k + 1) ps ≡ Err R.RowCount
  past_most k ps le =
      let lt : F.most < k + 1 = omega arith in
      J.judge_is (k + 1) ps ∙ ap (λ t. cond t (Err R.RowCount) (cond (eqb (length ps) (length F.head)) (J.body (k + 1) ps) (Err R.FieldCount))) (lt-ltb F.most (k + 1) lt)

  wrong_count : (k : ℕ) (ps : List (List ℕ)) → k < F.most → (Counted F (map meaning ps) → ⊥) → U.judge (k + 1) ps ≡ Err R.FieldCount
  wrong_count k ps few never =
      let le : k + 1 ≤ F.most = omega arith in
      let n : length ps ≡ length F.head → ⊥ = λ n. never (length-map ps meaning ∙ n) in
      J.judge_is (k + 1) ps ∙ (λ x. cond (le-ltb F.most (k + 1) le x) (Err R.RowCount) (cond (ne_eqb (length ps) (length F.head) n x) (J.body (k + 1) ps) (Err R.FieldCount)))

  wrong_form : (k : ℕ) (ps : List (List ℕ)) → Counted F (map meaning ps) → (Formed F (map meaning ps) → ⊥) → J.body (k + 1) ps ≡ Err R.FieldForm
  wrong_form k ps counted never = ⊎_elim (λ e. e) (λ f. absurd (never f)) (J.formed (k + 1) ps (sym (length-map ps meaning) ∙ counted))

  first_is : (ps : List (List ℕ)) (i : ℕ) (a : A) → map meaning ps ≡ F.cells i a → get_or (map meaning ps) 0 [] ≡ spelled i
  first_is ps i a e = ap (λ l. get_or l 0 []) e ∙ J.first_cell i a

  wrong_number : (k : ℕ) (ps : List (List ℕ)) → Formed F (map meaning ps) → (Numbered k (map meaning ps) → ⊥) → J.body (k + 1) ps ≡ Err R.RowNumber
  wrong_number k ps f never =
      let differ : f.0 + 1 ≡ k + 1 → ⊥ = λ e. let at : f.0 ≡ k = omega arith in never (first_is ps f.0 f.1 f.3 ∙ ap spelled at) in
      J.written (k + 1) f.0 f.1 ps f.3 f.2 ∙ ap (λ t. settled t (J.between f.1) f.1) (ne_eqb (f.0 + 1) (k + 1) differ)

  wrong_ends : (k : ℕ) (ps : List (List ℕ)) → Formed F (map meaning ps) → Numbered k (map meaning ps) → (Ended F (map meaning ps) → ⊥) → J.body (k + 1) ps ≡ Err R.LineEnds
  wrong_ends k ps f numbered never =
      let same : f.0 + 1 ≡ k + 1 = ap (λ x. x + 1) (same_number f.0 k (sym (first_is ps f.0 f.1 f.3) ∙ numbered)) in
      let apart : J.between f.1 ≡ false = ⊎_elim (λ t. absurd (never (f.0, f.1, f.2, J.between_true f.1 t, f.3))) (λ e. e) (cases_Bool (J.between f.1)) in
      J.written (k + 1) f.0 f.1 ps f.3 f.2 ∙ (λ x. settled (eq-eqb (f.0 + 1) (k + 1) same x) (apart x) f.1)

  pub breaks_judged : (k : ℕ) (ps : List (List ℕ)) (r : Reason) → Breaks F k (map meaning ps) r → U.judge (k + 1) ps ≡ Err r
  breaks_judged k ps R.RowCount b = past_most k ps b
  breaks_judged k ps R.FieldCount b = wrong_count k ps b.0 b.1
  breaks_judged k ps R.FieldForm b = whole_body k ps b.0 b.1 ∙ wrong_form k ps b.1 b.2
  breaks_judged k ps R.RowNumber b = whole_body k ps b.0 b.1 ∙ wrong_number k ps b.2 b.3
  breaks_judged k ps R.LineEnds b = whole_body k ps b.0 b.1 ∙ wrong_ends k ps b.2 b.3 b.4
  breaks_judged k ps R.TextTooLong b = absurd b
  breaks_judged k ps R.MemoryTooShort b = absurd b
  breaks_judged k ps R.TableGrammar b = absurd b
  breaks_judged k ps R.TreeGrammar b = absurd b
  breaks_judged k ps R.TooDeep b = absurd b
  breaks_judged k ps R.LeafNumber b = absurd b
  breaks_judged k ps R.HalvesApart b = absurd b
  breaks_judged k ps R.NotThePlant b = absurd b
  breaks_judged k ps R.Blank b = absurd b
  breaks_judged k ps R.NoSuchRecord b = absurd b
  breaks_judged k ps R.OutOfRange b = absurd b
  breaks_judged k ps R.NothingFits b = absurd b
  breaks_judged k ps R.NotOpen b = absurd b
