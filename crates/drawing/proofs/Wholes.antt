-- A whole text, read from a blank sketch. Assumes nothing.
use Rattle.std.proofs.Common.{◌≡◌, ℕ, ◌<◌, ◌≤◌, Bool, true, false, cond, ◌||◌, eqb, ltb, List, [], ◌∷◌, ◌++◌, length, drop, Ok, Err, Result, Decides, sym, refl, ap, ◌∙◌, ⊎_elim, arith}
use Rattle.std.proofs.lemmas.List.{nil_from_length}
use Rattle.std.proofs.lemmas.Bool.Decides.{same_from_decides}
use Rattle.std.proofs.lemmas.Bool.{eqb-true, eq-eqb, and_parts, and_from, or_cases, or_left, false≢true}
use Rattle.plant.specs.declared.refusal.Refusal.{Refusal}
use Rattle.plant.specs.declared.refusal.Reason.{Reason}
use Rattle.plant.specs.declared.refusal.Reason.TheVariants.{NotThePlant}
use Rattle.plant.specs.declared.refusal.Part.TheVariants as P
use Rattle.plant.specs.Trees.{Net, Tree, left, station_of, uses}
use Rattle.plant.specs.Nodes.{numbered}
use Rattle.plant.specs.Tables.{listed}
use Rattle.drawing.specs.declared.mark.Mark.TheVariants.{Semicolon}
use Rattle.drawing.specs.declared.half.Half.{Half}
use Rattle.drawing.specs.declared.text.Text.{Text}
use Rattle.drawing.specs.declared.sketch.Sketch.{Sketch}
use Rattle.drawing.specs.declared.reader.Reader.{Reader}
use Rattle.drawing.specs.Grammar.{Out, good, bad, then, lit, stop, Lines, with_lines, below, complete, none_named, subtree, ending, whole}
use Rattle.drawing.specs.Reads.{rest, Faulted, Reads}
use Rattle.drawing.specs.Halves.{half}
use Rattle.drawing.specs.Sketches.{net, done, waiting, named_in, Built, Complete, Finished, Blank}
use Rattle.drawing.specs.Readings.{ReadsTree, ReadsWhole}
use Rattle.drawing.proofs.Bytes.{faulted, Placed}
use Rattle.drawing.proofs.Marking.{get_or-marks}
use Rattle.plant.proofs.Listed.{listed_length}
use Rattle.drawing.proofs.Meeting.{below_all, below_at}

starts : (s : Sketch) → Blank s → named_in s.named ≡ none_named
starts s b = λ i k. b.unnamed k i

-- the refusal of a part is that of the whole
passed : {A B : Type 0} (e : Refusal) (o : Out A) (k : A → List ℕ → Out B) (p : Out B) (src src' : List ℕ) → Faulted e o src → p ≡ then o k → src ≡ src' → Faulted e p src'
passed e o k p src src' f is same = record {
  told = is ∙ ap (λ x. then x k) f.told ∙ ap (λ x. bad e.reason (drop e.place x)) same;
  within = rw (sym same) f.within;
  part = f.part;
}

pub record TreeRead (d : ℕ) (before after : Reader) : Type 0 where
  pub tree : Tree
  pub src : after.text.src.now ≡ before.text.src.now
  pub told : (n : ℕ) → whole d (net before.sketch) n (length before.sketch.lines.now) (rest before.text) ≡ ending (net before.sketch) n (length before.sketch.lines.now) tree (rest after.text)
  pub built : Built tree before.sketch after.sketch

pub tree_read : (d : ℕ) (before after : Reader) (u : Unit {0}) → Blank before.sketch → ReadsTree (subtree d) before after (Ok u) → TreeRead d before after
tree_read d before after u b r =
    let N = net before.sketch in
    let m = length before.sketch.lines.now in
    record {
      tree = r.reads.0;
      src = ap (λ x. x.now) r.src;
      told = λ n. ap (λ o. then o (ending N n m)) (ap (λ l. subtree d N m l (rest before.text)) (sym (starts before.sketch b)) ∙ r.reads.1);
      built = r.reads.2;
    }

pub whole_broken : (d n : ℕ) (before after last : Reader) (e : Refusal) → Blank before.sketch → ReadsTree (subtree d) before after (Err e) → ReadsWhole d n before last (Err e)
whole_broken d n before after last e b r =
    let N = net before.sketch in
    let m = length before.sketch.lines.now in
    passed e _ (ending N n m) _ _ _ r.reads (ap (λ l. whole_from l) (sym (starts before.sketch b))) (ap (λ x. x.now) r.src)
  where
    whole_from : Lines → Out Tree
    whole_from l = then (subtree d (net before.sketch) (length before.sketch.lines.now) l (rest before.text)) (ending (net before.sketch) n (length before.sketch.lines.now))

-- every line named and every station marked, as the grammar asks
complete_true : (s : Sketch) (n k : ℕ) (N : Net) (t : Tree) → n ≤ 64 → named_in s.named ≡ with_lines t none_named → Complete s n (half N k t) → complete N n (length s.lines.now) t ≡ true
complete_true s n k N t few e w =
    and_from _ _
    (below_all (length s.lines.now) _ (λ i lt.
    let at : (ltb 0 (uses t i) || false) ≡ true = ap (λ f. f i) (sym e) ∙ w.0 i lt in
    ⊎_elim (λ x. x) (λ x. absurd (false≢true x)) (or_cases (ltb 0 (uses t i)) false at)))
    (and_from _ _
    (below_all n _ (λ i lt. let small : i < 64 = omega arith in sym (get_or-marks (station_of N t) i small) ∙ w.1.0 i lt))
    (and_from _ _ (eq-eqb _ _ w.1.1) (eq-eqb _ _ w.1.2)))

complete_from : (s : Sketch) (n k : ℕ) (N : Net) (t : Tree) → n ≤ 64 → named_in s.named ≡ with_lines t none_named → complete N n (length s.lines.now) t ≡ true → Complete s n (half N k t)
complete_from s n k N t few e w =
    let p = and_parts (below (length s.lines.now) (λ i. ltb 0 (uses t i))) _ w in
    let q = and_parts (below n (station_of N t)) _ p.1 in
    let r = and_parts (eqb (left N t) 0) _ q.1 in (
      λ i lt. ap (λ f. f i) e ∙ or_left _ _ (below_at (length s.lines.now) _ p.0 i lt),
      (
        λ i lt. let small : i < 64 = omega arith in get_or-marks (station_of N t) i small ∙ below_at n _ q.0 i lt,
        eqb-true _ _ r.0,
        eqb-true _ _ r.1,
      ),
    )

-- the last test is that of the grammar
judged : (d : ℕ) (before after : Reader) (n : ℕ) (r : Bool) → Blank before.sketch → n ≤ 64 → (h : TreeRead d before after) → ((hs : List Half) (x : Half) → waiting after.sketch ≡ hs ++ x ∷ [] → Decides r (Complete after.sketch n x)) → r ≡ complete (net before.sketch) n (length before.sketch.lines.now) h.tree
judged d before after n r b few h w =
    let N = net before.sketch in
    let t = h.tree in
    let named = h.built.named ∙ ap (with_lines t) (starts before.sketch b) in
    let lines : length after.sketch.lines.now ≡ length before.sketch.lines.now = ap (λ x. length x.now) h.built.lines in
    let k = done before.sketch in
    same_from_decides r _ (w _ _ h.built.halves) (
      (λ e. complete_from after.sketch n k N t few named (ap (λ m. complete N n m t) lines ∙ e)),
      (λ c. ap (λ m. complete N n m t) (sym lines) ∙ complete_true after.sketch n k N t few named c),
    )

-- the rest after a tree
pub whole_unclosed : (d n : ℕ) (before after last : Reader) (t : Text) (e : Refusal) → TreeRead d before after → Reads (lit Semicolon) after.text t (Err e) → ReadsWhole d n before last (Err e)
whole_unclosed d n before after last t e h l = passed e _ _ _ _ _ l.told (h.told n) (ap (λ x. x.now) l.src ∙ h.src)

pub whole_overrun : (d n : ℕ) (before after last : Reader) (t : Text) (u : Unit {0}) (e : Refusal) → TreeRead d before after → Reads (lit Semicolon) after.text t (Ok u) → Reads stop t t (Err e) → ReadsWhole d n before last (Err e)
whole_overrun d n before after last t u e h l s =
    passed e (stop (rest t)) (λ _ v. cond (complete (net before.sketch) n (length before.sketch.lines.now) h.tree) (good h.tree v) (bad NotThePlant v)) _ _ _ s.told
    (h.told n ∙ ap (λ o. then o (λ _ v. then (stop v) (λ _ v. cond (complete (net before.sketch) n (length before.sketch.lines.now) h.tree) (good h.tree v) (bad NotThePlant v)))) l.told)
    (ap (λ x. x.now) l.src ∙ h.src)

ended : (d n : ℕ) (before after : Reader) (t : Text) (u v : Unit {0}) (r : Bool) → (h : TreeRead d before after) → Reads (lit Semicolon) after.text t (Ok u) → Reads stop t t (Ok v) → r ≡ complete (net before.sketch) n (length before.sketch.lines.now) h.tree → whole d (net before.sketch) n (length before.sketch.lines.now) (rest before.text) ≡ cond r (good h.tree (rest t)) (bad NotThePlant (rest t))
ended d n before after t u v r h l s e =
    let N = net before.sketch in
    let m = length before.sketch.lines.now in
    let last : List ℕ → Out Tree = λ w. cond (complete N n m h.tree) (good h.tree w) (bad NotThePlant w) in
    h.told n ∙ ap (λ o. then o (λ _ w. then (stop w) (λ _ w. cond (complete N n m h.tree) (good h.tree w) (bad NotThePlant w)))) l.told
    ∙ ap (λ o. then o (λ _ w. cond (complete N n m h.tree) (good h.tree w) (bad NotThePlant w))) s.told
    ∙ ap (λ b. cond b (good h.tree (rest t)) (bad NotThePlant (rest t))) (sym e)

whole_not : (d n : ℕ) (before after last : Reader) (t : Text) (u v : Unit {0}) (e : Refusal) → Blank before.sketch → n ≤ 64 → (h : TreeRead d before after) → Reads (lit Semicolon) after.text t (Ok u) → Reads stop t t (Ok v) → ((hs : List Half) (x : Half) → waiting after.sketch ≡ hs ++ x ∷ [] → Decides false (Complete after.sketch n x)) → e ≡ record { reason = NotThePlant; part = P.Tree; place = t.pos } → ReadsWhole d n before last (Err e)
whole_not d n before after last t u v e b few h l s w is =
    let same : t.src.now ≡ before.text.src.now = ap (λ x. x.now) l.src ∙ h.src in
    faulted _ NotThePlant t.pos before.text.src.now e is (rw (sym same) t.within)
    (ended d n before after t u v false h l s (judged d before after n false b few h w) ∙ ap (λ x. bad NotThePlant (drop t.pos x)) same)

whole_good : (d n : ℕ) (before after last : Reader) (t : Text) (u v : Unit {0}) → Blank before.sketch → n ≤ 64 → (h : TreeRead d before after) → Reads (lit Semicolon) after.text t (Ok u) → Reads stop t t (Ok v) → ((hs : List Half) (x : Half) → waiting after.sketch ≡ hs ++ x ∷ [] → Decides true (Complete after.sketch n x)) → last.sketch.nodes ≡ after.sketch.nodes → ReadsWhole d n before last (Ok tt)
whole_good d n before after last t u v b few h l s w same =
    let N = net before.sketch in
    let none : listed before.sketch.nodes ≡ [] = nil_from_length (listed before.sketch.nodes) b.none_done in (
      h.tree,
      rest t,
      ended d n before after t u v true h l s (judged d before after n true b few h w),
      rw (listed_length last.sketch.nodes) last.sketch.nodes.sound.1,
      ap listed same ∙ h.built.nodes ∙ (λ i. none i ++ numbered N (b.none_done i) h.tree),
    )

pub whole_read : (d n : ℕ) (before after last : Reader) (t : Text) (u v : Unit {0}) (w : Result (Unit {0}) Reason) (r : Result (Unit {0}) Refusal) → Blank before.sketch → n ≤ 64 → TreeRead d before after → Reads (lit Semicolon) after.text t (Ok u) → Reads stop t t (Ok v) → Finished n after.sketch w → last.sketch.nodes ≡ after.sketch.nodes → Placed w t.pos r → ReadsWhole d n before last r
whole_read d n before after last t u v (Ok x) r b few h l s got same is =
    rw is (whole_good d n before after last t u v b few h l s (λ hs k e. ((λ _. got hs k e), (λ _. refl))) same)
whole_read d n before after last t u v (Err why) r b few h l s got same is =
    rw is.1 (whole_not d n before after last t u v is.0 b few h l s (λ hs k e. ((λ z. absurd (false≢true z)), (λ done. absurd (got.1 hs k e done)))) (is.2 ∙ ap (λ x. record { reason = x; part = P.Tree; place = t.pos }) got.0))
