-- The reader's steps. Assumes nothing.
use Rattle.std.proofs.Common.{◌≡◌, ℕ, zero, suc, ◌+◌, ◌-◌, ◌≤◌, min, Bool, true, false, cond, not, ◌&&◌, ◌||◌, ltb, List, [], ◌∷◌, ◌++◌, length, get_or, drop, Ok, Err, Result, sym, refl, ap, ◌∙◌, subst, ⊎_elim, append_assoc, arith}
use Rattle.std.proofs.lemmas.List.{length_push}
use Rattle.std.proofs.lemmas.Bool.{cases_lt, lt-ltb, le-ltb, ltb-true, and_parts}
use Rattle.plant.specs.declared.refusal.Refusal.{Refusal}
use Rattle.plant.specs.declared.refusal.Reason.{Reason}
use Rattle.plant.specs.declared.refusal.Reason.TheVariants.{LeafNumber, HalvesApart}
use Rattle.plant.specs.declared.refusal.Part.TheVariants as P
use Rattle.plant.specs.declared.tree.Join.{Join}
use Rattle.plant.specs.declared.tree.Join.TheVariants.{Series, Parallel}
use Rattle.plant.specs.declared.tree.Shape.TheVariants as S
use Rattle.plant.specs.declared.tree.Node.{Node}
use Rattle.plant.specs.Trees.{Net, net_of, Tree, leaf, uses}
use Rattle.plant.specs.Nodes.{size, numbered, node, joined}
use Rattle.plant.specs.Held.{room}
use Rattle.plant.specs.Tables.{listed}
use Rattle.drawing.specs.declared.mark.Mark.TheVariants.{Comma, Close}
use Rattle.drawing.specs.declared.half.Half.{Half}
use Rattle.drawing.specs.declared.text.Text.{Text}
use Rattle.drawing.specs.declared.sketch.Sketch.{Sketch}
use Rattle.drawing.specs.declared.reader.Reader.{Reader}
use Rattle.drawing.specs.Grammar.{Out, good, bad, then, lit, letter, number, Lines, with_lines, meet, leaf_line, join_letter, subtree, pair}
use Rattle.drawing.specs.Reads.{rest, Reads, capped}
use Rattle.drawing.specs.Halves.{Meet, tally, half}
use Rattle.drawing.specs.Sketches.{net, done, waiting, named_in, Counted, Leafed, Joined, Built}
use Rattle.drawing.specs.Readings.{IsTree, ReadsTree}
use Rattle.drawing.proofs.Bytes.{faulted, Placed}
use Rattle.drawing.proofs.Meeting.{meet_true, meet_false, joint_half, joined_ends, joined_size}

-- ---- a leaf

-- what was read before the cap
pub record Uncapped (o : Out ℕ) (n : ℕ) (s : List ℕ) : Type 0 where
  pub value : ℕ
  pub is : o ≡ good value s
  pub cap : n ≡ min value 128

uncapped : (o : Out ℕ) (n : ℕ) (s : List ℕ) → capped o ≡ good n s → Uncapped o n s
uncapped (good k u) n s e =
    let at : n ≡ min k 128 = cc in
    let there : u ≡ s = cc in
    record { value = k; is = ap (λ z. good k z) there; cap = at }
uncapped (bad r u) n s e = let z : ◌≡◌ {A = ℕ} 0 1 = cc in absurd (omega arith)

-- a number past every line names none, capped or not
free_capped : (k m : ℕ) (named : Lines) → m ≤ 128 → (ltb (min k 128) m && not (named (min k 128))) ≡ (ltb k m && not (named k))
free_capped k m named few =
    ⊎_elim
    (λ lt. let e : min k 128 ≡ k = omega arith in rw e refl)
    (λ ge.
    let e : min k 128 ≡ 128 = omega arith in
    rw (e, le-ltb 128 m few, le-ltb k m (omega arith)) refl)
    (cases_lt k 128)

leaf_told : (m n : ℕ) (named : Lines) (s u : List ℕ) (b : Bool) → m ≤ 128 → capped (number s) ≡ good n u → b ≡ (ltb n m && not (named n)) → (k : ℕ) × (n ≡ min k 128) × (leaf_line m named s ≡ cond b (good (leaf k) u) (bad LeafNumber s))
leaf_told m n named s u b few e is =
    let w = uncapped (number s) n u e in
    let k = w.value in
    let t : (ltb k m && not (named k)) ≡ b = sym (free_capped k m named few) ∙ ap (λ x. ltb x m && not (named x)) (sym w.cap) ∙ sym is in (
      k,
      w.cap,
      ap (λ o. then o (λ k v. cond (ltb k m && not (named k)) (good (leaf k) v) (bad LeafNumber s))) w.is ∙ ap (λ x. cond x (good (leaf k) u) (bad LeafNumber s)) t,
    )

leaf_good : (before : Reader) (t : Text) (s : Sketch) (n : ℕ) → Reads (λ u. capped (number u)) before.text t (Ok n) → true ≡ (ltb n (length before.sketch.lines.now) && not (get_or before.sketch.named n false)) → Built (leaf n) before.sketch s → ReadsTree (λ _ m. leaf_line m) before (record { text = t; sketch = s }) (Ok tt)
leaf_good before t s n l free b =
    let lt = ltb-true n (length before.sketch.lines.now) (and_parts (ltb n (length before.sketch.lines.now)) _ (sym free)).0 in
    let w = leaf_told (length before.sketch.lines.now) n (named_in before.sketch.named) (rest before.text) (rest t) true before.sketch.few l.told free in
    let is : n ≡ w.0 = omega (arith, w.1, before.sketch.few) in
    record { src = l.src; reads = (leaf n, w.2 ∙ ap (λ k. good (leaf k) (rest t)) (sym is), b) }

leaf_refused : (before : Reader) (t : Text) (s : Sketch) (n : ℕ) (e : Refusal) → Reads (λ u. capped (number u)) before.text t (Ok n) → false ≡ (ltb n (length before.sketch.lines.now) && not (get_or before.sketch.named n false)) → e ≡ record { reason = LeafNumber; part = P.Tree; place = before.text.pos } → ReadsTree (λ _ m. leaf_line m) before (record { text = t; sketch = s }) (Err e)
leaf_refused before t s n e l taken is =
    let w = leaf_told (length before.sketch.lines.now) n (named_in before.sketch.named) (rest before.text) (rest t) false before.sketch.few l.told taken in
    let same : t.src.now ≡ before.text.src.now = ap (λ x. x.now) l.src in
    record {
      src = l.src;
      reads = faulted _ LeafNumber before.text.pos t.src.now e is (rw same before.text.within) (w.2 ∙ ap (λ x. bad LeafNumber (drop before.text.pos x)) (sym same));
    }

pub leaf_read : (before : Reader) (t : Text) (s : Sketch) (n : ℕ) (w : Result (Unit {0}) Reason) (r : Result (Unit {0}) Refusal) → Reads (λ u. capped (number u)) before.text t (Ok n) → Leafed n before.sketch s w → Placed w before.text.pos r → ReadsTree (λ _ m. leaf_line m) before (record { text = t; sketch = s }) r
leaf_read before t s n (Ok u) r l got is = rw is (leaf_good before t s n l (sym got.0) got.1)
leaf_read before t s n (Err why) r l got is = rw is.1 (leaf_refused before t s n is.0 l (sym got.1) (is.2 ∙ ap (λ x. record { reason = x; part = P.Tree; place = before.text.pos }) got.0))

-- ---- a pair

-- the lines of two halves
with_sum : (x y : ℕ) (c : Bool) → (ltb 0 y || (ltb 0 x || c)) ≡ (ltb 0 (x + y) || c)
with_sum x y c =
    ⊎_elim
    (λ p. rw (lt-ltb 0 y p, lt-ltb 0 (x + y) (omega arith)) refl)
    (λ z. let e : x + y ≡ x = omega arith in rw (le-ltb 0 y z, e) refl)
    (cases_lt 0 y)

with_both : (j : Join) (a b : Tree) (named : Lines) → with_lines b (with_lines a named) ≡ with_lines (joined j a b) named
with_both Series a b named = λ i k. with_sum (uses a k) (uses b k) (named k) i
with_both Parallel a b named = λ i k. with_sum (uses a k) (uses b k) (named k) i

pub two_halves : (h₀ h₁ h₂ : List Half) (a b : Half) → h₁ ≡ h₀ ++ a ∷ [] → h₂ ≡ h₁ ++ b ∷ [] → h₂ ≡ h₀ ++ a ∷ b ∷ []
two_halves h₀ h₁ h₂ a b p q = q ∙ ap (λ h. h ++ b ∷ []) p ∙ append_assoc h₀ (a ∷ []) (b ∷ [])

-- what is read before the letter
pub record Halves (d : ℕ) (r₀ r₃ : Reader) (t₄ : Text) : Type 0 where
  pub first : Tree
  pub second : Tree
  pub src : t₄.src ≡ r₀.text.src
  pub lines : r₃.sketch.lines ≡ r₀.sketch.lines
  pub reads : pair d (net r₀.sketch) (length r₀.sketch.lines.now) (named_in r₀.sketch.named) (rest r₀.text) ≡ join_letter (net r₀.sketch) first second (rest t₄)
  pub named : named_in r₃.sketch.named ≡ with_lines second (with_lines first (named_in r₀.sketch.named))
  pub held : waiting r₃.sketch ≡ waiting r₀.sketch ++ half (net r₀.sketch) (done r₀.sketch) first ∷ half (net r₀.sketch) (done r₀.sketch + size first) second ∷ []
  pub nodes : listed r₃.sketch.nodes ≡ listed r₀.sketch.nodes ++ (numbered (net r₀.sketch) (done r₀.sketch) first ++ numbered (net r₀.sketch) (done r₀.sketch + size first) second)
  pub count : done r₃.sketch ≡ done r₀.sketch + size first + size second
  pub room : room r₃.sketch.halves ≡ room r₀.sketch.halves
  pub counted : Counted r₀.sketch → Counted r₃.sketch

pub halves : (d : ℕ) {r₀ r₁ r₃ : Reader} {t₂ t₄ : Text} {u v x y : Unit {0}} → ReadsTree (subtree d) r₀ r₁ (Ok u) → Reads (lit Comma) r₁.text t₂ (Ok x) → ReadsTree (subtree d) (record { text = t₂; sketch = r₁.sketch }) r₃ (Ok v) → Reads (lit Close) r₃.text t₄ (Ok y) → Halves d r₀ r₃ t₄
halves d {r₀} {r₁} {r₃} {t₂} {t₄} a p b q =
    let N = net r₀.sketch in
    let m = length r₀.sketch.lines.now in
    let n = done r₀.sketch in
    let A = a.reads.0 in
    let B = b.reads.0 in
    let one = a.reads.2 in
    let two = b.reads.2 in
    let bb : subtree d N m (with_lines A (named_in r₀.sketch.named)) (rest t₂) ≡ good B (rest r₃.text) =
    sym (λ i. subtree d (net_of (one.lines i).now) (length (one.lines i).now) (one.named i) (rest t₂)) ∙ b.reads.1 in
    record {
      first = A;
      second = B;
      src = q.src ∙ b.src ∙ p.src ∙ a.src;
      lines = two.lines ∙ one.lines;
      reads = rw (a.reads.1, p.told, bb, q.told) refl;
      named = two.named ∙ ap (with_lines B) one.named;
      held = two_halves _ _ _ _ _ one.halves (two.halves ∙ (λ i. waiting r₁.sketch ++ half (net_of (one.lines i).now) (one.count i) B ∷ []));
      nodes = two.nodes ∙ (λ i. one.nodes i ++ numbered (net_of (one.lines i).now) (one.count i) B) ∙ append_assoc (listed r₀.sketch.nodes) (numbered N n A) (numbered N (n + size A) B);
      count = two.count ∙ ap (λ k. k + size B) one.count;
      room = two.room ∙ one.room;
      counted = λ c. two.counted (one.counted c);
    }

numbered_joined : (N : Net) (n : ℕ) (j : Join) (a b : Tree) → numbered N n a ++ (numbered N (n + size a) b ++ node N (joined j a b) (S.Join j (n + size a - 1) (n + size a + size b - 1)) ∷ []) ≡ numbered N n (joined j a b)
numbered_joined N n Series a b = refl
numbered_joined N n Parallel a b = refl

three : (d x y z : List Node) → (d ++ (x ++ y)) ++ z ≡ d ++ (x ++ (y ++ z))
three d x y z = append_assoc d (x ++ y) z ∙ ap (λ l. d ++ l) (append_assoc x y z)

pair_built : (d : ℕ) {r₀ r₃ : Reader} {t₄ : Text} (j : Join) (s : Sketch) (h : Halves d r₀ r₃ t₄) → Joined j r₃.sketch s (Ok tt) → (meet (net r₀.sketch) j h.first h.second ≡ true) × Built (joined j h.first h.second) r₀.sketch s
pair_built d {r₀} {r₃} {t₄} j s h w =
    let N = net r₀.sketch in
    let n = done r₀.sketch in
    let A = h.first in
    let B = h.second in
    let got = w _ _ _ h.held in
    let m : Meet j (half N n A) (half N (n + size A) B) = got.0 in
    let g = got.1 in
    let ends = joined_ends N n (n + size A) j A B m in
    let new = joint_half N n (n + size A) (done r₃.sketch) j A B m h.count in (
      meet_true N n (n + size A) j A B m,
      record {
        lines = g.lines ∙ h.lines;
        named = ap named_in g.named ∙ h.named ∙ with_both j A B (named_in r₀.sketch.named);
        nodes =
            g.nodes
            ∙ (λ i. h.nodes i ++ record { shape = S.Join j (n + size A - 1) (n + size A + size B - 1); left = ends.0 i; right = ends.1 i } ∷ [])
            ∙ three (listed r₀.sketch.nodes) (numbered N n A) (numbered N (n + size A) B) _
            ∙ ap (λ l. listed r₀.sketch.nodes ++ l) (numbered_joined N n j A B);
        halves = g.halves ∙ ap (λ x. waiting r₀.sketch ++ x ∷ []) new;
        count = omega (arith, g.count, h.count, joined_size j A B);
        room = g.room ∙ h.room;
        counted = λ c.
            let a = ap length g.halves ∙ length_push (waiting r₀.sketch) _ in
            let b = ap length h.held ∙ length_two (waiting r₀.sketch) _ _ in
            omega (arith, h.counted c, g.count, ap tally g.named, a, b);
      },
    )
  where
    length_two : (l : List Half) (x y : Half) → length (l ++ x ∷ y ∷ []) ≡ length l + 2
    length_two l x y = omega (arith, ap length (append_assoc l (x ∷ []) (y ∷ [])), length_push (l ++ x ∷ []) y, length_push l x)

pair_good : (d : ℕ) {r₀ r₃ : Reader} {t₄ t₅ : Text} {j : Join} (s : Sketch) → Halves d r₀ r₃ t₄ → Reads letter t₄ t₅ (Ok j) → Joined j r₃.sketch s (Ok tt) → ReadsTree (pair d) r₀ (record { text = t₅; sketch = s }) (Ok tt)
pair_good d {r₀} {r₃} {t₄} {t₅} {j} s h l w =
    let b = pair_built d j s h w in
    record {
      src = l.src ∙ h.src;
      reads = (joined j h.first h.second, h.reads ∙ rw (l.told, b.0) refl, b.1);
    }

pair_apart : (d : ℕ) {r₀ r₃ : Reader} {t₄ t₅ : Text} {j : Join} (s : Sketch) (e : Refusal) → Halves d r₀ r₃ t₄ → Reads letter t₄ t₅ (Ok j) → ((hs : List Half) (p q : Half) → waiting r₃.sketch ≡ hs ++ p ∷ q ∷ [] → Meet j p q → ⊥) → e ≡ record { reason = HalvesApart; part = P.Tree; place = t₄.pos } → ReadsTree (pair d) r₀ (record { text = t₅; sketch = s }) (Err e)
pair_apart d {r₀} {r₃} {t₄} {t₅} {j} s e h l w is =
    let N = net r₀.sketch in
    let n = done r₀.sketch in
    let f = meet_false N n (n + size h.first) j h.first h.second (w _ _ _ h.held) in
    let same : t₅.src.now ≡ t₄.src.now = ap (λ x. x.now) l.src in
    let told : pair d N (length r₀.sketch.lines.now) (named_in r₀.sketch.named) (rest r₀.text) ≡ bad HalvesApart (rest t₄) = h.reads ∙ rw (l.told, f) refl in
    record {
      src = l.src ∙ h.src;
      reads = faulted _ HalvesApart t₄.pos t₅.src.now e is (rw same t₄.within) (told ∙ ap (λ x. bad HalvesApart (drop t₄.pos x)) (sym same));
    }

pub pair_read : (d : ℕ) {r₀ r₃ : Reader} {t₄ t₅ : Text} {j : Join} (s : Sketch) (w : Result (Unit {0}) Reason) (r : Result (Unit {0}) Refusal) → Halves d r₀ r₃ t₄ → Reads letter t₄ t₅ (Ok j) → Joined j r₃.sketch s w → Placed w t₄.pos r → ReadsTree (pair d) r₀ (record { text = t₅; sketch = s }) r
pair_read d s (Ok u) r h l got is = rw is (pair_good d s h l got)
pair_read d {r₀} {r₃} {t₄} s (Err why) r h l got is = rw is.1 (pair_apart d s is.0 h l got.1 (is.2 ∙ ap (λ x. record { reason = x; part = P.Tree; place = t₄.pos }) got.0))

pub longer : {before after : Reader} {u : Unit {0}} (f : Net → ℕ → Lines → List ℕ → Out Tree) → ReadsTree f before after (Ok u) → length (waiting after.sketch) ≡ length (waiting before.sketch) + 1
longer f a = ap length a.reads.2.halves ∙ length_push _ _

-- ---- a subtree

subtree_open : (d : ℕ) (N : Net) (m : ℕ) (named : Lines) (s : List ℕ) → (d ≡ 0 → ⊥) → subtree d N m named (40 ∷ s) ≡ pair (d - 1) N m named s
subtree_open zero N m named s h = absurd (h refl)
subtree_open (suc d) N m named s h = let e : suc d - 1 ≡ d = omega arith in rw e refl

pub subtree_opens : (d : ℕ) (before after : Reader) (r : Result (Unit {0}) Refusal) (t : Text) → rest before.text ≡ 40 ∷ drop (before.text.pos + 1) before.text.src.now → (d ≡ 0 → ⊥) → t.src ≡ before.text.src → t.pos ≡ before.text.pos + 1 → ReadsTree (pair (d - 1)) (record { text = t; sketch = before.sketch }) after r → ReadsTree (subtree d) before after r
subtree_opens d before after r t e n step on h =
    let N = net before.sketch in
    let m = length before.sketch.lines.now in
    let named = named_in before.sketch.named in
    let P : Out Tree → Type 0 = λ o. IsTree r o before after in
    let is : subtree d N m named (rest before.text) ≡ pair (d - 1) N m named (rest t) =
    ap (subtree d N m named) e ∙ subtree_open d N m named _ n ∙ (λ i. pair (d - 1) N m named (drop (sym on i) (sym step i).now)) in
    record { src = h.src ∙ step; reads = subst P (sym is) (back r _ h.reads) }
  where
    back : (r : Result (Unit {0}) Refusal) (o : Out Tree) → IsTree r o (record { text = t; sketch = before.sketch }) after → IsTree r o before after
    back (Ok x) o w = w
    back (Err x) o w = w
