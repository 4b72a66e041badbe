-- Sums by number over those that a test picks. Assumes nothing.
use Rattle.std.proofs.Common.{◌≡◌, ℕ, zero, suc, ◌+◌, ◌*◌, ◌<◌, ◌≤◌, Bool, true, false, cond, ◌||◌, eqb, sym, refl, ap, ◌∙◌, ⊎_elim, arith}
use Rattle.std.proofs.lemmas.Bool.{eq-eqb, ne_eqb, cases_eq, cond-true, cond-false}
use Rattle.yardsticks.specs.Laws.{Ops, limit, record_limit}
use Rattle.plant.specs.Selections.{upto}
use Rattle.cells.specs.Whole.{sum_upto}

-- no number passes both
abbrev pub Disjoint : (ℕ → Bool) → (ℕ → Bool) → Type 0
Disjoint p q = (i : ℕ) → p i ≡ true → q i ≡ true → ⊥

abbrev pub count_of : (ℕ → Bool) → (ℕ → ℕ) → ℕ → ℕ
count_of p f n = sum_upto (λ i. cond (p i) (f i) 0) n

or_count : (p q : Bool) (x : ℕ) → (p ≡ true → q ≡ true → ⊥) → cond (p || q) x 0 ≡ cond p x 0 + cond q x 0
or_count true true x d = absurd (d refl refl)
or_count true false x d = omega arith
or_count false true x d = omega arith
or_count false false x d = refl

pub count_or : (p q : ℕ → Bool) (f : ℕ → ℕ) (n : ℕ) → Disjoint p q → count_of (λ i. p i || q i) f n ≡ count_of p f n + count_of q f n
count_or p q f zero d = refl
count_or p q f (suc n) d = omega (arith, count_or p q f n d, or_count (p n) (q n) (f n) (d n))

pub count_none : (f : ℕ → ℕ) (n : ℕ) → count_of (λ i. false) f n ≡ 0
count_none f zero = refl
count_none f (suc n) = omega (arith, count_none f n)

-- not reached yet
count_before : (j : ℕ) (f : ℕ → ℕ) (n : ℕ) → n ≤ j → count_of (eqb j) f n ≡ 0
count_before j f zero h = refl
count_before j f (suc n) h = let e = cond-false _ (f n) 0 (ne_eqb j n (λ is. omega arith)) in omega (arith, count_before j f n (omega arith))

pub count_one : (j : ℕ) (f : ℕ → ℕ) (n : ℕ) → j < n → count_of (eqb j) f n ≡ f j
count_one j f zero h = absurd (omega arith)
count_one j f (suc n) h = ⊎_elim
    (λ is. let e = cond-true _ (f n) 0 (eq-eqb j n is) in let g = ap f is in omega (arith, count_before j f n (omega arith)))
    (λ ne. let e = cond-false _ (f n) 0 (ne_eqb j n ne) in omega (arith, count_one j f n (omega arith)))
    (cases_eq j n)

pub count_all : (p : ℕ → Bool) (f : ℕ → ℕ) (n : ℕ) → ((i : ℕ) → i < n → p i ≡ true) → count_of p f n ≡ sum_upto f n
count_all p f zero h = refl
count_all p f (suc n) h = let e = cond-true _ (f n) 0 (h n (omega arith)) in omega (arith, count_all p f n (λ i lt. h i (omega arith)))

pub sum_bound : (f : ℕ → ℕ) (n : ℕ) → ((i : ℕ) → f i ≤ record_limit) → sum_upto f n ≤ n * record_limit
sum_bound f zero h = omega arith
sum_bound f (suc n) h = omega (arith, sum_bound f n h, h n)

cond-bound : (b : Bool) (x : ℕ) → cond b x 0 ≤ x
cond-bound true x = omega arith
cond-bound false x = omega arith

pub count_bound : (p : ℕ → Bool) (f : ℕ → ℕ) (n : ℕ) → ((i : ℕ) → f i ≤ record_limit) → count_of p f n ≤ n * record_limit
count_bound p f n h = sum_bound (λ i. cond (p i) (f i) 0) n (λ i. omega (arith, cond-bound (p i) (f i), h i))

pub sum_ones : (n : ℕ) → sum_upto (λ i. 1) n ≡ n
sum_ones zero = refl
sum_ones (suc n) = omega (arith, sum_ones n)

module _ {F : Type 0} {nil : F} {plus : F → F → F} {above : F → F → Bool} {size : F → ℕ} (laws : Ops nil plus above size) where
  pub right_unit : (a : F) → size a ≤ limit → plus a nil ≡ a
  right_unit a h = laws.comm a nil (omega (arith, laws.size_nil)) ∙ laws.unit a h

  pub interchange : (a x b y : F) → size a + size x + size b + size y ≤ limit → plus (plus a x) (plus b y) ≡ plus (plus a b) (plus x y)
  interchange a x b y h =
      let by = laws.size_plus b y (omega arith) in
      let xy = laws.size_plus x y (omega arith) in
      laws.assoc a x (plus b y) (omega arith)
      ∙ ap (plus a) (sym (laws.assoc x b y (omega arith)) ∙ ap (λ u. plus u y) (laws.comm x b (omega arith)) ∙ laws.assoc b x y (omega arith))
      ∙ sym (laws.assoc a b (plus x y) (omega arith))

  -- u + v + c, with c beside u
  pub tuck : (u v c : F) → size u + size v + size c ≤ limit → plus (plus u v) c ≡ plus (plus u c) v
  tuck u v c h = laws.assoc u v c h ∙ ap (plus u) (laws.comm v c (omega arith)) ∙ sym (laws.assoc u c v (omega arith))

  pub regroup : (a x b y c : F) → size a + size x + size b + size y + size c ≤ limit → plus (plus (plus a x) (plus b y)) c ≡ plus (plus (plus a b) c) (plus x y)
  regroup a x b y c h =
      let ab = laws.size_plus a b (omega arith) in
      let xy = laws.size_plus x y (omega arith) in
      ap (λ u. plus u c) (interchange a x b y (omega arith)) ∙ tuck (plus a b) (plus x y) c (omega arith)

  abbrev pub among : (ℕ → Bool) → (ℕ → F) → ℕ → F
  among p f n = upto nil plus (λ i. cond (p i) (f i) nil) n

  -- how much they weigh together
  abbrev pub weight_of : (ℕ → Bool) → (ℕ → F) → ℕ → ℕ
  weight_of p f n = count_of p (λ i. size (f i)) n

  cond-size : (b : Bool) (x : F) → size (cond b x nil) ≡ cond b (size x) 0
  cond-size true x = refl
  cond-size false x = laws.size_nil

  pub among_size : (p : ℕ → Bool) (f : ℕ → F) (n : ℕ) → weight_of p f n ≤ limit → size (among p f n) ≤ weight_of p f n
  among_size p f zero h = omega (arith, laws.size_nil)
  among_size p f (suc n) h =
      let e = cond-size (p n) (f n) in
      let x = among_size p f n (omega arith) in
      let y = laws.size_plus (among p f n) (cond (p n) (f n) nil) (omega arith) in
      omega arith

  or_plus : (p q : Bool) (x : F) → size x ≤ limit → (p ≡ true → q ≡ true → ⊥) → cond (p || q) x nil ≡ plus (cond p x nil) (cond q x nil)
  or_plus true true x h d = absurd (d refl refl)
  or_plus true false x h d = sym (right_unit x h)
  or_plus false true x h d = sym (laws.unit x h)
  or_plus false false x h d = sym (laws.unit nil (omega (arith, laws.size_nil)))

  pub among_or : (p q : ℕ → Bool) (f : ℕ → F) (n : ℕ) → Disjoint p q → ((i : ℕ) → size (f i) ≤ limit) → weight_of p f n + weight_of q f n ≤ limit → among (λ i. p i || q i) f n ≡ plus (among p f n) (among q f n)
  among_or p q f zero d one h = sym (laws.unit nil (omega (arith, laws.size_nil)))
  among_or p q f (suc n) d one h =
      let e = cond-size (p n) (f n) in
      let g = cond-size (q n) (f n) in
      let x = among_size p f n (omega arith) in
      let y = among_size q f n (omega arith) in
      ap (λ u. plus u (cond (p n || q n) (f n) nil)) (among_or p q f n d one (omega arith))
      ∙ ap (plus (plus (among p f n) (among q f n))) (or_plus (p n) (q n) (f n) (one n) (d n))
      ∙ interchange (among p f n) (among q f n) (cond (p n) (f n) nil) (cond (q n) (f n) nil) (omega arith)

  pub among_none : (f : ℕ → F) (n : ℕ) → among (λ i. false) f n ≡ nil
  among_none f zero = refl
  among_none f (suc n) = ap (λ u. plus u nil) (among_none f n) ∙ laws.unit nil (omega (arith, laws.size_nil))

  among_before : (j : ℕ) (f : ℕ → F) (n : ℕ) → n ≤ j → among (eqb j) f n ≡ nil
  among_before j f zero h = refl
  among_before j f (suc n) h = rw (among_before j f n (omega arith), cond-false _ (f n) nil (ne_eqb j n (λ is. omega arith))) (laws.unit nil (omega (arith, laws.size_nil)))

  pub among_one : (j : ℕ) (f : ℕ → F) (n : ℕ) → j < n → size (f j) ≤ limit → among (eqb j) f n ≡ f j
  among_one j f zero h one = absurd (omega arith)
  among_one j f (suc n) h one = ⊎_elim
      (λ is. rw (among_before j f n (omega arith), cond-true _ (f n) nil (eq-eqb j n is), ← is) (laws.unit (f j) one))
      (λ ne. rw (among_one j f n (omega arith) one, cond-false _ (f n) nil (ne_eqb j n ne)) (right_unit (f j) one))
      (cases_eq j n)

  pub among_all : (p : ℕ → Bool) (f : ℕ → F) (n : ℕ) → ((i : ℕ) → i < n → p i ≡ true) → among p f n ≡ upto nil plus f n
  among_all p f zero h = refl
  among_all p f (suc n) h = rw (among_all p f n (λ i lt. h i (omega arith)), cond-true _ (f n) nil (h n (omega arith)))
