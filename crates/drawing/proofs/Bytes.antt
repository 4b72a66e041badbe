-- Characters and their bytes. Assumes nothing.
use Rattle.std.proofs.Common.{◌≡◌, ℕ, ◌+◌, ◌-◌, ◌*◌, ◌<◌, ◌≤◌, min, Bool, true, false, eqb, leb, List, [], ◌∷◌, length, drop, get_or, Some, None, Option, Ok, Err, Result, sym, refl, ap, ◌∙◌, subst, ⊎_elim, arith}
use Rattle.std.proofs.lemmas.List.{drop_more, drop_all}
use Rattle.std.proofs.lemmas.Bool.{cases_lt, eqb-true, le-leb, leb-true, and_parts, and_from, cond_both}
use Rattle.std.specs.Result.{MatchResult, IsErrAnd}
use Rattle.plant.specs.declared.refusal.Refusal.{Refusal}
use Rattle.plant.specs.declared.refusal.Part.TheVariants as P
use Rattle.plant.specs.declared.refusal.Reason.{Reason}
use Rattle.plant.specs.declared.refusal.Reason.TheVariants.{TreeGrammar}
use Rattle.drawing.specs.declared.mark.Mark.{Mark}
use Rattle.drawing.specs.declared.text.Text.{Text}
use Rattle.drawing.specs.Marks.{sign, digit, mark_of, first_mark, Fair}
use Rattle.drawing.specs.Grammar.{Out, good, bad, stop, digits}
use Rattle.drawing.specs.Reads.{rest, Ahead, Peeked, Faulted, Reads, capped}

pub by_bool : {P : Type 0} (b : Bool) → (b ≡ true → P) → (b ≡ false → P) → P
by_bool true f g = f refl
by_bool false f g = g refl

-- a byte with a character is the byte of that character
abbrev Says : ℕ → Option Mark → Type 0
Says b None = Unit {0}
Says b (Some m) = (b ≡ sign m) × Fair m

mark_says : (b : ℕ) → Says b (mark_of b)
mark_says b =
    cond_both (eqb b 40) _ _ (Says b) (λ e. (eqb-true b 40 e, tt)) (λ _.
    cond_both (eqb b 44) _ _ (Says b) (λ e. (eqb-true b 44 e, tt)) (λ _.
    cond_both (eqb b 41) _ _ (Says b) (λ e. (eqb-true b 41 e, tt)) (λ _.
    cond_both (eqb b 59) _ _ (Says b) (λ e. (eqb-true b 59 e, tt)) (λ _.
    cond_both (digit b) _ _ (Says b)
    (λ e.
    let both = and_parts (leb 48 b) (leb b 57) e in
    let low = leb-true 48 b both.0 in
    let high = leb-true b 57 both.1 in
    (omega arith, omega arith))
    (λ _.
    cond_both (eqb b 115) _ _ (Says b) (λ e. (eqb-true b 115 e, tt)) (λ _.
    cond_both (eqb b 112) _ _ (Says b) (λ e. (eqb-true b 112 e, tt)) (λ _. tt)))))))

ahead_says : (t : Text) (b : ℕ) (r : Option Mark) → Says b r → t.pos < length t.src.now → rest t ≡ b ∷ drop (t.pos + 1) t.src.now → Ahead t r
ahead_says t b None w lt e = tt
ahead_says t b (Some m) w lt e = (lt, e ∙ ap (λ x. x ∷ drop (t.pos + 1) t.src.now) w.0, w.1)

-- the next character, as the bytes to be read show it
pub peeked : (t : Text) (r : Option Mark) → r ≡ first_mark (rest t) → Peeked t r
peeked t r h =
    let s = t.src.now in
    let b = get_or s t.pos 0 in
    record {
      is = h;
      ahead =
          ⊎_elim
          (λ lt. let e = drop_more s t.pos 0 lt in ahead_says t b r (subst (Says b) (sym (h ∙ ap first_mark e)) (mark_says b)) lt e)
          (λ ge. subst (Ahead t) (sym (h ∙ ap first_mark (drop_all t.pos s ge))) tt)
          (cases_lt t.pos (length s));
    }

-- the byte of a digit is one
pub digit_in : (d : ℕ) → d ≤ 9 → digit (48 + d) ≡ true
digit_in d h = and_from _ _ (le-leb 48 (48 + d) (omega arith)) (le-leb (48 + d) 57 (omega arith))

pub stop_more : (b : ℕ) (s u : List ℕ) → s ≡ b ∷ u → stop s ≡ bad TreeGrammar s
stop_more b s u e = rw e refl

-- a refusal with its reason and its place
pub faulted : {A : Type 0} (o : Out A) (why : Reason) (p : ℕ) (src : List ℕ) (e : Refusal) → e ≡ record { reason = why; part = P.Tree; place = p } → p ≤ length src → o ≡ bad why (drop p src) → Faulted e o src
faulted o why p src e is le h =
    let at : e.place ≡ p = ap (λ x. x.place) is in
    let r : e.reason ≡ why = ap (λ x. x.reason) is in
    record { told = h ∙ (λ i. bad (sym r i) (drop (sym at i) src)); within = rw at le; part = ap (λ x. x.part) is }

-- the reason of a refusal, with its place
abbrev pub Placed : {A : Type 0} → Result A Reason → ℕ → Result A Refusal → Type 0
Placed (Ok x) p r = r ≡ Ok x
Placed (Err why) p r = (e : Refusal) × (r ≡ Err e) × (e ≡ record { reason = why; part = P.Tree; place = p })

pub placed : {A : Type 0} (Gives : Reason → Refusal → Type 0) (w : Result A Reason) (p : ℕ) (r : Result A Refusal) → MatchResult w (λ x. r ≡ Ok x) (λ why. IsErrAnd r (Gives why)) → ((why : Reason) (e : Refusal) → Gives why e → e ≡ record { reason = why; part = P.Tree; place = p }) → Placed w p r
placed Gives (Ok x) p r m given = m
placed Gives (Err why) p (Ok x) m given = absurd m
placed Gives (Err why) p (Err e) m given = (e, refl, given why e m)

-- the refusal of the byte where the reader stands
pub faulted_here : {A : Type 0} (f : List ℕ → Out A) (t : Text) (e : Refusal) → f (rest t) ≡ bad TreeGrammar (rest t) → e ≡ record { reason = TreeGrammar; part = P.Tree; place = t.pos } → Reads f t t (Err e)
faulted_here f t e h is = record { src = refl; told = faulted (f (rest t)) TreeGrammar t.pos t.src.now e is t.within h }

-- digits past the cap do not count
pub capped_digits : (s : List ℕ) (n m : ℕ) → min n 128 ≡ min m 128 → capped (digits n s) ≡ capped (digits m s)
capped_digits [] n m e = ap (λ x. good x []) e
capped_digits (b ∷ s) n m e =
    let v : min (n * 10 + (b - 48)) 128 ≡ min (m * 10 + (b - 48)) 128 = omega arith in
    by_bool (digit b)
    (λ h. rw h (capped_digits s (n * 10 + (b - 48)) (m * 10 + (b - 48)) v))
    (λ h. rw h (ap (λ x. good x (b ∷ s)) e))

pub digits_more : (n m d : ℕ) (s u : List ℕ) → s ≡ (48 + d) ∷ u → d ≤ 9 → m ≡ min (n * 10 + d) 128 → capped (digits m u) ≡ capped (digits n s)
digits_more n m d s u e le h =
    let f : 48 + d - 48 ≡ d = omega arith in
    let same : min (n * 10 + d) 128 ≡ min m 128 = omega arith in
    rw (e, digit_in d le, f) (sym (capped_digits u (n * 10 + d) m same))
