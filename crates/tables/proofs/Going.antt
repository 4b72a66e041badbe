-- A record half read. Assumes nothing.
use Rattle.std.proofs.Common.{◌≡◌, ℕ, ◌+◌, ◌-◌, ◌<◌, ◌≤◌, Bool, true, false, if◌then◌else◌, ltb, List, [], ◌∷◌, ◌++◌, map, length, get_or, take, drop, sym, ap, ◌∙◌, subst, ⊎_elim, arith, Bor}
use Rattle.tables.specs.declared.grammar.Records.{Records}
use Rattle.tables.specs.declared.grammar.State.{State}
use Rattle.tables.specs.declared.grammar.State.TheVariants as S
use Rattle.plant.specs.declared.table.Table.{Table}
use Rattle.plant.specs.Tables.{listed}
use Rattle.plant.proofs.Listed.{listed_length}
use Rattle.tables.specs.declared.grammar.Class.{Class}
use Rattle.tables.specs.declared.grammar.Move.TheVariants as M
use Rattle.tables.specs.Machine.{class, next, go, run}
use Rattle.tables.specs.Fields.{held}
use Rattle.tables.specs.Reads.{rest}
use Rattle.std.proofs.lemmas.Bool.{cases_lt, ltb-true, ltb-false}
use Rattle.std.proofs.lemmas.List.{take_all, take-append-le, take-take, map-append, length_push, length-map, length-take-le, take_more, get_or-drop, length-drop}

-- the bytes from i up to j
abbrev pub between : ℕ → ℕ → List ℕ → List ℕ
between i j xs = take (j - i) (drop i xs)

pub record Going (before at : Records) (st : State) (from : ℕ) (f : Table (Bor (List ℕ)) 6) : Type 0 where
  pub src : at.src ≡ before.src
  pub low : from ≤ at.pos
  pub ps : List (List ℕ)
  pub parts : held f ≡ take 6 ps
  pub same : run (rest before) S.Start [] [] ≡ run (rest at) st (between from at.pos at.src.now) ps

abbrev now_of : Bor (List ℕ) → List ℕ
now_of p = p.now

pub push_none : (xs : List (Bor (List ℕ))) (p : List ℕ) → length xs ≡ 6 → map (λ q. q.now) xs ≡ take 6 (map (λ q. q.now) xs ++ p ∷ [])
push_none xs p full =
    let ms = map now_of xs in
    let long : length ms ≡ 6 = length-map xs now_of ∙ full in
    sym (take-append-le 6 ms (p ∷ []) (omega arith) ∙ take_all 6 ms (omega arith))

push_one : (xs : List (Bor (List ℕ))) (p : Bor (List ℕ)) → length xs < 6 → map now_of (xs ++ p ∷ []) ≡ take 6 (map now_of xs ++ p.now ∷ [])
push_one xs p lt =
    let ms = map now_of xs in
    let short : length (ms ++ p.now ∷ []) ≤ 6 = omega (arith, length-map xs now_of, length_push ms p.now) in
    map-append now_of xs (p ∷ []) ∙ sym (take_all 6 (ms ++ p.now ∷ []) short)

-- a table with room for six takes the part, or is full
pub push_part : (f g : Table (Bor (List ℕ)) 6) (p : Bor (List ℕ)) (r : Bool) → r ≡ ltb (length (listed f)) 6 → listed g ≡ (if r then listed f ++ p ∷ [] else listed f)
    → held g ≡ take 6 (held f ++ p.now ∷ [])
push_part f g p true is e = ap (map now_of) e ∙ push_one (listed f) p (ltb-true (length (listed f)) 6 (sym is))
push_part f g p false is e =
    let full : length (listed f) ≡ 6 = omega (arith, ltb-false (length (listed f)) 6 (sym is), listed_length f, f.sound.1) in
    ap (map now_of) e ∙ push_none (listed f) p.now full

-- a part pushed to the first six is pushed to all
take-push : (ps : List (List ℕ)) (p : List ℕ) → take 6 (take 6 ps ++ p ∷ []) ≡ take 6 (ps ++ p ∷ [])
take-push ps p =
    ⊎_elim
    (λ lt. let le : length ps ≤ 6 = omega arith in ap (λ l. take 6 (l ++ p ∷ [])) (take_all 6 ps le))
    (λ ge.
    let long : length (take 6 ps) ≡ 6 = length-take-le 6 ps ge in
    take-append-le 6 (take 6 ps) (p ∷ []) (omega arith) ∙ take-take 6 6 ps (omega arith) ∙ sym (take-append-le 6 ps (p ∷ []) ge))
    (cases_lt (length ps) 6)

-- one byte more
between_more : (xs : List ℕ) (i j b : ℕ) → i ≤ j → j < length xs → drop j xs ≡ b ∷ drop (j + 1) xs → between i (j + 1) xs ≡ between i j xs ++ b ∷ []
between_more xs i j b le lt e =
    let d = drop i xs in
    let n = j - i in
    let s : j + 1 - i ≡ n + 1 = omega arith in
    let long : n < length d = omega (arith, length-drop i xs) in
    let there : i + n ≡ j + 0 = omega arith in
    let at : get_or d n 0 ≡ b = get_or-drop i xs n 0 ∙ ap (λ k. get_or xs k 0) there ∙ sym (get_or-drop j xs 0 0) ∙ ap (λ l. get_or l 0 0) e in
    ap (λ k. take k d) s ∙ take_more d n 0 long ∙ ap (λ x. take n d ++ x ∷ []) at

between_none : (xs : List ℕ) (i : ℕ) → between i i xs ≡ []
between_none xs i = let z : i - i ≡ 0 = omega arith in ap (λ k. take k (drop i xs)) z

one_step : (s : List ℕ) (b : ℕ) (t : List ℕ) (st : State) (k : Class) (p : List ℕ) (ps : List (List ℕ)) → s ≡ b ∷ t → k ≡ class b → run s st p ps ≡ go (next st k) b t p ps (run t)
one_step s b t st k p ps e h = ap (λ l. run l st p ps) e ∙ ap (λ x. go (next st x) b t p ps (run t)) (sym h)

pub step_take : (before at on : Records) (st : State) (from : ℕ) (f : Table (Bor (List ℕ)) 6) (b : ℕ) (k : Class) (to : State) → Going before at st from f → on.src ≡ at.src → on.pos ≡ at.pos + 1 → at.pos < length at.src.now → rest at ≡ b ∷ drop (at.pos + 1) at.src.now → k ≡ class b → M.Take to ≡ next st k → Going before on to from f
step_take before at on st from f b k to g src pos lt e h m =
    let p = between from at.pos at.src.now in
    let t = drop (at.pos + 1) at.src.now in
    record {
      src = src ∙ g.src;
      low = omega (arith, g.low);
      ps = g.ps;
      parts = g.parts;
      same =
          g.same ∙ one_step (rest at) b t st k p g.ps e h ∙ ap (λ x. go x b t p g.ps (run t)) (sym m) ∙ ap (λ x. run t to x g.ps) (sym (between_more at.src.now from at.pos b g.low lt e))
          ∙ (λ i. run (drop (sym pos i) (sym src i).now) to (between from (sym pos i) (sym src i).now) g.ps);
    }

pub step_push : (before at on : Records) (st : State) (from : ℕ) (f f' : Table (Bor (List ℕ)) 6) (b : ℕ) (k : Class) (to : State) → Going before at st from f → on.src ≡ at.src → on.pos ≡ at.pos + 1 → at.pos < length at.src.now → rest at ≡ b ∷ drop (at.pos + 1) at.src.now → k ≡ class b → M.End to ≡ next st k → held f' ≡ take 6 (held f ++ between from at.pos at.src.now ∷ []) → Going before on to (at.pos + 1) f'
step_push before at on st from f f' b k to g src pos lt e h m pushed =
    let p = between from at.pos at.src.now in
    let t = drop (at.pos + 1) at.src.now in
    record {
      src = src ∙ g.src;
      low = omega arith;
      ps = g.ps ++ p ∷ [];
      parts = pushed ∙ ap (λ l. take 6 (l ++ p ∷ [])) g.parts ∙ take-push g.ps p;
      same =
          g.same ∙ one_step (rest at) b t st k p g.ps e h ∙ ap (λ x. go x b t p g.ps (run t)) (sym m) ∙ ap (λ x. run t to x (g.ps ++ p ∷ [])) (sym (between_none at.src.now (at.pos + 1)))
          ∙ (λ i. run (drop (sym pos i) (sym src i).now) to (between (at.pos + 1) (sym pos i) (sym src i).now) (g.ps ++ p ∷ []));
    }

pub going_at : (before at : Records) {st to : State} {from low : ℕ} {f f' : Table (Bor (List ℕ)) 6} → f' ≡ f → low ≡ from → to ≡ st → Going before at st from f → Going before at to low f'
going_at before at e i j g = subst (λ (x : State × (ℕ × Table (Bor (List ℕ)) 6)). Going before at x.0 x.1.0 x.1.1) (λ k. (sym j k, (sym i k, sym e k))) g
