-- What is written is read. Assumes nothing.
use Rattle.std.proofs.Common.{◌≡◌, ℕ, ◌+◌, ◌-◌, ◌<◌, ◌≤◌, true, cond, ◌&&◌, eqb, ltb, leb, List, [], ◌∷◌, ◌++◌, map, length, get_or, take, drop, sym, refl, ap, ◌∙◌, subst, ⊎_elim, append_assoc, append-nil, arith}
use Rattle.std.specs.List.{AllByRecursion}
use Rattle.std.proofs.lemmas.List.{length-append, length-drop, map-append, take_at, take_more, drop_more, drop_at}
use Rattle.std.proofs.lemmas.Bool.{eqb-true, eqb-false, ne_eqb, le-leb, and_from, and_parts, cond_both, both_ways, lt-ltb}
use Rattle.tables.specs.declared.grammar.State.{State}
use Rattle.tables.specs.declared.grammar.State.TheVariants as S
use Rattle.tables.specs.declared.grammar.Class.TheVariants as C
use Rattle.tables.specs.declared.grammar.Move.{Move}
use Rattle.tables.specs.declared.grammar.Move.TheVariants as M
use Rattle.tables.specs.Machine.{class, next, Out, good, bad, finish, go, run, Told, done, stuck, row, close, move, tell, again, whole}
use Rattle.tables.specs.Written.{Field, bare, quoted, Bare, Inside, Allowed, doubled, bytes, Row, Proper, leads, line, lines, Table, ended, cut, rows, text, Whole}
use Rattle.tables.specs.Laws.{parts, told, Complete, Sound, Reading, Reads, StuckAt, Refused, Placed, inner, single, Means}
use Rattle.tables.proofs.Sweep.{Ends, Tells, Stuck, tells_whole}

bare_class : (b : ℕ) → Bare b → class b ≡ C.Plain
bare_class b h =
    let n13 : b ≡ 13 → ⊥ = omega arith in
    let n10 : b ≡ 10 → ⊥ = omega arith in
    rw (ne_eqb b 44 h.2, ne_eqb b 34 h.1, ne_eqb b 13 n13, ne_eqb b 10 n10, le-leb 32 b h.0.0, le-leb b 126 h.0.1) refl

inside_next : (b : ℕ) → Inside b → (b ≡ 34 → ⊥) → next S.Quoted (class b) ≡ M.Take S.Quoted
inside_next b h n =
    cond_both (eqb b 44) _ _ (λ x. next S.Quoted x ≡ M.Take S.Quoted) (λ e. refl) (λ e.
    cond_both (eqb b 34) _ _ (λ x. next S.Quoted x ≡ M.Take S.Quoted) (λ f. absurd (n (eqb-true b 34 f))) (λ f.
    cond_both (eqb b 13) _ _ (λ x. next S.Quoted x ≡ M.Take S.Quoted) (λ g. refl) (λ g.
    cond_both (eqb b 10) _ _ (λ x. next S.Quoted x ≡ M.Take S.Quoted) (λ i. refl) (λ i.
    cond_both (leb 32 b && leb b 126) _ _ (λ x. next S.Quoted x ≡ M.Take S.Quoted) (λ j. refl) (λ j.
    ⊎_elim
    (λ s. absurd (both_ways (leb 32 b && leb b 126) j (and_from (leb 32 b) (leb b 126) (le-leb 32 b s.0) (le-leb b 126 s.1))))
    (λ s. ⊎_elim (λ x. absurd (eqb-false b 13 g x)) (λ x. absurd (eqb-false b 10 i x)) s)
    h)))))

plain_run : (cs : List ℕ) → AllByRecursion Bare cs → (s p : List ℕ) (ps : List (List ℕ)) → tell (cs ++ s) S.Plain p ps ≡ tell s S.Plain (p ++ cs) ps
plain_run [] h s p ps = ap (λ x. tell s S.Plain x ps) (sym (append-nil p))
plain_run (b ∷ cs) h s p ps =
    ap (λ k. move (next S.Plain k) b (cs ++ s) p ps (tell (cs ++ s))) (bare_class b h.0) ∙ plain_run cs h.1 s (p ++ b ∷ []) ps ∙ ap (λ x. tell s S.Plain x ps) (append_assoc p (b ∷ []) cs)

quoted_run : (cs : List ℕ) → AllByRecursion Inside cs → (s p : List ℕ) (ps : List (List ℕ)) → tell (doubled cs ++ s) S.Quoted p ps ≡ tell s S.Quoted (p ++ doubled cs) ps
quoted_run [] h s p ps = ap (λ x. tell s S.Quoted x ps) (sym (append-nil p))
quoted_run (b ∷ cs) h s p ps =
    cond_both (eqb b 34) _ _ (λ d. tell (d ++ s) S.Quoted p ps ≡ tell s S.Quoted (p ++ d) ps)
    (λ e. quoted_run cs h.1 s ((p ++ 34 ∷ []) ++ 34 ∷ []) ps ∙ ap (λ x. tell s S.Quoted x ps) (append_assoc (p ++ 34 ∷ []) (34 ∷ []) (doubled cs) ∙ append_assoc p (34 ∷ []) (34 ∷ doubled cs)))
    (λ e. ap (λ m. move m b (doubled cs ++ s) p ps (tell (doubled cs ++ s))) (inside_next b h.0 (eqb-false b 34 e)) ∙ quoted_run cs h.1 s (p ++ b ∷ []) ps ∙ ap (λ x. tell s S.Quoted x ps) (append_assoc p (b ∷ []) (doubled cs)))

-- the state at the end of a field
abbrev plain_of : List ℕ → State
plain_of [] = S.Start
plain_of (b ∷ cs) = S.Plain

abbrev state_of : Field → State
state_of (bare cs) = plain_of cs
state_of (quoted cs) = S.Closed

bare_run : (cs : List ℕ) → AllByRecursion Bare cs → (s : List ℕ) (ps : List (List ℕ)) → tell (cs ++ s) S.Start [] ps ≡ tell s (plain_of cs) cs ps
bare_run [] h s ps = refl
bare_run (b ∷ cs) h s ps = ap (λ k. move (next S.Start k) b (cs ++ s) [] ps (tell (cs ++ s))) (bare_class b h.0) ∙ plain_run cs h.1 s (b ∷ []) ps

field_run : (f : Field) → Allowed f → (s : List ℕ) (ps : List (List ℕ)) → tell (bytes f ++ s) S.Start [] ps ≡ tell s (state_of f) (bytes f) ps
field_run (bare cs) h s ps = bare_run cs h s ps
field_run (quoted cs) h s ps = ap (λ x. tell x S.Quoted (34 ∷ []) ps) (append_assoc (doubled cs) (34 ∷ []) s) ∙ quoted_run cs h (34 ∷ s) (34 ∷ []) ps

plain_comma : (cs s p : List ℕ) (ps : List (List ℕ)) → tell (44 ∷ s) (plain_of cs) p ps ≡ tell s S.Start [] (ps ++ p ∷ [])
plain_comma [] s p ps = refl
plain_comma (b ∷ cs) s p ps = refl

comma_run : (f : Field) (s p : List ℕ) (ps : List (List ℕ)) → tell (44 ∷ s) (state_of f) p ps ≡ tell s S.Start [] (ps ++ p ∷ [])
comma_run (bare cs) s p ps = plain_comma cs s p ps
comma_run (quoted cs) s p ps = refl

plain_crlf : (cs s p : List ℕ) (ps : List (List ℕ)) → tell (13 ∷ 10 ∷ s) (plain_of cs) p ps ≡ row (ps ++ p ∷ []) (again s)
plain_crlf [] s p ps = refl
plain_crlf (b ∷ cs) s p ps = refl

crlf_run : (f : Field) (s p : List ℕ) (ps : List (List ℕ)) → tell (13 ∷ 10 ∷ s) (state_of f) p ps ≡ row (ps ++ p ∷ []) (again s)
crlf_run (bare cs) s p ps = plain_crlf cs s p ps
crlf_run (quoted cs) s p ps = refl

plain_end : (cs p : List ℕ) (ps : List (List ℕ)) → tell [] (plain_of cs) p ps ≡ row (ps ++ p ∷ []) done
plain_end [] p ps = refl
plain_end (b ∷ cs) p ps = refl

end_run : (f : Field) (p : List ℕ) (ps : List (List ℕ)) → tell [] (state_of f) p ps ≡ row (ps ++ p ∷ []) done
end_run (bare cs) p ps = plain_end cs p ps
end_run (quoted cs) p ps = refl

leads_run : (fs : List Field) → AllByRecursion Allowed fs → (s : List ℕ) (ps : List (List ℕ)) → tell (leads fs ++ s) S.Start [] ps ≡ tell s S.Start [] (ps ++ map bytes fs)
leads_run [] h s ps = ap (λ x. tell s S.Start [] x) (sym (append-nil ps))
leads_run (f ∷ fs) h s ps =
    ap (λ x. tell x S.Start [] ps) (append_assoc (bytes f) (44 ∷ leads fs) s) ∙ field_run f h.0 (44 ∷ (leads fs ++ s)) ps ∙ comma_run f (leads fs ++ s) (bytes f) ps ∙ leads_run fs h.1 s (ps ++ bytes f ∷ []) ∙ ap (λ x. tell s S.Start [] x) (append_assoc ps (bytes f ∷ []) (map bytes fs))

-- up to the end of the last field
row_run : (r : Row) → Proper r → (s : List ℕ) → whole (line r ++ s) ≡ tell s (state_of r.last) (bytes r.last) (map bytes r.front)
row_run r h s =
    ap whole (append_assoc (leads r.front) (bytes r.last) s) ∙ leads_run r.front h.front (bytes r.last ++ s) [] ∙ field_run r.last h.last s (map bytes r.front)

parts_are : (r : Row) → map bytes r.front ++ bytes r.last ∷ [] ≡ parts r
parts_are r = sym (map-append bytes r.front (r.last ∷ []))

line_run : (r : Row) → Proper r → (s : List ℕ) → whole (line r ++ 13 ∷ 10 ∷ s) ≡ row (parts r) (again s)
line_run r h s = row_run r h (13 ∷ 10 ∷ s) ∙ crlf_run r.last s (bytes r.last) (map bytes r.front) ∙ ap (λ x. row x (again s)) (parts_are r)

last_run : (r : Row) → Proper r → whole (line r) ≡ row (parts r) done
last_run r h = ap whole (sym (append-nil (line r))) ∙ row_run r h [] ∙ end_run r.last (bytes r.last) (map bytes r.front) ∙ ap (λ x. row x done) (parts_are r)

-- a record begins where the text is not over
pub again_is : (s : List ℕ) → 0 < length s → again s ≡ whole s
again_is [] h = absurd (omega arith)
again_is (b ∷ s) h = refl

-- these records, and then what is told
abbrev pub onto : List (List (List ℕ)) → Told → Told
onto [] t = t
onto (ps ∷ pss) t = row ps (onto pss t)

long : (r : Row) (s : List ℕ) → 0 < length (line r ++ 13 ∷ 10 ∷ s)
long r s = omega (arith, length-append (line r) (13 ∷ 10 ∷ s))

lines_run : (rs : List Row) → AllByRecursion Proper rs → (s : List ℕ) → again (lines rs ++ s) ≡ onto (map parts rs) (again s)
lines_run [] h s = refl
lines_run (r ∷ rs) h s =
    ap again (append_assoc (line r) (13 ∷ 10 ∷ lines rs) s) ∙ again_is (line r ++ 13 ∷ 10 ∷ (lines rs ++ s)) (long r (lines rs ++ s)) ∙ line_run r h.0 (lines rs ++ s) ∙ ap (λ t. row (parts r) t) (lines_run rs h.1 s)

-- and a whole text
pub lines_whole : (r : Row) (rs : List Row) → AllByRecursion Proper (r ∷ rs) → (s : List ℕ) → whole (lines (r ∷ rs) ++ s) ≡ onto (map parts (r ∷ rs)) (again s)
lines_whole r rs h s =
    ap whole (append_assoc (line r) (13 ∷ 10 ∷ lines rs) s) ∙ line_run r h.0 (lines rs ++ s) ∙ ap (λ t. row (parts r) t) (lines_run rs h.1 s)

onto_done : (pss : List (List (List ℕ))) → onto pss done ≡ told pss
onto_done [] = refl
onto_done (ps ∷ pss) = ap (λ t. row ps t) (onto_done pss)

onto_row : (pss : List (List (List ℕ))) (ps : List (List ℕ)) → onto pss (row ps done) ≡ told (pss ++ ps ∷ [])
onto_row [] ps = refl
onto_row (qs ∷ pss) ps = ap (λ t. row qs t) (onto_row pss ps)

ended_run : (rs : List Row) → Whole (ended rs) → whole (lines rs) ≡ told (map parts rs)
ended_run [] h = absurd (omega arith)
ended_run (r ∷ rs) h = ap whole (sym (append-nil (lines (r ∷ rs)))) ∙ lines_whole r rs h.0 [] ∙ onto_done (map parts (r ∷ rs))

cut_run : (rs : List Row) (r : Row) → Whole (cut rs r) → whole (lines rs ++ line r) ≡ told (map parts (rs ++ r ∷ []))
cut_run [] r h = last_run r h.1
cut_run (q ∷ rs) r h =
    ⊎_elim
    (λ e. cc)
    (λ some. lines_whole q rs h.0 (line r) ∙ ap (onto (map parts (q ∷ rs))) (again_is (line r) some ∙ last_run r h.1) ∙ onto_row (map parts (q ∷ rs)) (parts r) ∙ ap told (sym (map-append parts (q ∷ rs) (r ∷ []))))
    h.2

pub complete : Complete
complete (ended rs) h = ended_run rs h
complete (cut rs r) h = cut_run rs r h

sound_on : (t : Told) (w : List ℕ) (rs : List Row) (pss : List (List (List ℕ))) → Tells w rs t → t ≡ told pss → (x : Table) × Whole x × (w ≡ text x) × (map parts rs ++ pss ≡ map parts (rows x))
sound_on done w rs [] o e = (o.table, o.proper, o.is, append-nil (map parts rs) ∙ ap (map parts) o.same)
sound_on done w rs (ps ∷ pss) o e = cc
sound_on (stuck q) w rs [] o e = cc
sound_on (stuck q) w rs (ps ∷ pss) o e = cc
sound_on (row qs t) w rs [] o e = cc
sound_on (row qs t) w rs (ps ∷ pss) o e =
    let first : qs ≡ ps = cc in
    let later : t ≡ told pss = cc in
    let r = o.0.r in
    let x = sound_on t w (rs ++ r ∷ []) pss o.1 later in
    let same : map parts rs ++ ps ∷ pss ≡ map parts (rs ++ r ∷ []) ++ pss = ap (λ p. map parts rs ++ p ∷ pss) (sym first ∙ o.0.same) ∙ sym (append_assoc (map parts rs) (parts r ∷ []) pss) ∙ ap (λ l. l ++ pss) (sym (map-append parts rs (r ∷ []))) in
    (x.0, x.1, x.2, same ∙ x.3)

pub sound : Sound
sound s pss e = sound_on (whole s) s [] pss (tells_whole s) e

ends_told : (pss : List (List (List ℕ))) → Ends (told pss)
ends_told [] = tt
ends_told (ps ∷ pss) = ends_told pss

written_ends : (s : List ℕ) (t : Table) → Whole t → s ≡ text t → Ends (whole s)
written_ends s t h e = subst Ends (sym (ap whole e ∙ complete t h)) (ends_told (map parts (rows t)))

stuck_on : (t : Told) (w : List ℕ) (rs : List Row) (q : List ℕ) → Tells w rs t → StuckAt t q → Stuck w q × (Ends t → ⊥)
stuck_on done w rs q o e = absurd e
stuck_on (stuck r) w rs q o e = (subst (Stuck w) e o, λ x. x)
stuck_on (row ps t) w rs q o e = stuck_on t w (rs ++ o.0.r ∷ []) q o.1 e

pub placed : Placed
placed s p le at =
    let both = stuck_on (whole s) s [] (drop p s) (tells_whole s) at in
    let a = both.0 in
    let size : length a.front ≡ p = omega (arith, ap length a.split ∙ length-append a.front (drop p s), length-drop p s) in
    let front : take p s ≡ a.front = ap (take p) a.split ∙ take_at a.front (drop p s) p size in
    record {
      within = le;
      viable = (a.more, a.table, a.proper, ap (λ l. l ++ a.more) front ∙ a.viable);
      none = λ t h e. both.1 (written_ends s t h e);
      hopeless = λ v t lt h e.
          let b = get_or s p 0 in
          let same : a.front ++ b ∷ v ≡ take (p + 1) s ++ v = sym (ap (λ l. l ++ v) (take_more s p 0 lt) ∙ append_assoc (take p s) (b ∷ []) v ∙ ap (λ l. l ++ b ∷ v) front) in
          a.hopeless b (drop (p + 1) s) v (drop_more s p 0 lt) (written_ends (a.front ++ b ∷ v) t h (same ∙ e));
    }

single_other : (b : ℕ) (s : List ℕ) → (b ≡ 34 → ⊥) → single (b ∷ s) ≡ b ∷ single s
single_other b [] n = refl
single_other b (d ∷ s) n = rw (ne_eqb b 34 n) refl

single_bare : (cs : List ℕ) → AllByRecursion Bare cs → single cs ≡ cs
single_bare [] h = refl
single_bare (b ∷ cs) h = single_other b cs h.0.1 ∙ ap (λ l. b ∷ l) (single_bare cs h.1)

single_doubled : (cs : List ℕ) → single (doubled cs) ≡ cs
single_doubled [] = refl
single_doubled (b ∷ cs) =
    cond_both (eqb b 34) _ _ (λ l. single l ≡ b ∷ cs)
    (λ e. (λ i. sym (eqb-true b 34 e) i ∷ single_doubled cs i))
    (λ e. single_other b (doubled cs) (eqb-false b 34 e) ∙ ap (λ l. b ∷ l) (single_doubled cs))

inner_bare : (cs : List ℕ) → AllByRecursion Bare cs → inner cs ≡ cs
inner_bare [] h = refl
inner_bare (b ∷ cs) h = cond_both (ltb 1 (length (b ∷ cs)) && eqb b 34) (take (length (b ∷ cs) - 1 - 1) cs) (b ∷ cs) (λ l. l ≡ b ∷ cs) (λ e. absurd (h.0.1 (eqb-true b 34 (and_parts (ltb 1 (length (b ∷ cs))) (eqb b 34) e).1))) (λ e. refl)

inner_quoted : (cs : List ℕ) → inner (bytes (quoted cs)) ≡ doubled cs
inner_quoted cs =
    let d = doubled cs in
    let n : length (34 ∷ (d ++ 34 ∷ [])) ≡ length d + 2 = omega (arith, length-append d (34 ∷ [])) in
    let lt : 1 < length (34 ∷ (d ++ 34 ∷ [])) = omega arith in
    let m : length d ≡ length (34 ∷ (d ++ 34 ∷ [])) - 1 - 1 = omega arith in
    ap (λ t. cond (t && true) (take (length (34 ∷ (d ++ 34 ∷ [])) - 1 - 1) (d ++ 34 ∷ [])) (34 ∷ (d ++ 34 ∷ []))) (lt-ltb 1 (length (34 ∷ (d ++ 34 ∷ []))) lt) ∙ take_at d (34 ∷ []) (length (34 ∷ (d ++ 34 ∷ [])) - 1 - 1) m

pub means : Means
means (bare cs) h = ap single (inner_bare cs h) ∙ single_bare cs h
means (quoted cs) h = ap single (inner_quoted cs) ∙ single_doubled cs

-- a record, and then the next
abbrev pub follow : Out → Told
follow (good ps s) = row ps (again s)
follow (bad q) = stuck q

link_end : (st : State) (p : List ℕ) (ps : List (List ℕ)) → close st p ps ≡ follow (finish st p ps)
link_end S.Start p ps = refl
link_end S.Plain p ps = refl
link_end S.Quoted p ps = refl
link_end S.Closed p ps = refl
link_end S.Return p ps = refl

link_move : (m : Move) (b : ℕ) (s p : List ℕ) (ps : List (List ℕ)) → ((st : State) (p : List ℕ) (ps : List (List ℕ)) → tell s st p ps ≡ follow (run s st p ps)) → move m b s p ps (tell s) ≡ follow (go m b s p ps (run s))
link_move (M.Take st) b s p ps ih = ih st (p ++ b ∷ []) ps
link_move (M.End st) b s p ps ih = ih st [] (ps ++ p ∷ [])
link_move M.Record b s p ps ih = refl
link_move M.Fault b s p ps ih = refl

link : (s : List ℕ) (st : State) (p : List ℕ) (ps : List (List ℕ)) → tell s st p ps ≡ follow (run s st p ps)
link [] st p ps = link_end st p ps
link (b ∷ s) st p ps = link_move (next st (class b)) b s p ps (link s)

pub whole_run : (s : List ℕ) → whole s ≡ follow (run s S.Start [] [])
whole_run s = link s S.Start [] []

pub again_run : (s : List ℕ) → 0 < length s → again s ≡ follow (run s S.Start [] [])
again_run s h = again_is s h ∙ whole_run s

-- a record takes at least a byte where there is one
shrink_end : (st : State) (p : List ℕ) (ps qs : List (List ℕ)) (r : List ℕ) → finish st p ps ≡ good qs r → length r ≤ 0
shrink_end S.Start p ps qs r e = let f : r ≡ [] = cc in omega (arith, ap length f)
shrink_end S.Plain p ps qs r e = let f : r ≡ [] = cc in omega (arith, ap length f)
shrink_end S.Quoted p ps qs r e = cc
shrink_end S.Closed p ps qs r e = let f : r ≡ [] = cc in omega (arith, ap length f)
shrink_end S.Return p ps qs r e = cc

shrink_move : (m : Move) (b : ℕ) (s p : List ℕ) (ps qs : List (List ℕ)) (r : List ℕ) → ((st : State) (p : List ℕ) (ps : List (List ℕ)) → run s st p ps ≡ good qs r → length r ≤ length s) → go m b s p ps (run s) ≡ good qs r → length r ≤ length s
shrink_move (M.Take st) b s p ps qs r ih e = ih st (p ++ b ∷ []) ps e
shrink_move (M.End st) b s p ps qs r ih e = ih st [] (ps ++ p ∷ []) e
shrink_move M.Record b s p ps qs r ih e = let f : r ≡ s = cc in omega (arith, ap length f)
shrink_move M.Fault b s p ps qs r ih e = cc

shrink : (s : List ℕ) (st : State) (p : List ℕ) (ps qs : List (List ℕ)) (r : List ℕ) → run s st p ps ≡ good qs r → length r ≤ length s - 1
shrink [] st p ps qs r e = omega (arith, shrink_end st p ps qs r e)
shrink (b ∷ s) st p ps qs r e =
    let f = shrink_move (next st (class b)) b s p ps qs r (λ st p ps g. le_pred (length r) (length s) (shrink s st p ps qs r g)) e in
    omega arith
  where
    le_pred : (m n : ℕ) → m ≤ n - 1 → m ≤ n
    le_pred m n h = omega arith

pub shorter : (s : List ℕ) (qs : List (List ℕ)) (r : List ℕ) → 0 < length s → run s S.Start [] [] ≡ good qs r → length r < length s
shorter s qs r h e = omega (arith, shrink s S.Start [] [] qs r e)

-- the fault where the reading is stuck
pub refused_at : (s q : List ℕ) → StuckAt (whole s) q → Refused s (length s - length q)
refused_at s q h =
    let a = (stuck_on (whole s) s [] q (tells_whole s) h).0 in
    let n : length s ≡ length a.front + length q = ap length a.split ∙ length-append a.front q in
    let m : length a.front ≡ length s - length q = omega arith in
    let d : q ≡ drop (length s - length q) s = sym (ap (drop (length s - length q)) a.split ∙ drop_at a.front q (length s - length q) m) in
    placed s (length s - length q) (omega arith) (subst (StuckAt (whole s)) d h)

reading : (s : List ℕ) (t : Told) (rs : List Row) → ((q : List ℕ) → StuckAt t q → Refused s (length s - length q)) → Tells s rs t → Reading s rs t
reading s done rs f o = (o.table, o.proper, o.is, o.same)
reading s (stuck q) rs f o = f q refl
reading s (row ps t) rs f o = (o.0.r, o.0.proper, o.0.same, o.0.there, reading s t (rs ++ o.0.r ∷ []) f o.1)

pub reads : Reads
reads s = reading s (whole s) [] (refused_at s) (tells_whole s)
