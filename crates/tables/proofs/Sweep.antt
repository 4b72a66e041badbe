-- What is read is written, and what is read before a fault can be completed. Assumes nothing.
use Rattle.std.proofs.Common.{◌≡◌, ℕ, ◌+◌, ◌<◌, cond, ◌&&◌, eqb, leb, ◌⊎◌, List, [], ◌∷◌, ◌++◌, map, length, sym, refl, ap, ◌∙◌, subst, inl, inr, ⊎_elim, append_assoc, append-nil, arith}
use Rattle.std.specs.List.{AllByRecursion}
use Rattle.std.proofs.ByRecursion.{All-push}
use Rattle.std.proofs.lemmas.List.{map_push, length_push}
use Rattle.std.proofs.lemmas.Bool.{eqb-true, eqb-false, ne_eqb, leb-true, and_parts, cond_both}
use Rattle.tables.specs.declared.grammar.State.{State}
use Rattle.tables.specs.declared.grammar.State.TheVariants as S
use Rattle.tables.specs.declared.grammar.Class.{Class}
use Rattle.tables.specs.declared.grammar.Class.TheVariants as C
use Rattle.tables.specs.declared.grammar.Move.{Move}
use Rattle.tables.specs.declared.grammar.Move.TheVariants as M
use Rattle.tables.specs.Machine.{class, next, Told, done, stuck, row, close, begin, move, tell, whole}
use Rattle.tables.specs.Written.{Field, bare, quoted, Bare, Inside, Allowed, doubled, bytes, Row, Proper, leads, line, lines, Table, ended, cut, rows, text, Whole}
use Rattle.tables.specs.Laws.{parts, Follows}

-- the bytes of a class
abbrev pub Is : Class → ℕ → Type 0
Is C.Comma b = b ≡ 44
Is C.Quote b = b ≡ 34
Is C.Return b = b ≡ 13
Is C.Feed b = b ≡ 10
Is C.Plain b = Bare b
Is C.Other b = Unit {0}

pub class_is : (b : ℕ) → Is (class b) b
class_is b =
    cond_both (eqb b 44) _ _ (λ x. Is x b) (λ e. eqb-true b 44 e) (λ e.
    cond_both (eqb b 34) _ _ (λ x. Is x b) (λ f. eqb-true b 34 f) (λ f.
    cond_both (eqb b 13) _ _ (λ x. Is x b) (λ g. eqb-true b 13 g) (λ g.
    cond_both (eqb b 10) _ _ (λ x. Is x b) (λ h. eqb-true b 10 h) (λ h.
    cond_both (leb 32 b && leb b 126) _ _ (λ x. Is x b) (λ i. let both = and_parts (leb 32 b) (leb b 126) i in ((leb-true 32 b both.0, leb-true b 126 both.1), eqb-false b 34 f, eqb-false b 44 e)) (λ i. tt)))))

-- the bytes of a part so far
abbrev pub Mid : State → List ℕ → Type 0
Mid S.Start p = p ≡ []
Mid S.Plain p = AllByRecursion Bare p
Mid S.Quoted p = (cs : List ℕ) × AllByRecursion Inside cs × (p ≡ 34 ∷ doubled cs)
Mid S.Closed p = (cs : List ℕ) × AllByRecursion Inside cs × (p ≡ 34 ∷ (doubled cs ++ 34 ∷ []))
Mid S.Return p = ⊥

-- the fields before, and the part so far
pub record Within (st : State) (p : List ℕ) (ps : List (List ℕ)) (c : List ℕ) : Type 0 where
  pub fs : List Field
  pub allowed : AllByRecursion Allowed fs
  pub same : ps ≡ map bytes fs
  pub read : c ≡ leads fs ++ p
  pub mid : Mid st p

pub record Lined (tail : List ℕ) (ps : List (List ℕ)) (c : List ℕ) : Type 0 where
  pub r : Row
  pub proper : Proper r
  pub same : ps ≡ parts r
  pub read : c ≡ line r ++ tail

abbrev pub Begun : State → List ℕ → List (List ℕ) → List ℕ → Type 0
Begun S.Start p ps c = Within S.Start p ps c
Begun S.Plain p ps c = Within S.Plain p ps c
Begun S.Quoted p ps c = Within S.Quoted p ps c
Begun S.Closed p ps c = Within S.Closed p ps c
Begun S.Return p ps c = Lined (13 ∷ []) ps c

pub record IsField (p : List ℕ) : Type 0 where
  pub f : Field
  pub allowed : Allowed f
  pub is : p ≡ bytes f

start_field : (p : List ℕ) → Mid S.Start p → IsField p
start_field p e = record { f = bare []; allowed = tt; is = e }

plain_field : (p : List ℕ) → Mid S.Plain p → IsField p
plain_field p h = record { f = bare p; allowed = h; is = refl }

closed_field : (p : List ℕ) → Mid S.Closed p → IsField p
closed_field p h = record { f = quoted h.0; allowed = h.1; is = h.2 }

pub leads_push : (fs : List Field) (f : Field) → leads (fs ++ f ∷ []) ≡ leads fs ++ (bytes f ++ 44 ∷ [])
leads_push [] f = refl
leads_push (g ∷ fs) f = ap (λ l. bytes g ++ 44 ∷ l) (leads_push fs f) ∙ sym (append_assoc (bytes g) (44 ∷ leads fs) (bytes f ++ 44 ∷ []))

pub lines_push : (rs : List Row) (r : Row) → lines (rs ++ r ∷ []) ≡ lines rs ++ (line r ++ 13 ∷ 10 ∷ [])
lines_push [] r = refl
lines_push (q ∷ rs) r = ap (λ l. line q ++ 13 ∷ 10 ∷ l) (lines_push rs r) ∙ sym (append_assoc (line q) (13 ∷ 10 ∷ lines rs) (line r ++ 13 ∷ 10 ∷ []))

pub doubled_quote : (cs : List ℕ) → doubled (cs ++ 34 ∷ []) ≡ doubled cs ++ 34 ∷ 34 ∷ []
doubled_quote [] = refl
doubled_quote (x ∷ cs) = cond_both (eqb x 34) _ _ (λ l. cond (eqb x 34) (34 ∷ 34 ∷ doubled (cs ++ 34 ∷ [])) (x ∷ doubled (cs ++ 34 ∷ [])) ≡ l ++ 34 ∷ 34 ∷ []) (λ e. rw (e, doubled_quote cs) refl) (λ e. rw (e, doubled_quote cs) refl)

pub doubled_other : (cs : List ℕ) (b : ℕ) → (b ≡ 34 → ⊥) → doubled (cs ++ b ∷ []) ≡ doubled cs ++ b ∷ []
doubled_other [] b n = rw (ne_eqb b 34 n) refl
doubled_other (x ∷ cs) b n = cond_both (eqb x 34) _ _ (λ l. cond (eqb x 34) (34 ∷ 34 ∷ doubled (cs ++ b ∷ [])) (x ∷ doubled (cs ++ b ∷ [])) ≡ l ++ b ∷ []) (λ e. rw (e, doubled_other cs b n) refl) (λ e. rw (e, doubled_other cs b n) refl)

-- a part goes on
on_part : (st to : State) (p : List ℕ) (ps : List (List ℕ)) (c : List ℕ) (b : ℕ) → Within st p ps c → Mid to (p ++ b ∷ []) → Within to (p ++ b ∷ []) ps (c ++ b ∷ [])
on_part st to p ps c b w m =
    record { fs = w.fs; allowed = w.allowed; same = w.same; read = ap (λ l. l ++ b ∷ []) w.read ∙ append_assoc (leads w.fs) p (b ∷ []); mid = m }

-- a part ends at a comma
end_part : (st : State) (p : List ℕ) (ps : List (List ℕ)) (c : List ℕ) (b : ℕ) → b ≡ 44 → Within st p ps c → IsField p → Within S.Start [] (ps ++ p ∷ []) (c ++ b ∷ [])
end_part st p ps c b e w i =
    record {
      fs = w.fs ++ i.f ∷ [];
      allowed = All-push Allowed w.fs i.f w.allowed i.allowed;
      same = (λ k. w.same k ++ i.is k ∷ []) ∙ sym (map_push bytes w.fs i.f);
      read = (λ k. w.read k ++ e k ∷ []) ∙ append_assoc (leads w.fs) p (44 ∷ []) ∙ ap (λ l. leads w.fs ++ (l ++ 44 ∷ [])) i.is ∙ sym (leads_push w.fs i.f) ∙ sym (append-nil (leads (w.fs ++ i.f ∷ [])));
      mid = refl;
    }

-- a part ends its record
end_line : (tail : List ℕ) (st : State) (p : List ℕ) (ps : List (List ℕ)) (c : List ℕ) → Within st p ps c → IsField p → Lined tail (ps ++ p ∷ []) (c ++ tail)
end_line tail st p ps c w i =
    record {
      r = record { front = w.fs; last = i.f };
      proper = record { front = w.allowed; last = i.allowed };
      same = (λ k. w.same k ++ i.is k ∷ []) ∙ sym (map_push bytes w.fs i.f);
      read = ap (λ l. l ++ tail) (w.read ∙ ap (λ l. leads w.fs ++ l) i.is);
    }

end_return : (st : State) (p : List ℕ) (ps : List (List ℕ)) (c : List ℕ) (b : ℕ) → b ≡ 13 → Within st p ps c → IsField p → Lined (13 ∷ []) (ps ++ p ∷ []) (c ++ b ∷ [])
end_return st p ps c b e w i = let P : ℕ → Type 0 = λ x. Lined (13 ∷ []) (ps ++ p ∷ []) (c ++ x ∷ []) in subst P (sym e) (end_line (13 ∷ []) st p ps c w i)

-- one more byte between the quotes
inside : (p : List ℕ) (b : ℕ) → Mid S.Quoted p → (b ≡ 34 → ⊥) → Inside b → Mid S.Quoted (p ++ b ∷ [])
inside p b m n i = (m.0 ++ b ∷ [], All-push Inside m.0 b m.1 i, ap (λ l. l ++ b ∷ []) m.2 ∙ ap (λ l. 34 ∷ l) (sym (doubled_other m.0 b n)))

start_plain : (p : List ℕ) (b : ℕ) → p ≡ [] → Bare b → AllByRecursion Bare (p ++ b ∷ [])
start_plain p b e h = let P : List ℕ → Type 0 = λ l. AllByRecursion Bare (l ++ b ∷ []) in subst P (sym e) (h, tt)

start_quote : (p : List ℕ) (b : ℕ) → p ≡ [] → b ≡ 34 → Mid S.Quoted (p ++ b ∷ [])
start_quote p b e h = ([], tt, (λ k. e k ++ h k ∷ []))

close_quote : (p : List ℕ) (b : ℕ) → Mid S.Quoted p → b ≡ 34 → Mid S.Closed (p ++ b ∷ [])
close_quote p b m h = (m.0, m.1, (λ k. m.2 k ++ h k ∷ []))

quote_again : (p : List ℕ) (b : ℕ) → Mid S.Closed p → b ≡ 34 → Mid S.Quoted (p ++ b ∷ [])
quote_again p b m h =
    let ok : Inside 34 = inl (omega arith) in
    (m.0 ++ 34 ∷ [], All-push Inside m.0 34 m.1 ok, (λ k. m.2 k ++ h k ∷ []) ∙ ap (λ l. 34 ∷ l) (append_assoc (doubled m.0) (34 ∷ []) (34 ∷ []) ∙ sym (doubled_quote m.0)))

-- where a byte leads
abbrev pub After : Move → ℕ → List ℕ → List (List ℕ) → List ℕ → Type 0
After (M.Take st) b p ps c = Begun st (p ++ b ∷ []) ps (c ++ b ∷ [])
After (M.End st) b p ps c = Begun st [] (ps ++ p ∷ []) (c ++ b ∷ [])
After M.Record b p ps c = Lined (13 ∷ 10 ∷ []) ps (c ++ b ∷ [])
After M.Fault b p ps c = Unit {0}

pub advance : (st : State) (k : Class) (b : ℕ) (p : List ℕ) (ps : List (List ℕ)) (c : List ℕ) → Is k b → Begun st p ps c → After (next st k) b p ps c
advance S.Start C.Comma b p ps c i w = end_part S.Start p ps c b i w (start_field p w.mid)
advance S.Start C.Quote b p ps c i w = on_part S.Start S.Quoted p ps c b w (start_quote p b w.mid i)
advance S.Start C.Return b p ps c i w = end_return S.Start p ps c b i w (start_field p w.mid)
advance S.Start C.Feed b p ps c i w = tt
advance S.Start C.Plain b p ps c i w = on_part S.Start S.Plain p ps c b w (start_plain p b w.mid i)
advance S.Start C.Other b p ps c i w = tt
advance S.Plain C.Comma b p ps c i w = end_part S.Plain p ps c b i w (plain_field p w.mid)
advance S.Plain C.Quote b p ps c i w = tt
advance S.Plain C.Return b p ps c i w = end_return S.Plain p ps c b i w (plain_field p w.mid)
advance S.Plain C.Feed b p ps c i w = tt
advance S.Plain C.Plain b p ps c i w = on_part S.Plain S.Plain p ps c b w (All-push Bare p b w.mid i)
advance S.Plain C.Other b p ps c i w = tt
advance S.Quoted C.Comma b p ps c i w = on_part S.Quoted S.Quoted p ps c b w (inside p b w.mid (omega arith) (inl (omega arith)))
advance S.Quoted C.Quote b p ps c i w = on_part S.Quoted S.Closed p ps c b w (close_quote p b w.mid i)
advance S.Quoted C.Return b p ps c i w = on_part S.Quoted S.Quoted p ps c b w (inside p b w.mid (omega arith) (inr (inl i)))
advance S.Quoted C.Feed b p ps c i w = on_part S.Quoted S.Quoted p ps c b w (inside p b w.mid (omega arith) (inr (inr i)))
advance S.Quoted C.Plain b p ps c i w = on_part S.Quoted S.Quoted p ps c b w (inside p b w.mid i.1 (inl i.0))
advance S.Quoted C.Other b p ps c i w = tt
advance S.Closed C.Comma b p ps c i w = end_part S.Closed p ps c b i w (closed_field p w.mid)
advance S.Closed C.Quote b p ps c i w = on_part S.Closed S.Quoted p ps c b w (quote_again p b w.mid i)
advance S.Closed C.Return b p ps c i w = end_return S.Closed p ps c b i w (closed_field p w.mid)
advance S.Closed C.Feed b p ps c i w = tt
advance S.Closed C.Plain b p ps c i w = tt
advance S.Closed C.Other b p ps c i w = tt
advance S.Return C.Comma b p ps c i w = tt
advance S.Return C.Quote b p ps c i w = tt
advance S.Return C.Return b p ps c i w = tt
advance S.Return C.Feed b p ps c i w = record { r = w.r; proper = w.proper; same = w.same; read = (λ k. w.read k ++ i k ∷ []) ∙ append_assoc (line w.r) (13 ∷ []) (10 ∷ []) }
advance S.Return C.Plain b p ps c i w = tt
advance S.Return C.Other b p ps c i w = tt

-- each record half read can be completed
pub record Completed (c : List ℕ) : Type 0 where
  pub more : List ℕ
  pub r : Row
  pub proper : Proper r
  pub is : c ++ more ≡ line r ++ 13 ∷ 10 ∷ []

by_line : (st : State) (p : List ℕ) (ps : List (List ℕ)) (c : List ℕ) → Within st p ps c → IsField p → Completed c
by_line st p ps c w i = let l = end_line (13 ∷ 10 ∷ []) st p ps c w i in record { more = 13 ∷ 10 ∷ []; r = l.r; proper = l.proper; is = l.read }

pub completed : (st : State) (p : List ℕ) (ps : List (List ℕ)) (c : List ℕ) → Begun st p ps c → Completed c
completed S.Start p ps c w = by_line S.Start p ps c w (start_field p w.mid)
completed S.Plain p ps c w = by_line S.Plain p ps c w (plain_field p w.mid)
completed S.Quoted p ps c w =
    let v = on_part S.Quoted S.Closed p ps c 34 w (close_quote p 34 w.mid refl) in
    let d = by_line S.Closed (p ++ 34 ∷ []) ps (c ++ 34 ∷ []) v (closed_field (p ++ 34 ∷ []) v.mid) in
    record { more = 34 ∷ d.more; r = d.r; proper = d.proper; is = sym (append_assoc c (34 ∷ []) d.more) ∙ d.is }
completed S.Closed p ps c w = by_line S.Closed p ps c w (closed_field p w.mid)
completed S.Return p ps c w = record { more = 10 ∷ []; r = w.r; proper = w.proper; is = ap (λ l. l ++ 10 ∷ []) w.read ∙ append_assoc (line w.r) (13 ∷ []) (10 ∷ []) }

-- the text is over, with no fault
abbrev pub Ends : Told → Type 0
Ends done = Unit {0}
Ends (stuck q) = ⊥
Ends (row ps t) = Ends t

pub record Stuck (w q : List ℕ) : Type 0 where
  pub front : List ℕ
  pub split : w ≡ front ++ q
  pub more : List ℕ
  pub table : Table
  pub proper : Whole table
  pub viable : front ++ more ≡ text table
  pub hopeless : (b : ℕ) (u v : List ℕ) → q ≡ b ∷ u → Ends (whole (front ++ b ∷ v)) → ⊥

pub record Over (w : List ℕ) (rs : List Row) : Type 0 where
  pub table : Table
  pub proper : Whole table
  pub same : rs ≡ rows table
  pub is : w ≡ text table

-- the record r stands in the text after the records rs
pub record Stands (w : List ℕ) (rs : List Row) (ps : List (List ℕ)) : Type 0 where
  pub r : Row
  pub proper : Proper r
  pub same : ps ≡ parts r
  pub there : Follows w rs r

-- w is the whole text, of which the records rs are read
abbrev pub Tells : List ℕ → List Row → Told → Type 0
Tells w rs done = Over w rs
Tells w rs (stuck q) = Stuck w q
Tells w rs (row ps t) = (x : Stands w rs ps) × Tells w (rs ++ x.r ∷ []) t

pub record Here (w s : List ℕ) (st : State) (p : List ℕ) (ps : List (List ℕ)) (rs : List Row) : Type 0 where
  pub c : List ℕ
  pub front : List ℕ
  pub proper : AllByRecursion Proper rs
  pub begun : Begun st p ps c
  pub some : (rs ≡ []) ⊎ (0 < length c + length s)
  pub is : front ≡ lines rs ++ c
  pub split : w ≡ front ++ s
  pub back : (v : List ℕ) → Ends (whole (front ++ v)) → Ends (tell v st p ps)

stuck_here : (w s : List ℕ) (st : State) (p : List ℕ) (ps : List (List ℕ)) (rs : List Row) → Here w s st p ps rs → ((b : ℕ) (u v : List ℕ) → s ≡ b ∷ u → Ends (tell (b ∷ v) st p ps) → ⊥) → Stuck w s
stuck_here w s st p ps rs h no_more =
    let d = completed st p ps h.c h.begun in
    record {
      front = h.front;
      split = h.split;
      more = d.more;
      table = ended (rs ++ d.r ∷ []);
      proper = (All-push Proper rs d.r h.proper d.proper, omega (arith, length_push rs d.r));
      viable = ap (λ l. l ++ d.more) h.is ∙ append_assoc (lines rs) h.c d.more ∙ ap (λ l. lines rs ++ l) d.is ∙ sym (lines_push rs d.r);
      hopeless = λ b u v e f. no_more b u v e (h.back (b ∷ v) f);
    }

over_here : (w : List ℕ) (st : State) (p : List ℕ) (ps : List (List ℕ)) (rs : List Row) → (h : Here w [] st p ps rs) → Within st p ps h.c → IsField p → Tells w rs (row (ps ++ p ∷ []) done)
over_here w st p ps rs h v i =
    let l = end_line [] st p ps h.c v i in
    let e : h.c ≡ line l.r = sym (append-nil h.c) ∙ l.read ∙ append-nil (line l.r) in
    let is : w ≡ lines rs ++ line l.r = h.split ∙ append-nil h.front ∙ h.is ∙ ap (λ x. lines rs ++ x) e in (
      record { r = l.r; proper = l.proper; same = l.same; there = inr is },
      record {
        table = cut rs l.r;
        proper = (h.proper, l.proper, ⊎_elim (λ x. inl x) (λ x. inr (omega (arith, ap length e))) h.some);
        same = refl;
        is = is;
      },
    )

tells_end : (w : List ℕ) (st : State) (p : List ℕ) (ps : List (List ℕ)) (rs : List Row) → Here w [] st p ps rs → Tells w rs (close st p ps)
tells_end w S.Start p ps rs h = over_here w S.Start p ps rs h h.begun (start_field p h.begun.mid)
tells_end w S.Plain p ps rs h = over_here w S.Plain p ps rs h h.begun (plain_field p h.begun.mid)
tells_end w S.Quoted p ps rs h = stuck_here w [] S.Quoted p ps rs h (λ b u v e. cc)
tells_end w S.Closed p ps rs h = over_here w S.Closed p ps rs h h.begun (closed_field p h.begun.mid)
tells_end w S.Return p ps rs h = stuck_here w [] S.Return p ps rs h (λ b u v e. cc)

abbrev Sweeps : List ℕ → Type 0
Sweeps s = (st : State) (p : List ℕ) (ps : List (List ℕ)) (rs : List Row) (w : List ℕ) → Here w s st p ps rs → Tells w rs (tell s st p ps)

-- one byte on within a record
one_on : (w s : List ℕ) (st to : State) (p q : List ℕ) (ps qs : List (List ℕ)) (rs : List Row) (b : ℕ) (h : Here w (b ∷ s) st p ps rs) → Begun to q qs (h.c ++ b ∷ []) → ((v : List ℕ) → Ends (tell (b ∷ v) st p ps) → Ends (tell v to q qs)) → Here w s to q qs rs
one_on w s st to p q ps qs rs b h g back =
    record {
      c = h.c ++ b ∷ [];
      front = h.front ++ b ∷ [];
      proper = h.proper;
      begun = g;
      some = inr (omega (arith, length_push h.c b));
      is = ap (λ l. l ++ b ∷ []) h.is ∙ append_assoc (lines rs) h.c (b ∷ []);
      split = h.split ∙ sym (append_assoc h.front (b ∷ []) s);
      back = λ v e. back v (h.back (b ∷ v) (subst (λ l. Ends (whole l)) (append_assoc h.front (b ∷ []) v) e));
    }

begin_ends : (v : List ℕ) → Ends (begin v (tell v)) → Ends (whole v)
begin_ends [] e = tt
begin_ends (b ∷ v) e = e

next_row : (w : List ℕ) (s : List ℕ) (st : State) (p : List ℕ) (ps : List (List ℕ)) (rs : List Row) (b : ℕ) (h : Here w (b ∷ s) st p ps rs) → (l : Lined (13 ∷ 10 ∷ []) ps (h.c ++ b ∷ [])) → ((v : List ℕ) → Ends (tell (b ∷ v) st p ps) → Ends (row ps (begin v (tell v)))) → Sweeps s → Tells w (rs ++ l.r ∷ []) (begin s (tell s))
next_row w [] st p ps rs b h l back ih =
    record {
      table = ended (rs ++ l.r ∷ []);
      proper = (All-push Proper rs l.r h.proper l.proper, omega (arith, length_push rs l.r));
      same = refl;
      is = h.split ∙ ap (λ x. x ++ b ∷ []) h.is ∙ append_assoc (lines rs) h.c (b ∷ []) ∙ ap (λ x. lines rs ++ x) l.read ∙ sym (lines_push rs l.r);
    }
next_row w (d ∷ s) st p ps rs b h l back ih =
    ih S.Start [] [] (rs ++ l.r ∷ []) w (record {
      c = [];
      front = h.front ++ b ∷ [];
      proper = All-push Proper rs l.r h.proper l.proper;
      begun = record { fs = []; allowed = tt; same = refl; read = refl; mid = refl };
      some = inr (omega arith);
      is = ap (λ x. x ++ b ∷ []) h.is ∙ append_assoc (lines rs) h.c (b ∷ []) ∙ ap (λ x. lines rs ++ x) l.read ∙ sym (lines_push rs l.r) ∙ sym (append-nil (lines (rs ++ l.r ∷ [])));
      split = h.split ∙ sym (append_assoc h.front (b ∷ []) (d ∷ s));
      back = λ v e. begin_ends v (back v (h.back (b ∷ v) (subst (λ x. Ends (whole x)) (append_assoc h.front (b ∷ []) v) e)));
    })

tells_move : (m : Move) (w s : List ℕ) (st : State) (p : List ℕ) (ps : List (List ℕ)) (rs : List Row) (b : ℕ) (h : Here w (b ∷ s) st p ps rs) → After m b p ps h.c → ((v : List ℕ) → Ends (tell (b ∷ v) st p ps) → Ends (move m b v p ps (tell v))) → Sweeps s → Tells w rs (move m b s p ps (tell s))
tells_move (M.Take to) w s st p ps rs b h a back ih = ih to (p ++ b ∷ []) ps rs w (one_on w s st to p (p ++ b ∷ []) ps ps rs b h a back)
tells_move (M.End to) w s st p ps rs b h a back ih = ih to [] (ps ++ p ∷ []) rs w (one_on w s st to p [] ps (ps ++ p ∷ []) rs b h a back)
tells_move M.Record w s st p ps rs b h a back ih = (
  record {
    r = a.r;
    proper = a.proper;
    same = a.same;
    there = inl (s, h.split ∙ sym (append_assoc h.front (b ∷ []) s) ∙ ap (λ l. l ++ s) (ap (λ x. x ++ b ∷ []) h.is ∙ append_assoc (lines rs) h.c (b ∷ []) ∙ ap (λ x. lines rs ++ x) a.read ∙ sym (lines_push rs a.r)));
  },
  next_row w s st p ps rs b h a back ih,
)
tells_move M.Fault w s st p ps rs b h a back ih =
    stuck_here w (b ∷ s) st p ps rs h (λ d u v e. let f : b ≡ d = cc in subst (λ x. Ends (tell (x ∷ v) st p ps) → ⊥) f (back v))

pub tells : (s : List ℕ) → Sweeps s
tells [] st p ps rs w h = tells_end w st p ps rs h
tells (b ∷ s) st p ps rs w h = tells_move (next st (class b)) w s st p ps rs b h (advance st (class b) b p ps h.c (class_is b) h.begun) (λ v e. e) (tells s)

pub tells_whole : (w : List ℕ) → Tells w [] (whole w)
tells_whole w =
    tells w S.Start [] [] [] w (record {
      c = [];
      front = [];
      proper = tt;
      begun = record { fs = []; allowed = tt; same = refl; read = refl; mid = refl };
      some = inl refl;
      is = refl;
      split = refl;
      back = λ v e. e;
    })
