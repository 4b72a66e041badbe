-- The reader's answer is the verdict. Assumes nothing.
use Rattle.std.proofs.Common.{◌≡◌, ℕ, ◌-◌, ◌≤◌, List, [], ◌∷◌, ◌++◌, length, take, drop, sym, refl, ap, ◌∙◌, subst, append-nil, arith}
use Rattle.std.proofs.lemmas.List.{length-append, length-drop, take_at, drop_at, take-append-drop, append_cancel_right}
use Rattle.plant.specs.declared.records.Line.{Line}
use Rattle.plant.specs.declared.refusal.Refusal.{Refusal}
use Rattle.plant.specs.declared.refusal.Reason.{Reason}
use Rattle.plant.specs.declared.refusal.Reason.TheVariants.{TextTooLong, MemoryTooShort, TableGrammar, FieldCount, FieldForm, RowNumber, RowCount, LineEnds, TreeGrammar, TooDeep, LeafNumber, HalvesApart, NotThePlant, Blank, NoSuchRecord, OutOfRange, NothingFits, NotOpen}
use Rattle.plant.specs.declared.table.Table.{Table}
use Rattle.plant.specs.declared.tree.Node.{Node}
use Rattle.plant.specs.Trees.{Net, net_of, Tree, Draws}
use Rattle.plant.specs.Nodes.{numbered, tree_of, Drawn}
use Rattle.plant.specs.Tables.{listed}
use Rattle.drawing.specs.Grammar.{Out, good, bad, whole}
use Rattle.drawing.specs.Reads.{Faulted}
use Rattle.drawing.specs.Written.{written}
use Rattle.drawing.specs.Verdict.{Verdict, accepted, refused, settled, verdict, Joins, Writes, Accepted, Refused, AcceptedWhenWritten, RefusedAtFirstFault}
use Rattle.drawing.specs.Faults.{Grammatical, Reached, OutsideGrammar, Fault, FirstFault}
use Rattle.drawing.proofs.Numbering.{tree_of_numbered}
use Rattle.drawing.proofs.Spelling.{clash}
use Rattle.drawing.proofs.Building.{Ends}
use Rattle.drawing.proofs.Standing.{bracket_stands, number_stands, letter_stands, plant_stands, grammar_stands}
use Rattle.drawing.proofs.Laws.{whole_said}
use Rattle.drawing.proofs.Writing.{tree, other, whole_reads, whole_sorted}
use Rattle.drawing.proofs.Looks.{rest_of, swap, Plain, whole_looks}
use Rattle.drawing.proofs.Finding.{Found, by_grammar, by_bracket, by_number, by_letter, by_plant, whole_found}

-- the nodes of a tree that draws the plant
numbered_drawn : (n : ℕ) (ls : List Line) (ns : List Node) (t : Tree) → ns ≡ numbered (net_of ls) 0 t → Draws (net_of ls) n (length ls) t → Drawn n ls ns
numbered_drawn n ls ns t e w =
    let is : tree_of ns ≡ t = ap tree_of e ∙ tree_of_numbered (net_of ls) t in
    record { ordered = e ∙ ap (numbered (net_of ls) 0) (sym is); draws = subst (λ x. Draws (net_of ls) n (length ls) x) (sym is) w }

-- ---- accepted exactly when written

accepted_from : (long : ℕ) (o : Out Tree) (t : Tree) → settled long o ≡ accepted t → (u : List ℕ) × (o ≡ good t u)
accepted_from long (good x s) t e = let is : x ≡ t = cc in (s, ap (λ z. good z s) is)
accepted_from long (bad r s) t e = let z : ◌≡◌ {A = ℕ} 0 1 = cc in absurd (omega arith)

whole_writes : (n : ℕ) (ls : List Line) (s : List ℕ) (t : Tree) (u : List ℕ) → n ≤ 64 → Joins n ls → whole 127 (net_of ls) n (length ls) s ≡ good t u → Writes n ls s t
whole_writes n ls s t u few joins e =
    let w = whole_said (net_of ls) n (length ls) joins few 127 s t u e in
    record { text = record { text = w.text; depth = w.depth }; draws = w.draws }

only_written : (n : ℕ) (ls : List Line) (s : List ℕ) (t : Tree) → n ≤ 64 → Joins n ls → verdict n ls s ≡ accepted t → Writes n ls s t
only_written n ls s t few joins e = let w = accepted_from (length s) (whole 127 (net_of ls) n (length ls) s) t e in whole_writes n ls s t w.0 few joins w.1

all_written : (n : ℕ) (ls : List Line) (s : List ℕ) (t : Tree) → n ≤ 64 → Joins n ls → Writes n ls s t → verdict n ls s ≡ accepted t
all_written n ls s t few joins w = ap (settled (length s)) (whole_reads 127 (net_of ls) n (length ls) s t w.text.text w.text.depth w.draws)

same_tree : (t u : Tree) (v : Verdict) → v ≡ accepted t → v ≡ accepted u → t ≡ u
same_tree t u v p q = cc

pub accepted_when_written : AcceptedWhenWritten
accepted_when_written = record {
  only_written = only_written;
  all_written = all_written;
  one_tree = λ n ls s t u few joins w x. same_tree t u (verdict n ls s) (all_written n ls s t few joins w) (all_written n ls s u few joins x);
}

-- ---- refused at the first fault

-- a refusal by the grammar stays, whatever follows its byte
stays : (N : Net) (n m : ℕ) (s front q : List ℕ) → s ≡ front ++ q → whole 127 N n m s ≡ bad TreeGrammar q → (b : ℕ) (u v : List ℕ) → q ≡ b ∷ u → whole 127 N n m (front ++ b ∷ v) ≡ bad TreeGrammar (b ∷ v)
stays N n m s front q split e b u v is =
    let k = whole_looks 127 N n m s in
    let out : k.out ≡ bad TreeGrammar q = sym k.is ∙ e in
    let P : Out Tree → Type 0 = λ o. Plain o in
    let a = k.at (subst P (sym out) refl) in
    let same_front : a.front ≡ front = append_cancel_right a.front front q (ap (λ o. a.front ++ rest_of o) (sym out) ∙ sym a.split ∙ split) in
    ap (λ l. whole 127 N n m (l ++ b ∷ v)) (sym same_front) ∙ a.same b u v (ap rest_of out ∙ is) ∙ ap (λ o. swap o (b ∷ v)) out

never_grammar : (N : Net) (n m : ℕ) (s q : List ℕ) (t : Tree) → s ≡ written t ++ 59 ∷ [] → whole 127 N n m s ≡ bad TreeGrammar q → ⊥
never_grammar N n m s q t w e =
    elim (whole_sorted 127 N n m s t w) [
      | tree f ↦ clash _ _ _ t (sym e ∙ f)
      | other r v f x ↦ x (same_reason r TreeGrammar v q (sym f ∙ e))
    ]
  where
    same_reason : (r w : Reason) (s q : List ℕ) → ◌≡◌ {A = Out Tree} (bad r s) (bad w q) → r ≡ w
    same_reason r w s q e = cc

outside_grammar : (N : Net) (n m : ℕ) (s front q : List ℕ) (v : List ℕ) (t : Tree) → s ≡ front ++ q → whole 127 N n m s ≡ bad TreeGrammar q → Grammatical t (front ++ v) → Reached N m front q → OutsideGrammar N m front q
outside_grammar N n m s front q v t split e g so = record {
  begins = (v, t, g);
  ended = λ none t w. never_grammar N n m s q t (split ∙ ap (λ l. front ++ l) none ∙ append-nil front ∙ w) e;
  hopeless = λ b u v t is w. never_grammar N n m (front ++ b ∷ v) (b ∷ v) t w (stays N n m s front q split e b u v is);
  reached = so;
}

found_fault : (N : Net) (n m : ℕ) (s front q : List ℕ) (r : Reason) → s ≡ front ++ q → whole 127 N n m s ≡ bad r q → Found N n m front q r → Fault N n m front q r
found_fault N n m s front q r split e f =
    elim f [
      | by_grammar w v t g so ↦ subst (Fault N n m front q) (sym w) (outside_grammar N n m s front q v t split (e ∙ ap (λ x. bad x q) w) g so)
      | by_bracket w x ↦ subst (Fault N n m front q) (sym w) x
      | by_number w x ↦ subst (Fault N n m front q) (sym w) x
      | by_letter w x ↦ subst (Fault N n m front q) (sym w) x
      | by_plant w x ↦ subst (Fault N n m front q) (sym w) x
    ]

-- the bytes before a place and from it on
record Cut (s front q : List ℕ) (p : ℕ) : Type 0 where
  within : p ≤ length s
  taken : take p s ≡ front
  left_over : drop p s ≡ q

cut : (s front q : List ℕ) (p : ℕ) → s ≡ front ++ q → length s - length q ≡ p → Cut s front q p
cut s front q p e at =
    let long : length front ≡ p = omega (arith, ap length e ∙ length-append front q) in
    record {
      within = omega (arith, ap length e ∙ length-append front q);
      taken = ap (take p) e ∙ take_at front q p long;
      left_over = ap (drop p) e ∙ drop_at front q p long;
    }

refused_from : (long : ℕ) (o : Out Tree) (r : Reason) (p : ℕ) → settled long o ≡ refused r p → (q : List ℕ) × (o ≡ bad r q) × (long - length q ≡ p)
refused_from long (good x s) r p e = let z : ◌≡◌ {A = ℕ} 0 1 = cc in absurd (omega arith)
refused_from long (bad w s) r p e = let is : w ≡ r = cc in let at : long - length s ≡ p = cc in (s, ap (λ z. bad z s) is, at)

first_fault : (n : ℕ) (ls : List Line) (s : List ℕ) (r : Reason) (p : ℕ) → n ≤ 64 → Joins n ls → verdict n ls s ≡ refused r p → FirstFault n ls s p r
first_fault n ls s r p few joins e =
    let N = net_of ls in
    let m = length ls in
    let w = refused_from (length s) (whole 127 N n m s) r p e in
    let q = w.0 in
    let f = whole_found N n m joins few s r q w.1 in
    let k = cut s f.front q p f.split w.2 in
    let at : Fault N n m f.front q r = found_fault N n m s f.front q r f.split w.1 f.found in
    record { within = k.within; fault = (let P : List ℕ → List ℕ → Type 0 = λ x y. Fault N n m x y r in subst (λ x. P x (drop p s)) (sym k.taken) (subst (λ y. P f.front y) (sym k.left_over) at)) }

-- the way back: where the first fault is, the text is refused
fault_stands : (N : Net) (n m : ℕ) (front rest : List ℕ) (r : Reason) → Ends N n m → n ≤ 64 → Fault N n m front rest r → whole 127 N n m (front ++ rest) ≡ bad r rest
fault_stands N n m front rest TreeGrammar ends few w = grammar_stands N n m front rest w
fault_stands N n m front rest TooDeep ends few w = bracket_stands N n m front rest w
fault_stands N n m front rest LeafNumber ends few w = number_stands N n m front rest w
fault_stands N n m front rest HalvesApart ends few w = letter_stands N n m ends few front rest w
fault_stands N n m front rest NotThePlant ends few w = plant_stands N n m ends few front rest w
fault_stands N n m front rest TextTooLong ends few w = absurd w
fault_stands N n m front rest MemoryTooShort ends few w = absurd w
fault_stands N n m front rest TableGrammar ends few w = absurd w
fault_stands N n m front rest FieldCount ends few w = absurd w
fault_stands N n m front rest FieldForm ends few w = absurd w
fault_stands N n m front rest RowNumber ends few w = absurd w
fault_stands N n m front rest RowCount ends few w = absurd w
fault_stands N n m front rest LineEnds ends few w = absurd w
fault_stands N n m front rest Blank ends few w = absurd w
fault_stands N n m front rest NoSuchRecord ends few w = absurd w
fault_stands N n m front rest OutOfRange ends few w = absurd w
fault_stands N n m front rest NothingFits ends few w = absurd w
fault_stands N n m front rest NotOpen ends few w = absurd w

-- what is left from a place on says the place
at_place : (s : List ℕ) (p : ℕ) (r : Reason) (o : Out Tree) → p ≤ length s → o ≡ bad r (drop p s) → settled (length s) o ≡ refused r p
at_place s p r o le e =
    let at : length s - length (drop p s) ≡ p = omega (arith, length-drop p s) in
    ap (settled (length s)) e ∙ ap (refused r) at

first_refused : (n : ℕ) (ls : List Line) (s : List ℕ) (r : Reason) (p : ℕ) → n ≤ 64 → Joins n ls → FirstFault n ls s p r → verdict n ls s ≡ refused r p
first_refused n ls s r p few joins w =
    let N = net_of ls in
    let m = length ls in
    at_place s p r (whole 127 N n m s) w.within (ap (whole 127 N n m) (sym (take-append-drop p s)) ∙ fault_stands N n m (take p s) (drop p s) r joins few w.fault)

pub refused_at_first_fault : RefusedAtFirstFault
refused_at_first_fault = record { only_first = first_fault; all_first = first_refused }

pub answers_good : (n : ℕ) (ls ks : List Line) (s : List ℕ) (r : Table Node 255) (t : Tree) (u : List ℕ) → Joins n ls → n ≤ 64 → ks ≡ ls → whole 127 (net_of ks) n (length ks) s ≡ good t u → length (listed r) ≤ 255 → listed r ≡ numbered (net_of ks) 0 t → Accepted n ls s r
answers_good n ls ks s r t u joins few same e fits nodes =
    let f : whole 127 (net_of ls) n (length ls) s ≡ good t u = subst (λ x. whole 127 (net_of x) n (length x) s ≡ good t u) same e in
    let ns : listed r ≡ numbered (net_of ls) 0 t = nodes ∙ ap (λ x. numbered (net_of x) 0 t) same in
    record {
      tree = t;
      judged = ap (settled (length s)) f;
      writes = whole_writes n ls s t u few joins f;
      fits = fits;
      nodes = ns;
      drawn = numbered_drawn n ls (listed r) t ns (whole_writes n ls s t u few joins f).draws;
    }

pub answers_bad : (n : ℕ) (ls ks : List Line) (s : List ℕ) (e : Refusal) → Joins n ls → n ≤ 64 → ks ≡ ls → Faulted e (whole 127 (net_of ks) n (length ks) s) s → Refused n ls s e
answers_bad n ls ks s e joins few same f =
    let told : whole 127 (net_of ls) n (length ls) s ≡ bad e.reason (drop e.place s) = subst (λ x. whole 127 (net_of x) n (length x) s ≡ bad e.reason (drop e.place s)) same f.told in
    let judged : verdict n ls s ≡ refused e.reason e.place = at_place s e.place e.reason _ f.within told in
    record { judged = judged; fault = first_fault n ls s e.reason e.place few joins judged; part = f.part }
