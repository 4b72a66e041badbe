-- Three texts are accepted exactly when they are the writing of a plant, and refused exactly for their first fault.
use Rattle.std.proofs.Common.{◌≡◌, ℕ, cond, ltb, ◌⊎◌, List, length, sym, refl, ap, ◌∙◌, subst, inl, inr}
use Rattle.std.proofs.lemmas.Bool.{lt-ltb, le-ltb, ltb-true, ltb-false, cond_both}
use Rattle.plant.specs.declared.records.Line.{Line}
use Rattle.plant.specs.declared.records.Station.{Station}
use Rattle.plant.specs.declared.refusal.Part.{Part}
use Rattle.plant.specs.declared.refusal.Part.TheVariants as P
use Rattle.plant.specs.declared.refusal.Refusal.{Refusal}
use Rattle.plant.specs.Trees.{Tree}
use Rattle.rows.specs.Faults as Faults
use Rattle.rows.specs.Lines.{lines}
use Rattle.rows.specs.Stations.{stations}
use Rattle.rows.specs.Verdict as Rows
use Rattle.rows.specs.Written.{Writes, station_form, line_form}
use Rattle.rows.proofs.Accepting.{stations_accepted, lines_accepted, stations_refused, lines_refused}
use Rattle.rows.proofs.Ranges.{lines_between}
use Rattle.drawing.specs.Faults as DrawingFaults
use Rattle.drawing.specs.Verdict as Drawing
use Rattle.drawing.proofs.Verdicts as Drawn
use Rattle.texts.specs.Laws.{Short, Long, AllShort, WritesPlant, AcceptedWhenWritten, too_long, FirstFault, long_stations, long_lines, long_tree, in_stations, in_lines, in_tree, RefusedAtFirstFault, OneAnswer, LongBeforeAll}
use Rattle.texts.specs.Verdict.{Verdict, accepted, refused, because, on_tree, on_lines, on_stations, unless_long, verdict}
use Rattle.texts.proofs.Judging.{read_on}

-- what a verdict says of three texts
abbrev Says : List ℕ → List ℕ → List ℕ → Verdict → Type 0
Says ss ls tree (accepted S L t) = WritesPlant ss ls tree S L t
Says ss ls tree (refused e) = FirstFault ss ls tree e

tree_says : (ss ls tree : List ℕ) (S : List Station) (L : List Line) (v : Drawing.Verdict) → AllShort ss ls tree → Writes station_form ss S → Writes (line_form (length S)) ls L → Drawing.verdict (length S) L tree ≡ v → Says ss ls tree (on_tree S L v)
tree_says ss ls tree S L (Drawing.accepted t) short a b e =
    record { short = short; stations_text = a; lines_text = b; tree_text = (Drawn.accepted_when_written).only_written (length S) L tree t a.lists.few (lines_between (length S) ls L b) e }
tree_says ss ls tree S L (Drawing.refused r p) short a b e = in_tree short S L a b refl ((Drawn.refused_at_first_fault).only_first (length S) L tree r p a.lists.few (lines_between (length S) ls L b) e)

lines_says : (ss ls tree : List ℕ) (S : List Station) (v : Rows.Verdict Line) → AllShort ss ls tree → Writes station_form ss S → Rows.verdict (lines (length S)) ls ≡ v → Says ss ls tree (on_lines S v tree)
lines_says ss ls tree S (Rows.table L) short a e = tree_says ss ls tree S L (Drawing.verdict (length S) L tree) short a ((lines_accepted (length S)).only_written ls L e) refl
lines_says ss ls tree S (Rows.refused r p) short a e = in_lines short S a refl ((lines_refused (length S)).only_first ls r p e)

stations_says : (ss ls tree : List ℕ) (v : Rows.Verdict Station) → AllShort ss ls tree → Rows.verdict stations ss ≡ v → Says ss ls tree (on_stations v ls tree)
stations_says ss ls tree (Rows.table S) short e = lines_says ss ls tree S (Rows.verdict (lines (length S)) ls) short (stations_accepted.only_written ss S e) refl
stations_says ss ls tree (Rows.refused r p) short e = in_stations short refl (stations_refused.only_first ss r p e)

says : (ss ls tree : List ℕ) → Says ss ls tree (verdict ss ls tree)
says ss ls tree =
    cond_both (ltb 65535 (length ss)) _ _ (Says ss ls tree) (λ p. long_stations (ltb-true 65535 (length ss) p) refl) (λ p.
    let a : Short ss = ltb-false 65535 (length ss) p in
    cond_both (ltb 65535 (length ls)) _ _ (Says ss ls tree) (λ q. long_lines a (ltb-true 65535 (length ls) q) refl) (λ q.
    let b : Short ls = ltb-false 65535 (length ls) q in
    cond_both (ltb 65535 (length tree)) _ _ (Says ss ls tree) (λ r. long_tree a b (ltb-true 65535 (length tree) r) refl) (λ r.
    let c : Short tree = ltb-false 65535 (length tree) r in
    stations_says ss ls tree (Rows.verdict stations ss) (a, b, c) refl)))

-- both tables are written
tables_written : (ss ls tree : List ℕ) (S : List Station) (L : List Line) → AllShort ss ls tree → Writes station_form ss S → Writes (line_form (length S)) ls L → verdict ss ls tree ≡ on_tree S L (Drawing.verdict (length S) L tree)
tables_written ss ls tree S L short a b =
    read_on ss ls tree short.0 short.1 short.2
    ∙ ap (λ v. on_stations v ls tree) (stations_accepted.all_written ss S a)
    ∙ ap (λ v. on_lines S v tree) ((lines_accepted (length S)).all_written ls L b)

all_written : (ss ls tree : List ℕ) (S : List Station) (L : List Line) (t : Tree) → WritesPlant ss ls tree S L t → verdict ss ls tree ≡ accepted S L t
all_written ss ls tree S L t w =
    let a = w.stations_text in
    let b = w.lines_text in
    tables_written ss ls tree S L w.short a b
    ∙ ap (on_tree S L) ((Drawn.accepted_when_written).all_written (length S) L tree t a.lists.few (lines_between (length S) ls L b) w.tree_text)

pub accepted_when_written : AcceptedWhenWritten
accepted_when_written =
    record {
      only_written = λ ss ls tree S L t e. subst (Says ss ls tree) e (says ss ls tree);
      all_written = all_written;
      one_plant = λ ss ls tree S T L M t u v w. let same = sym (all_written ss ls tree S L t v) ∙ all_written ss ls tree T M u w in (cc, cc, cc);
    }

-- ---- texts that are too long

long : (text : List ℕ) (part : Part) (v : Verdict) → Long text → unless_long text part v ≡ refused (too_long part)
long text part v h = ap (λ b. cond b (refused (too_long part)) v) (lt-ltb 65535 (length text) h)

short : (text : List ℕ) (part : Part) (v : Verdict) → Short text → unless_long text part v ≡ v
short text part v h = ap (λ b. cond b (refused (too_long part)) v) (le-ltb 65535 (length text) h)

pub long_before_all : LongBeforeAll
long_before_all =
    record {
      stations = λ ss ls tree a. long ss _ _ a;
      lines = λ ss ls tree a b. short ss _ _ a ∙ long ls _ _ b;
      tree = λ ss ls tree a b c. short ss _ _ a ∙ short ls _ _ b ∙ long tree _ _ c;
    }

-- ---- what has a first fault is refused for it

-- a fault of this part
same_part : (e : Refusal) (part : Part) → e.part ≡ part → because e.reason part e.place ≡ refused e
same_part e part is = ap (λ p. because e.reason p e.place) (sym is)

long_refused : (v : Verdict) (e d : Refusal) → v ≡ refused d → e ≡ d → v ≡ refused e
long_refused v e d is same = is ∙ ap refused (sym same)

stations_wrong : (ss ls tree : List ℕ) (e : Refusal) → AllShort ss ls tree → e.part ≡ P.Stations → Faults.FirstFault station_form ss e.place e.reason → verdict ss ls tree ≡ refused e
stations_wrong ss ls tree e all part f =
    read_on ss ls tree all.0 all.1 all.2 ∙ ap (λ v. on_stations v ls tree) (stations_refused.all_first ss e.reason e.place f) ∙ same_part e P.Stations part

lines_wrong : (ss ls tree : List ℕ) (e : Refusal) (S : List Station) → AllShort ss ls tree → Writes station_form ss S → e.part ≡ P.Lines → Faults.FirstFault (line_form (length S)) ls e.place e.reason → verdict ss ls tree ≡ refused e
lines_wrong ss ls tree e S all a part f =
    read_on ss ls tree all.0 all.1 all.2
    ∙ ap (λ v. on_stations v ls tree) (stations_accepted.all_written ss S a)
    ∙ ap (λ v. on_lines S v tree) ((lines_refused (length S)).all_first ls e.reason e.place f)
    ∙ same_part e P.Lines part

tree_wrong : (ss ls tree : List ℕ) (e : Refusal) (S : List Station) (L : List Line) → AllShort ss ls tree → Writes station_form ss S → Writes (line_form (length S)) ls L → e.part ≡ P.Tree → DrawingFaults.FirstFault (length S) L tree e.place e.reason → verdict ss ls tree ≡ refused e
tree_wrong ss ls tree e S L all a b part f =
    tables_written ss ls tree S L all a b
    ∙ ap (on_tree S L) ((Drawn.refused_at_first_fault).all_first (length S) L tree e.reason e.place a.lists.few (lines_between (length S) ls L b) f)
    ∙ same_part e P.Tree part

first_refused : (ss ls tree : List ℕ) (e : Refusal) → FirstFault ss ls tree e → verdict ss ls tree ≡ refused e
first_refused ss ls tree e f =
    elim f [
      | long_stations a is ↦ long_refused (verdict ss ls tree) e (too_long P.Stations) (long_before_all.stations ss ls tree a) is
      | long_lines a b is ↦ long_refused (verdict ss ls tree) e (too_long P.Lines) (long_before_all.lines ss ls tree a b) is
      | long_tree a b c is ↦ long_refused (verdict ss ls tree) e (too_long P.Tree) (long_before_all.tree ss ls tree a b c) is
      | in_stations all part w ↦ stations_wrong ss ls tree e all part w
      | in_lines all S a part w ↦ lines_wrong ss ls tree e S all a part w
      | in_tree all S L a b part w ↦ tree_wrong ss ls tree e S L all a b part w
    ]

pub refused_at_first_fault : RefusedAtFirstFault
refused_at_first_fault =
    record {
      only_first = λ ss ls tree e is. subst (Says ss ls tree) is (says ss ls tree);
      all_first = first_refused;
      one_fault = λ ss ls tree e d v w. let same = sym (first_refused ss ls tree e v) ∙ first_refused ss ls tree d w in cc;
    }

-- ---- one answer

either : (ss ls tree : List ℕ) (v : Verdict) → Says ss ls tree v → ((S : List Station) × (L : List Line) × (t : Tree) × WritesPlant ss ls tree S L t) ⊎ ((e : Refusal) × FirstFault ss ls tree e)
either ss ls tree (accepted S L t) w = inl (S, L, t, w)
either ss ls tree (refused e) w = inr (e, w)

not_both : (ss ls tree : List ℕ) (S : List Station) (L : List Line) (t : Tree) (e : Refusal) → WritesPlant ss ls tree S L t → FirstFault ss ls tree e → ⊥
not_both ss ls tree S L t e v w =
    let both : accepted S L t ≡ refused e = sym (all_written ss ls tree S L t v) ∙ first_refused ss ls tree e w in
    cc

pub one_answer : OneAnswer
one_answer = record { some = λ ss ls tree. either ss ls tree (verdict ss ls tree) (says ss ls tree); not_both = not_both }
