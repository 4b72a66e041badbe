-- What the set calls need to show of plans and ledgers.
use Rattle.std.proofs.Common.{◌≡◌, ℕ, ◌<◌, ◌≤◌, true, eqb, List, length, get_or, take, set, ℤ, nat_abs, Some, Ok, Err, refl, sym, ap, ◌∙◌, subst, arith}
use Rattle.std.proofs.lemmas.Bool.{lt-leb, le-ltb, cond-false, true≢false}
use Rattle.plant.specs.Tables.{listed}
use Rattle.plant.specs.Nodes.{IsPlant, tree_of}
use Rattle.plant.specs.Records.{StationInRange, no_station, no_line, station, line, hold_of}
use Rattle.plant.specs.declared.records.Hold.{Hold}
use Rattle.plant.specs.declared.records.Line.{Line}
use Rattle.plant.specs.declared.records.Station.{Station}
use Rattle.plant.specs.declared.table.Table.{Table}
use Rattle.plant.proofs.Kept.{plant_set_station, plant_set_line}
use Rattle.plant.proofs.Listed.{listed_length, row_listed, row_written}
use Rattle.plant.specs.declared.refusal.Refusal.{Refusal}
use Rattle.texts.specs.Verdict.{verdict}
use Rattle.texts.specs.Verdict as Texts
use Rattle.plan.specs.declared.Plan.{Plan}
use Rattle.plan.specs.declared.Filled.{Filled}
use Rattle.plan.specs.Ledger.{Books, filled, books, shown, view, Setting, station_set, line_set, hold_set, fill_call, set_call, put_station, put_line, held, set_by, replied, changed, told, replaced, set_reply, set_after, Step}
use Rattle.plan.specs.Replies.{in_gain}

has_row : {A : Type 0} {N : ℕ} (t : Table A N) (k : ℕ) → k < t.count → k < length (listed t)
has_row t k has = omega (arith, listed_length t)

-- an accepted setting
pub accepted : (p q : Plan) (f g : Filled) (c : Setting) (new : Books) → p.filled ≡ Some f → q.filled ≡ Some g → set_by (books f) c ≡ Ok new → books g ≡ new → Step p (set_call c) (Ok tt) q
accepted p q f g c new e h s b =
    let old : view p ≡ filled (books f) = ap shown e in
    let now : view q ≡ filled (books g) = ap shown h in
    record {
      ledger = now ∙ ap filled b ∙ sym (ap (λ l. set_after l c) old ∙ ap (changed (books f)) s);
      answer = sym (ap (λ l. set_reply l c) old ∙ ap replied s);
      kept = λ no. absurd (true≢false no);
    }

-- the settings that a call passes
pub takes_station : (f : Filled) (k h : ℕ) (g : ℤ) (u : ℕ) → k < f.stations.count → h ≤ 1000 → in_gain g ≡ true → u ≤ 1
    → set_by (books f) (station_set k h g u) ≡ Ok (put_station (books f) k (record { hours = h; gain = g; urgent = eqb u 1; hold = (station (listed f.stations) k).hold }))
takes_station f k h g u has few fine mark = rw (lt-leb _ k (has_row f.stations k has), le-ltb 1000 h few, fine, le-ltb 1 u mark) refl

pub takes_line : (f : Filled) (k : ℕ) (g : ℤ) → k < f.lines.count → in_gain g ≡ true
    → set_by (books f) (line_set k g) ≡ Ok (put_line (books f) k (record { from = (line (listed f.lines) k).from; to = (line (listed f.lines) k).to; gain = g }))
takes_line f k g has fine = rw (lt-leb _ k (has_row f.lines k has), fine) refl

pub takes_hold : (f : Filled) (k n : ℕ) (h : Hold) → k < f.stations.count → hold_of n ≡ Some h
    → set_by (books f) (hold_set k n) ≡ Ok (put_station (books f) k (record { hours = (station (listed f.stations) k).hours; gain = (station (listed f.stations) k).gain; urgent = (station (listed f.stations) k).urgent; hold = h }))
takes_hold f k n h has is = cond-false _ _ _ (lt-leb _ k (has_row f.stations k has)) ∙ ap (held (books f) k) is

-- the books once a station, or a line, is written
pub books_station : (f : Filled) (k : ℕ) (s t : Station) → k < f.stations.count → s ≡ t
    → ◌≡◌ {A = Books} (record { stations = take f.stations.count (set f.stations.rows k s); lines = listed f.lines; tree = tree_of (listed f.nodes); budget = f.budget }) (put_station (books f) k t)
books_station f k s t has e = λ i. record { stations = row_written f.stations k s t has e i; lines = listed f.lines; tree = tree_of (listed f.nodes); budget = f.budget }

pub books_line : (f : Filled) (k : ℕ) (l m : Line) → k < f.lines.count → l ≡ m
    → ◌≡◌ {A = Books} (record { stations = listed f.stations; lines = take f.lines.count (set f.lines.rows k l); tree = tree_of (listed f.nodes); budget = f.budget }) (put_line (books f) k m)
books_line f k l m has e = λ i. record { stations = listed f.stations; lines = row_written f.lines k l m has e i; tree = tree_of (listed f.nodes); budget = f.budget }

-- a plant that keeps its lines' ends, and its records' ranges, stays one
pub station_kept : (f : Filled) (k : ℕ) (s : Station) → k < f.stations.count → StationInRange s → IsPlant (take f.stations.count (set f.stations.rows k s)) (listed f.lines) (listed f.nodes)
station_kept f k s has fine =
    subst (λ (l : List Station). IsPlant l (listed f.lines) (listed f.nodes)) (sym (row_written f.stations k s s has refl)) (plant_set_station (listed f.stations) (listed f.lines) (listed f.nodes) k s fine f.plant)

pub station_fine : (f : Filled) (k : ℕ) → k < f.stations.count → StationInRange (get_or f.stations.rows k no_station)
station_fine f k has = subst StationInRange (sym (row_listed f.stations k no_station has)) (f.plant.stations k (has_row f.stations k has))

pub line_kept : (f : Filled) (k : ℕ) (g : ℤ) → k < f.lines.count → nat_abs g ≤ 1000000000
    → IsPlant (listed f.stations) (take f.lines.count (set f.lines.rows k (record { from = (get_or f.lines.rows k no_line).from; to = (get_or f.lines.rows k no_line).to; gain = g }))) (listed f.nodes)
line_kept f k g has fine =
    let old = row_listed f.lines k no_line has in
    let new : Line = record { from = (get_or f.lines.rows k no_line).from; to = (get_or f.lines.rows k no_line).to; gain = g } in
    subst (λ (l : List Line). IsPlant (listed f.stations) l (listed f.nodes)) (sym (row_written f.lines k new new has refl)) (plant_set_line (listed f.stations) (listed f.lines) (listed f.nodes) k new fine (ap (λ (x : Line). x.from) old) (ap (λ (x : Line). x.to) old) f.plant)

-- ---- a fill

pub fill_done : (p q : Plan) (f : Filled) (ss ls tree : List ℕ) → q.filled ≡ Some f → f.budget ≡ 0
    → verdict ss ls tree ≡ Texts.accepted (listed f.stations) (listed f.lines) (tree_of (listed f.nodes)) → Step p (fill_call ss ls tree) (Ok tt) q
fill_done p q f ss ls tree is none e =
    record {
      ledger = ap shown is ∙ (λ i. filled (record { stations = listed f.stations; lines = listed f.lines; tree = tree_of (listed f.nodes); budget = none i })) ∙ sym (ap (replaced (view p)) e);
      answer = sym (ap told e);
      kept = λ no. absurd (true≢false no);
    }

pub fill_refused : (p : Plan) (ss ls tree : List ℕ) (e : Refusal) → verdict ss ls tree ≡ Texts.refused e → Step p (fill_call ss ls tree) (Err e) p
fill_refused p ss ls tree e is = record { ledger = sym (ap (replaced (view p)) is); answer = sym (ap told is); kept = λ no. refl }
