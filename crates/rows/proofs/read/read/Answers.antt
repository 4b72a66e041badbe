use Rattle.std.proofs.Common.{◌≡◌, ℕ, ◌+◌, List, Ok, MatchResult, refl, sym, ap, ◌∙◌, rules, Bor}
use Rattle.std.proofs.lemmas.Result.{err_from_is_err_and}
use Rattle.plant.specs.declared.refusal.Reason.{Reason}
use Rattle.plant.specs.Tables.{listed}
use Rattle.plant.proofs.Listed.{listed_length}
use Rattle.tables.specs.Fields.{part_bytes, held}
use Rattle.rows.proofs.Reading.{first_bad, first_row, start, next_bad, next_wrong, next_fine, pushed, less}
use Rattle.rows.proofs.read.read.Goals as goal

pub returns-in_err-header : goal.returns-in_err-header
returns-in_err-header g c =
    let p = err_from_is_err_and c.from_residual.result c.from_residual.ensures.1 in
    rw (p.1, p.2) (first_bad (g.K.Kind.rules c.args.kind.now) (g.met.K.Kind.lawful c.args.kind.now) c.args.part c.args.text.bytes c.new-records.result c.next_fields.new.records _ c.new-records.ensures c.in_err-header.ensures)

pub returns-then-not-is_header : goal.returns-then-not-is_header
returns-then-not-is_header g c =
    let U = g.K.Kind.rules c.args.kind.now in
    let heads = c.if-not-is_header.ensures ∙ ap (λ (fs : List (Bor (List ℕ))). U.heads (part_bytes fs)) c.as_slice.ensures in
    rw c.refusal.ensures (first_row U (g.met.K.Kind.lawful c.args.kind.now) c.args.part c.args.text.bytes c.new-records.result c.next_fields.new.records c.in_ok-header.header _ c.new-records.ensures c.in_ok-header.ensures heads, refl)

pub loop-records-init : goal.loop-records-init
loop-records-init g c =
    let U = g.K.Kind.rules c.args.kind.now in
    let heads = c.if-not-is_header.ensures ∙ ap (λ (fs : List (Bor (List ℕ))). U.heads (part_bytes fs)) c.as_slice.ensures in
    start U (g.met.K.Kind.lawful c.args.kind.now) c.args.part c.args.text.bytes c.new-records.result c.next_fields.new.records c.in_ok-header.header _ c.new-records.ensures c.in_ok-header.ensures heads c.new-rows.ensures

pub returns-in_err-fields : goal.returns-in_err-fields
returns-in_err-fields g c =
    let p = err_from_is_err_and c.from_residual-in_err-fields.result c.from_residual-in_err-fields.ensures.1 in
    rw (p.1, p.2) (next_bad (g.K.Kind.rules c.args.kind.now) (g.met.K.Kind.lawful c.args.kind.now) c.args.part c.args.text.bytes.now c.loop-records.records c.next_fields-in-loop-records.new.records (listed c.loop-records.rows) _ c.loop-records.invariant c.loop-records-test.ensures c.in_err-fields.ensures)

pub returns-in_err-row : goal.returns-in_err-row
returns-in_err-row g c =
    let U = g.K.Kind.rules c.args.kind.now in
    let p = err_from_is_err_and c.from_residual-in_err-row.result c.from_residual-in_err-row.ensures.1 in
    let n = sym (listed_length c.loop-records.rows) in
    let judged = c.judge.ensures ∙ (λ i. U.judge (n i + 1) (part_bytes (c.as_slice-in-loop-records.ensures i))) in
    let told : MatchResult c.judge.result (λ a. ⊥) (λ (e : Reason). c.in_err-row.field-0.0 ≡ record { reason = e; part = c.args.part; place = c.loop-records.rows.count + 1 }) = search rules in
    rw (p.1, p.2) (next_wrong U (g.met.K.Kind.lawful c.args.kind.now) c.args.part c.args.text.bytes.now c.loop-records.records c.next_fields-in-loop-records.new.records (listed c.loop-records.rows) c.in_ok-fields.fields c.loop-records.rows.count c.judge.result _ c.loop-records.invariant c.loop-records-test.ensures c.in_ok-fields.ensures n judged told)

pub loop-records-smaller : goal.loop-records-smaller
loop-records-smaller g c =
    less (g.K.Kind.rules c.args.kind.now) (g.met.K.Kind.lawful c.args.kind.now) c.args.part c.args.text.bytes.now c.loop-records.records c.next_fields-in-loop-records.new.records (listed c.loop-records.rows) c.in_ok-fields.fields c.loop-records.invariant c.loop-records-test.ensures c.in_ok-fields.ensures

pub loop-records-preserved : goal.loop-records-preserved
loop-records-preserved g c =
    let U = g.K.Kind.rules c.args.kind.now in
    let told : Ok c.in_ok-row.row ≡ c.judge.result = search rules in
    let judged = c.judge.ensures ∙ (λ i. U.judge (sym (listed_length c.loop-records.rows) i + 1) (part_bytes (c.as_slice-in-loop-records.ensures i))) in
    next_fine U (g.met.K.Kind.lawful c.args.kind.now) c.args.part c.args.text.bytes.now c.loop-records.records c.next_fields-in-loop-records.new.records (listed c.loop-records.rows) (listed c.push.new.self) c.in_ok-fields.fields c.in_ok-row.row c.loop-records.invariant c.loop-records-test.ensures c.in_ok-fields.ensures (told ∙ judged) (pushed U (g.met.K.Kind.lawful c.args.kind.now) c.args.part c.loop-records.rows c.push.new.self (held c.in_ok-fields.fields) c.in_ok-row.row c.push.result c.requires.room (told ∙ judged) c.push.ensures.pushed c.push.ensures.listed)
