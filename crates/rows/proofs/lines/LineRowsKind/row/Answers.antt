use Rattle.std.proofs.Common.{◌≡◌, ◌+◌, ℤ, Ok, Err, Result, sym, refl, ap, ◌∙◌, w64, SFits, rules}
use Rattle.std.proofs.lemmas.Bool.{eq-eqb, ne_eqb}
use Rattle.std.proofs.lemmas.Int.{to_z-of_z}
use Rattle.plant.specs.declared.records.Line.{Line}
use Rattle.plant.specs.declared.refusal.Reason.{Reason}
use Rattle.plant.specs.declared.refusal.Reason.TheVariants as R
use Rattle.rows.proofs.Fielded.{line_is}
use Rattle.rows.proofs.lines.LineRowsKind.row.Goals as goal

pub returns-in_err-row : goal.returns-in_err-row
returns-in_err-row c =
    let e : c.from_residual.result ≡ Err R.FieldForm = search rules in
    e ∙ line_is c.args.fields.now _ c.args.self.now.stations c.args.k c.args.self.now.few c.requires c.in-len4.len_at_least c.in-len4.len_below _ _ _ _ (sym c.in_err-row.ensures.ok_part ∙ c.number.ensures) refl refl refl

pub returns-in_err-from : goal.returns-in_err-from
returns-in_err-from c =
    let e : c.from_residual-in_err-from.result ≡ Err R.FieldForm = search rules in
    e ∙ line_is c.args.fields.now _ c.args.self.now.stations c.args.k c.args.self.now.few c.requires c.in-len4.len_at_least c.in-len4.len_below _ _ _ _ (sym c.in_ok-row.ensures.ok_part ∙ c.number.ensures) (sym c.in_err-from.ensures.ok_part ∙ c.number-2.ensures) refl refl

pub returns-in_err-to : goal.returns-in_err-to
returns-in_err-to c =
    let e : c.from_residual-in_err-to.result ≡ Err R.FieldForm = search rules in
    e ∙ line_is c.args.fields.now _ c.args.self.now.stations c.args.k c.args.self.now.few c.requires c.in-len4.len_at_least c.in-len4.len_below _ _ _ _ (sym c.in_ok-row.ensures.ok_part ∙ c.number.ensures) (sym c.in_ok-from.ensures.ok_part ∙ c.number-2.ensures) (sym c.in_err-to.ensures.ok_part ∙ c.number-3.ensures) refl

pub returns-in_err-gain : goal.returns-in_err-gain
returns-in_err-gain c =
    let e : c.from_residual-in_err-gain.result ≡ Err R.FieldForm = search rules in
    e ∙ line_is c.args.fields.now _ c.args.self.now.stations c.args.k c.args.self.now.few c.requires c.in-len4.len_at_least c.in-len4.len_below _ _ _ _ (sym c.in_ok-row.ensures.ok_part ∙ c.number.ensures) (sym c.in_ok-from.ensures.ok_part ∙ c.number-2.ensures) (sym c.in_ok-to.ensures.ok_part ∙ c.number-3.ensures) (sym c.in_err-gain.ensures.ok_part ∙ c.gain_of.ensures)

pub returns-then-row-k : goal.returns-then-row-k
returns-then-row-k c =
    let is = line_is c.args.fields.now _ c.args.self.now.stations c.args.k c.args.self.now.few c.requires c.in-len4.len_at_least c.in-len4.len_below _ _ _ _ (sym c.in_ok-row.ensures.ok_part ∙ c.number.ensures) (sym c.in_ok-from.ensures.ok_part ∙ c.number-2.ensures) (sym c.in_ok-to.ensures.ok_part ∙ c.number-3.ensures) (sym c.in_ok-gain.ensures.ok_part ∙ c.gain_of.ensures) in
    rw (ne_eqb (c.in_ok-row.row + 1) c.args.k c.if-row-k.true) at is

pub returns-then-are_ends : goal.returns-then-are_ends
returns-then-are_ends c =
    let is = line_is c.args.fields.now _ c.args.self.now.stations c.args.k c.args.self.now.few c.requires c.in-len4.len_at_least c.in-len4.len_below _ _ _ _ (sym c.in_ok-row.ensures.ok_part ∙ c.number.ensures) (sym c.in_ok-from.ensures.ok_part ∙ c.number-2.ensures) (sym c.in_ok-to.ensures.ok_part ∙ c.number-3.ensures) (sym c.in_ok-gain.ensures.ok_part ∙ c.gain_of.ensures) in
    let g = c.in_ok-gain.gain in
    let fits : SFits w64 g = search rules in
    let ends = sym c.are_ends.ensures ∙ c.if-are_ends.true in
    ap {B = Result Line Reason} (λ (g : ℤ). Ok (record { from = c.in_ok-from.field-0; to = c.in_ok-to.field-0; gain = g })) (to_z-of_z w64 g fits)
    ∙ rw (eq-eqb (c.in_ok-row.row + 1) c.args.k c.if-row-k.false, ends) at is

pub returns-else-are_ends : goal.returns-else-are_ends
returns-else-are_ends c =
    let is = line_is c.args.fields.now _ c.args.self.now.stations c.args.k c.args.self.now.few c.requires c.in-len4.len_at_least c.in-len4.len_below _ _ _ _ (sym c.in_ok-row.ensures.ok_part ∙ c.number.ensures) (sym c.in_ok-from.ensures.ok_part ∙ c.number-2.ensures) (sym c.in_ok-to.ensures.ok_part ∙ c.number-3.ensures) (sym c.in_ok-gain.ensures.ok_part ∙ c.gain_of.ensures) in
    let ends = sym c.are_ends.ensures ∙ c.if-are_ends.false in
    rw (eq-eqb (c.in_ok-row.row + 1) c.args.k c.if-row-k.false, ends) at is
