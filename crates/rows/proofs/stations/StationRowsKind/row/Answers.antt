use Rattle.std.proofs.Common.{◌≡◌, ◌+◌, ℤ, Ok, Err, Result, sym, refl, ap, ◌∙◌, w64, SFits, rules}
use Rattle.std.proofs.lemmas.Bool.{eq-eqb, ne_eqb}
use Rattle.std.proofs.lemmas.Int.{to_z-of_z}
use Rattle.plant.specs.declared.records.Station.{Station}
use Rattle.plant.specs.declared.refusal.Reason.{Reason}
use Rattle.plant.specs.declared.refusal.Reason.TheVariants as R
use Rattle.rows.proofs.Fielded.{station_is}
use Rattle.rows.proofs.stations.StationRowsKind.row.Goals as goal

pub returns-in_err-row : goal.returns-in_err-row
returns-in_err-row c =
    let e : c.from_residual.result ≡ Err R.FieldForm = search rules in
    e ∙ station_is c.args.fields.now _ c.args.k c.requires c.in-len5.len_at_least c.in-len5.len_below _ _ _ _ _ (sym c.in_err-row.ensures.ok_part ∙ c.number.ensures) refl refl refl refl

pub returns-in_err-hours : goal.returns-in_err-hours
returns-in_err-hours c =
    let e : c.from_residual-in_err-hours.result ≡ Err R.FieldForm = search rules in
    e ∙ station_is c.args.fields.now _ c.args.k c.requires c.in-len5.len_at_least c.in-len5.len_below _ _ _ _ _ (sym c.in_ok-row.ensures.ok_part ∙ c.number.ensures) (sym c.in_err-hours.ensures.ok_part ∙ c.hours_of.ensures) refl refl refl

pub returns-in_err-gain : goal.returns-in_err-gain
returns-in_err-gain c =
    let e : c.from_residual-in_err-gain.result ≡ Err R.FieldForm = search rules in
    e ∙ station_is c.args.fields.now _ c.args.k c.requires c.in-len5.len_at_least c.in-len5.len_below _ _ _ _ _ (sym c.in_ok-row.ensures.ok_part ∙ c.number.ensures) (sym c.in_ok-hours.ensures.ok_part ∙ c.hours_of.ensures) (sym c.in_err-gain.ensures.ok_part ∙ c.gain_of.ensures) refl refl

pub returns-in_err-urgent : goal.returns-in_err-urgent
returns-in_err-urgent c =
    let e : c.from_residual-in_err-urgent.result ≡ Err R.FieldForm = search rules in
    e ∙ station_is c.args.fields.now _ c.args.k c.requires c.in-len5.len_at_least c.in-len5.len_below _ _ _ _ _ (sym c.in_ok-row.ensures.ok_part ∙ c.number.ensures) (sym c.in_ok-hours.ensures.ok_part ∙ c.hours_of.ensures) (sym c.in_ok-gain.ensures.ok_part ∙ c.gain_of.ensures) (sym c.in_err-urgent.ensures.ok_part ∙ c.mark_of.ensures) refl

pub returns-in_err-hold : goal.returns-in_err-hold
returns-in_err-hold c =
    let e : c.from_residual-in_err-hold.result ≡ Err R.FieldForm = search rules in
    e ∙ station_is c.args.fields.now _ c.args.k c.requires c.in-len5.len_at_least c.in-len5.len_below _ _ _ _ _ (sym c.in_ok-row.ensures.ok_part ∙ c.number.ensures) (sym c.in_ok-hours.ensures.ok_part ∙ c.hours_of.ensures) (sym c.in_ok-gain.ensures.ok_part ∙ c.gain_of.ensures) (sym c.in_ok-urgent.ensures.ok_part ∙ c.mark_of.ensures) (sym c.in_err-hold.ensures.ok_part ∙ c.hold_of.ensures)

pub returns-then-row-k : goal.returns-then-row-k
returns-then-row-k c =
    let is = station_is c.args.fields.now _ c.args.k c.requires c.in-len5.len_at_least c.in-len5.len_below _ _ _ _ _ (sym c.in_ok-row.ensures.ok_part ∙ c.number.ensures) (sym c.in_ok-hours.ensures.ok_part ∙ c.hours_of.ensures) (sym c.in_ok-gain.ensures.ok_part ∙ c.gain_of.ensures) (sym c.in_ok-urgent.ensures.ok_part ∙ c.mark_of.ensures) (sym c.in_ok-hold.ensures.ok_part ∙ c.hold_of.ensures) in
    rw (ne_eqb (c.in_ok-row.row + 1) c.args.k c.if-row-k.true) at is

pub returns : goal.returns
returns c =
    let is = station_is c.args.fields.now _ c.args.k c.requires c.in-len5.len_at_least c.in-len5.len_below _ _ _ _ _ (sym c.in_ok-row.ensures.ok_part ∙ c.number.ensures) (sym c.in_ok-hours.ensures.ok_part ∙ c.hours_of.ensures) (sym c.in_ok-gain.ensures.ok_part ∙ c.gain_of.ensures) (sym c.in_ok-urgent.ensures.ok_part ∙ c.mark_of.ensures) (sym c.in_ok-hold.ensures.ok_part ∙ c.hold_of.ensures) in
    let g = c.in_ok-gain.gain in
    let fits : SFits w64 g = search rules in
    ap {B = Result Station Reason} (λ (g : ℤ). Ok (record { hours = c.in_ok-hours.hours; gain = g; urgent = c.in_ok-urgent.urgent; hold = c.in_ok-hold.hold })) (to_z-of_z w64 g fits)
    ∙ rw (eq-eqb (c.in_ok-row.row + 1) c.args.k c.if-row-k.false) at is
