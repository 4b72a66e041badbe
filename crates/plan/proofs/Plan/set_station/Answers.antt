use Rattle.std.proofs.Common.{rules, ◌≡◌, true, eqb, refl, w64}
use Rattle.std.proofs.lemmas.Int.{to_z-of_z}
use Rattle.plant.specs.Records.{no_station}
use Rattle.plant.proofs.Listed.{row_listed}
use Rattle.plan.specs.Ledger.{station_set}
use Rattle.plan.specs.Replies.{in_gain}
use Rattle.plan.proofs.Steps.{accepted, takes_station, books_station}
use Rattle.plan.proofs.Plan.set_station.Goals as goal

pub returns : goal.returns
returns c =
    let f = c.in-Some.filled in
    let k = c.args.station in
    let has = c.if-k-filled.false in
    let old = row_listed f.stations k no_station has in
    let z = to_z-of_z w64 c.args.gain c.ranges.gain in
    let fine : in_gain c.args.gain ≡ true = search rules in
    accepted c.args.self.now _ f _ (station_set k c.args.hours c.args.gain c.args.urgent) _ c.in-Some.is refl
    (takes_station f k c.args.hours c.args.gain c.args.urgent has c.if-hours-gt-MAX_HOURS.false fine c.if-urgent-gt1.false)
    (books_station f k _ _ has (λ i. record { hours = c.args.hours; gain = z i; urgent = eqb c.args.urgent 1; hold = (old i).hold }))
