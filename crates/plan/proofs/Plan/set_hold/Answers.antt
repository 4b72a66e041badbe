use Rattle.std.proofs.Common.{refl, ◌∙◌}
use Rattle.std.proofs.lemmas.List.{length-set}
use Rattle.plant.specs.Records.{no_station}
use Rattle.plant.proofs.Listed.{row_listed}
use Rattle.plan.specs.Ledger.{hold_set}
use Rattle.plan.proofs.Steps.{accepted, takes_hold, books_station, station_kept, station_fine}
use Rattle.plan.proofs.Plan.set_hold.Goals as goal

pub invariant_of-filled : goal.invariant_of-filled
invariant_of-filled c =
    let f = c.in-Some.filled in
    let k = c.args.station in (
      tt,
      ((length-set f.stations.rows k _ ∙ f.stations.sound.0, f.stations.sound.1), tt),
      (station_kept f k _ c.if-k-filled.false (station_fine f k c.if-k-filled.false), (f.cheap, tt)),
    )

pub returns : goal.returns
returns c =
    let f = c.in-Some.filled in
    let k = c.args.station in
    let has = c.if-k-filled.false in
    let old = row_listed f.stations k no_station has in
    accepted c.args.self.now _ f _ (hold_set k c.args.hold) _ c.in-Some.is refl (takes_hold f k c.args.hold c.in-Ok.hold has c.in-Ok.ensures)
    (books_station f k _ _ has (λ i. record { hours = (old i).hours; gain = (old i).gain; urgent = (old i).urgent; hold = c.in-Ok.hold }))
