use Rattle.plant.specs.Selections.{among}
use Rattle.tables.specs.Laid.{Adds}
use Rattle.plan.specs.Sheets.{rows}
use Rattle.plan.proofs.sheet.rows.Given as goal

abbrev pub invariant-loop-k : goal.invariant-loop-k
invariant-loop-k l = Adds l.initial.to (rows l.stations (among l.selection) l.k) l.to
