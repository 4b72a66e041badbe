-- What a station adds in one state. Assumes nothing.
use Rattle.std.specs.Prelude.{ℕ, Bool, cond, List, Some, None, Option}
use Rattle.plant.specs.declared.records.Station.{Station}
use Rattle.plant.specs.Records.{allows}
use Rattle.cells.specs.Tops.{Split, cell_of}
use Rattle.joins.specs.declared.share.Share.{Share}

-- in a state that its hold allows
abbrev pub share : {F : Type 0} → F → (Station → F) → Station → Bool → Option (Share F)
share nil f s open? = cond (allows s.hold open?) (Some (record { figure = cond open? (f s) nil; hours = cond open? s.hours 0 })) None

-- x is a sum of a cell of each row and the share between them
abbrev pub Joined : {F : Type 0} → (F → F → F) → List (Option F) → List (Option F) → Share F → ℕ → F → Type 0
Joined plus first second s h x = Split plus (cell_of first) (cell_of second) s.figure s.hours h x
