-- What a table lists. Assumes nothing.
use Rattle.std.specs.Prelude.{ℕ, List, take}
use Rattle.plant.specs.declared.table.Table.{Table}

-- its rows, in order
abbrev pub listed : {T : Type 0} {N : ℕ} → Table T N → List T
listed t = take t.count t.rows
