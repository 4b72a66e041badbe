-- The fields that the reader holds of a record. Assumes nothing.
use Rattle.std.specs.Prelude.{ℕ, List, map}
use Rattle.std.specs.Borrow.{Bor}
use Rattle.plant.specs.declared.table.Table.{Table}
use Rattle.plant.specs.Tables.{listed}

-- the bytes of each part
abbrev pub part_bytes : List (Bor (List ℕ)) → List (List ℕ)
part_bytes parts = map (λ p. p.now) parts

-- the parts of the fields, six at most
abbrev pub held : Table (Bor (List ℕ)) 6 → List (List ℕ)
held f = part_bytes (listed f)
