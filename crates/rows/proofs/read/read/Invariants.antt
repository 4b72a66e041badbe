use Rattle.std.proofs.Common.{◌-◌, length}
use Rattle.plant.specs.Tables.{listed}
use Rattle.rows.proofs.Reading.{Going}
use Rattle.rows.proofs.read.read.Given as goal

abbrev pub invariant-loop-records : goal.invariant-loop-records
invariant-loop-records g l = Going (g.K.Kind.rules l.kind) (g.met.K.Kind.lawful l.kind) l.part l.text.bytes.now l.records (listed l.rows)

abbrev pub decreases-loop-records : goal.decreases-loop-records
decreases-loop-records g l = length l.records.src.now - l.records.pos
