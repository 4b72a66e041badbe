-- The number of each refusal, and of the part that it names. Assumes nothing.
use Rattle.std.specs.Prelude.{ℕ}
use Rattle.plant.specs.declared.refusal.Reason.{Reason}
use Rattle.plant.specs.declared.refusal.Reason.TheVariants as R
use Rattle.plant.specs.declared.refusal.Part.{Part}
use Rattle.plant.specs.declared.refusal.Part.TheVariants as P

abbrev pub number : Reason → ℕ
number R.TextTooLong = 1
number R.MemoryTooShort = 2
number R.TableGrammar = 3
number R.FieldCount = 4
number R.FieldForm = 5
number R.RowNumber = 6
number R.RowCount = 7
number R.LineEnds = 8
number R.TreeGrammar = 9
number R.TooDeep = 10
number R.LeafNumber = 11
number R.HalvesApart = 12
number R.NotThePlant = 13
number R.Blank = 14
number R.NoSuchRecord = 15
number R.OutOfRange = 16
number R.NothingFits = 17
number R.NotOpen = 18

abbrev pub part_number : Part → ℕ
part_number P.Stations = 0
part_number P.Lines = 1
part_number P.Tree = 2
part_number P.Call = 3
