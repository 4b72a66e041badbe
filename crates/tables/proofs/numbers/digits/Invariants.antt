use Rattle.std.proofs.Common.{◌≡◌, drop}
use Rattle.tables.proofs.Capped.{up_to}
use Rattle.tables.proofs.numbers.digits.Given as goal

abbrev pub invariant-loop-b : goal.invariant-loop-b
invariant-loop-b l = up_to l.n (drop l.b-index l.text) ≡ up_to 0 l.text
