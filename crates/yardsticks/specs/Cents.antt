-- Figures in cents obey the laws of figures. Assumes nothing.
use Rattle.std.proofs.Common.{refl, arith}
use Rattle.std.proofs.lemmas.Int.{ints}
use Rattle.yardsticks.specs.Laws.{Ops}
use Rattle.yardsticks.specs.Models.{money_zero, money_plus, money_above, money_size}

pub cents_ops : Ops money_zero money_plus money_above money_size
cents_ops = record {
  unit = λ a h. omega (arith, ints);
  comm = λ a b h. omega (arith, ints);
  assoc = λ a b c h. omega (arith, ints);
  irreflexive = λ a. grind (arith, ints);
  transitive = λ a b c h k. grind (arith, ints);
  tied = λ a b h k. grind (arith, ints);
  shift = λ a b c h k. grind (arith, ints);
  size_nil = refl;
  size_plus = λ a b h. grind (arith, ints);
}
