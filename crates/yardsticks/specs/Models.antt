-- What the two yardsticks mean. Assumes nothing.
use Rattle.std.specs.Prelude.{ℕ, ◌+◌, max, Bool, cond, List, length, ℤ, pos, ◌+ℤ◌, ◌==◌, int_lt, nat_lt, unsigned_abs}
use Rattle.plant.specs.declared.records.Station.{Station}
use Rattle.plant.specs.declared.records.Line.{Line}
use Rattle.plant.specs.Selections.{Selection, upto, open_station, gain as gain_from}
use Rattle.yardsticks.specs.declared.figures.UrgentGain.{UrgentGain}

-- ---- money

abbrev pub money_station : Station → ℤ
money_station s = s.gain

abbrev pub money_line : Line → ℤ
money_line l = l.gain

abbrev pub money_zero : ℤ
money_zero = pos 0

abbrev pub money_plus : ℤ → ℤ → ℤ
money_plus a b = a +ℤ b

abbrev pub money_above : ℤ → ℤ → Bool
money_above a b = int_lt b a

abbrev pub money_size : ℤ → ℕ
money_size a = unsigned_abs a

-- ---- the urgent stations first

abbrev pub urgent_station : Station → UrgentGain
urgent_station s = record { urgent = cond s.urgent 1 0; gain = s.gain }

abbrev pub urgent_line : Line → UrgentGain
urgent_line l = record { urgent = 0; gain = l.gain }

abbrev pub urgent_zero : UrgentGain
urgent_zero = record { urgent = 0; gain = pos 0 }

abbrev pub urgent_plus : UrgentGain → UrgentGain → UrgentGain
urgent_plus a b = record { urgent = a.urgent + b.urgent; gain = a.gain +ℤ b.gain }

abbrev pub urgent_above : UrgentGain → UrgentGain → Bool
urgent_above a b = cond (a.urgent == b.urgent) (int_lt b.gain a.gain) (nat_lt b.urgent a.urgent)

abbrev pub urgent_size : UrgentGain → ℕ
urgent_size a = max a.urgent (unsigned_abs a.gain)

-- how many urgent stations a selection has
abbrev pub urgents : List Station → Selection → ℕ
urgents ss S = upto 0 ◌+◌ (open_station 0 (λ s. cond s.urgent 1 0) ss S) (length ss)

-- that count, and the gain
abbrev pub urgent_gain : List Station → List Line → Selection → UrgentGain
urgent_gain ss ls S = record { urgent = urgents ss S; gain = gain_from ss ls S }
