-- The urgent pair of a selection as two sums. Assumes nothing.
use Rattle.std.proofs.Common.{◌≡◌, ℕ, zero, suc, ◌+◌, Bool, true, false, cond, List, length, pos, ◌+ℤ◌, refl, arith}
use Rattle.plant.specs.declared.records.Station.{Station}
use Rattle.plant.specs.declared.records.Line.{Line}
use Rattle.plant.specs.Records.{station, line}
use Rattle.plant.specs.Selections.{Selection, upto, open_station, open_line, figure}
use Rattle.yardsticks.specs.Models.{urgent_station, urgent_line, urgent_zero, urgent_plus, urgent_gain}
use Rattle.yardsticks.specs.declared.figures.UrgentGain.{UrgentGain}
use Rattle.yardsticks.specs.Urgents.{pair}

urgent_parts : (b : Bool) (x : UrgentGain) → cond b x urgent_zero ≡ record { urgent = cond b x.urgent 0; gain = cond b x.gain (pos 0) }
urgent_parts true x = refl
urgent_parts false x = refl

line_parts : (b c : Bool) (l : Line) → cond b (cond c (urgent_line l) urgent_zero) urgent_zero ≡ record { urgent = 0; gain = cond b (cond c l.gain (pos 0)) (pos 0) }
line_parts true true l = refl
line_parts true false l = refl
line_parts false c l = refl

stations_parts : (ss : List Station) (S : Selection) (n : ℕ) → upto urgent_zero urgent_plus (open_station urgent_zero urgent_station ss S) n
    ≡ record { urgent = upto 0 ◌+◌ (open_station 0 (λ s. cond s.urgent 1 0) ss S) n; gain = upto (pos 0) ◌+ℤ◌ (open_station (pos 0) (λ s. s.gain) ss S) n }
stations_parts ss S zero = refl
stations_parts ss S (suc n) = rw (stations_parts ss S n, urgent_parts (S n) (urgent_station (station ss n)))

lines_parts : (ls : List Line) (S : Selection) (n : ℕ) → upto urgent_zero urgent_plus (open_line urgent_zero urgent_line ls S) n
    ≡ record { urgent = 0; gain = upto (pos 0) ◌+ℤ◌ (open_line (pos 0) (λ l. l.gain) ls S) n }
lines_parts ls S zero = refl
lines_parts ls S (suc n) = rw (lines_parts ls S n, line_parts (S (line ls n).from) (S (line ls n).to) (line ls n))

pub urgent_figure : (ss : List Station) (ls : List Line) (S : Selection) → figure urgent_zero urgent_plus urgent_station urgent_line ss ls S ≡ urgent_gain ss ls S
urgent_figure ss ls S = rw (stations_parts ss S (length ss), lines_parts ls S (length ls)) (pair (omega arith) refl)
