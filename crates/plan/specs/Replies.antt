-- How a call is refused. Assumes nothing.
use Rattle.std.specs.Prelude.{ℕ, Bool, ℤ, Err, Result, nat_le, unsigned_abs}
use Rattle.plant.specs.declared.refusal.Reason.{Reason}
use Rattle.plant.specs.declared.refusal.Part.TheVariants as P
use Rattle.plant.specs.declared.refusal.Refusal.{Refusal}

abbrev pub Reply : Type 0
Reply = Result Unit Refusal

-- a refusal that names no text
abbrev pub call_refused : Reason → ℕ → Refusal
call_refused reason place = record { reason = reason; part = P.Call; place = place }

abbrev pub refused : Reason → ℕ → Reply
refused reason place = Err (call_refused reason place)

-- a gain is at most a thousand million cents, with either sign
abbrev pub in_gain : ℤ → Bool
in_gain g = nat_le (unsigned_abs g) 1000000000
