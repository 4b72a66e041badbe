-- What the contents of a field stand for. Assumes nothing.
use Rattle.std.specs.Prelude.{ℕ, Bool, true, false, cond, not, ◌&&◌, List, [], ◌∷◌, ℤ, pos, negsuc, Some, None, Err, codes, Option, Result, ◌==◌, nat_le, nat_lt, slice_index_or}
use Rattle.std.specs.Str.{bytes_eq}
use Rattle.plant.specs.declared.records.Hold.{Hold}
use Rattle.plant.specs.declared.records.Hold.TheVariants as H
use Rattle.plant.specs.declared.refusal.Reason.{Reason}
use Rattle.plant.specs.declared.refusal.Reason.TheVariants.{FieldForm}
use Rattle.tables.specs.Laws.{meaning}
use Rattle.tables.specs.Numerals.{numeral, capped}

-- no quote stands in the word
abbrev pub clean : List ℕ → Bool
clean [] = true
clean (b ∷ s) = not (b == 34) && clean s

-- at most so much
abbrev pub limited : ℕ → Option ℕ → Option ℕ
limited most None = None
limited most (Some n) = cond (nat_le n most) (Some n) None

-- at most a thousand million, with either sign
abbrev pub limitedℤ : Option ℤ → Option ℤ
limitedℤ None = None
limitedℤ (Some (pos n)) = cond (nat_le n 1000000000) (Some (pos n)) None
limitedℤ (Some (negsuc n)) = cond (nat_lt n 1000000000) (Some (negsuc n)) None

-- a mark is 0 or 1
abbrev pub marked : Option ℕ → Option Bool
marked None = None
marked (Some n) = cond (n == 0) (Some false) (cond (n == 1) (Some true) None)

abbrev pub hold_from : List ℕ → Option Hold
hold_from w = cond (bytes_eq w (codes "free")) (Some H.Free) (cond (bytes_eq w (codes "open")) (Some H.Open) (cond (bytes_eq w (codes "shut")) (Some H.Shut) None))

-- a field that is not written right, or is out of range, is refused before what comes after it
abbrev pub need : {A B : Type 0} → Option A → (A → Result B Reason) → Result B Reason
need None f = Err FieldForm
need (Some x) f = f x

-- what the i-th part means
abbrev pub field : List (List ℕ) → ℕ → List ℕ
field ps i = meaning (slice_index_or ps i [])

-- the code reads what is past every limit as one number
abbrev pub cap : List ℕ → Option ℕ
cap s = capped (numeral s)
