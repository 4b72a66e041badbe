-- How the reader follows the grammar. Assumes nothing.
use Rattle.std.specs.Prelude.{◌≡◌, ℕ, ◌+◌, ◌-◌, ◌<◌, ◌≤◌, min, cond, List, [], ◌∷◌, length, drop, Some, None, Ok, Err, Option, Result}
use Rattle.plant.specs.declared.refusal.Refusal.{Refusal}
use Rattle.plant.specs.declared.refusal.Part.TheVariants as P
use Rattle.drawing.specs.declared.mark.Mark.{Mark}
use Rattle.drawing.specs.declared.text.Text.{Text}
use Rattle.drawing.specs.Marks.{sign, digit, first_mark, Fair}
use Rattle.drawing.specs.Grammar.{Out, good, bad}

-- the bytes that are still to be read
abbrev pub rest : Text → List ℕ
rest t = drop t.pos t.src.now

abbrev pub Ahead : Text → Option Mark → Type 0
Ahead t None = Unit {0}
Ahead t (Some m) = (t.pos < length t.src.now) × (rest t ≡ sign m ∷ drop (t.pos + 1) t.src.now) × Fair m

-- the next character, if there is one
pub record Peeked (t : Text) (r : Option Mark) : Type 0 where
  pub is : r ≡ first_mark (rest t)
  pub ahead : Ahead t r

abbrev pub next_digit : List ℕ → Option ℕ
next_digit [] = None
next_digit (b ∷ s) = cond (digit b) (Some (b - 48)) None

abbrev pub DigitAhead : Text → Option ℕ → Type 0
DigitAhead t None = Unit {0}
DigitAhead t (Some d) = (t.pos < length t.src.now) × (rest t ≡ (48 + d) ∷ drop (t.pos + 1) t.src.now) × (d ≤ 9)

pub record PeekedDigit (t : Text) (r : Option ℕ) : Type 0 where
  pub is : r ≡ next_digit (rest t)
  pub ahead : DigitAhead t r

-- a refusal of the tree's text, with its reason and its place
pub record Faulted {A : Type 0} (e : Refusal) (o : Out A) (src : List ℕ) : Type 0 where
  pub told : o ≡ bad e.reason (drop e.place src)
  pub within : e.place ≤ length src
  pub part : e.part ≡ P.Tree

abbrev pub Told : {A : Type 0} → Result A Refusal → Out A → Text → Type 0
Told (Ok x) o t = o ≡ good x (rest t)
Told (Err e) o t = Faulted e o t.src.now

-- the reader went from `before` to `after` as the grammar f does
pub record Reads {A : Type 0} (f : List ℕ → Out A) (before after : Text) (r : Result A Refusal) : Type 0 where
  pub src : after.src ≡ before.src
  pub told : Told r (f (rest before)) after

-- a number past every line counts as one number
abbrev pub capped : Out ℕ → Out ℕ
capped (good n s) = good (min n 128) s
capped (bad r s) = bad r s
