-- The characters of a tree's text, as bytes. Assumes nothing.
use Rattle.std.specs.Prelude.{ℕ, ◌+◌, ◌-◌, ◌≤◌, Bool, cond, ◌&&◌, List, [], ◌∷◌, Some, None, Option, ◌==◌, nat_le}
use Rattle.plant.specs.declared.tree.Join.{Join}
use Rattle.plant.specs.declared.tree.Join.TheVariants.{Series, Parallel}
use Rattle.drawing.specs.declared.mark.Mark.{Mark}
use Rattle.drawing.specs.declared.mark.Mark.TheVariants.{Open, Comma, Close, Semicolon, Digit, Letter}

-- the letter of a join
abbrev pub letter_of : Join → ℕ
letter_of Series = 115
letter_of Parallel = 112

-- the byte of a character
abbrev pub sign : Mark → ℕ
sign Open = 40
sign Comma = 44
sign Close = 41
sign Semicolon = 59
sign (Digit d) = 48 + d
sign (Letter j) = letter_of j

abbrev pub digit : ℕ → Bool
digit b = nat_le 48 b && nat_le b 57

abbrev pub mark_of : ℕ → Option Mark
mark_of b =
    cond (b == 40) (Some Open)
    (cond (b == 44) (Some Comma)
    (cond (b == 41) (Some Close)
    (cond (b == 59) (Some Semicolon)
    (cond (digit b) (Some (Digit (b - 48)))
    (cond (b == 115) (Some (Letter Series))
    (cond (b == 112) (Some (Letter Parallel)) None))))))

-- the first character of what is left
abbrev pub first_mark : List ℕ → Option Mark
first_mark [] = None
first_mark (b ∷ s) = mark_of b

-- a digit is below ten
abbrev pub Fair : Mark → Type 0
Fair Open = Unit {0}
Fair Comma = Unit {0}
Fair Close = Unit {0}
Fair Semicolon = Unit {0}
Fair (Digit d) = d ≤ 9
Fair (Letter j) = Unit {0}
