-- The best list. Assumes nothing.
use Rattle.std.specs.Prelude.{◌≡◌, ℕ, ◌≤◌, Bool, false, ◌⊎◌, List, length}
use Rattle.plant.specs.declared.records.Station.{Station}
use Rattle.plant.specs.declared.records.Line.{Line}
use Rattle.plant.specs.Selections.{Selection, figure, hours, Fits}
use Rattle.plant.specs.Trees.{Tree}
use Rattle.cells.specs.Inside.{site_of}
use Rattle.cells.specs.LineUp.{WholeBefore, Alike}

-- S is T on the plant's stations, or stands before it in the line-up
abbrev pub First : List Station → List Line → Tree → Selection → Selection → Type 0
First ss ls t S T = WholeBefore (site_of ss ls) t S T ⊎ Alike (length ss) S T

-- S fits, no selection that fits has a figure above its own, of those with an equal figure none has fewer hours, and of those equal in both
-- it is the first
pub record Best {F : Type 0} (nil : F) (plus : F → F → F) (above : F → F → Bool) (f : Station → F) (g : Line → F) (ss : List Station) (ls : List Line) (t : Tree) (budget : ℕ) (S : Selection) : Type 0 where
  pub fits : Fits ss budget S
  pub highest : (T : Selection) → Fits ss budget T → above (figure nil plus f g ss ls T) (figure nil plus f g ss ls S) ≡ false
  pub fewest : (T : Selection) → Fits ss budget T → figure nil plus f g ss ls T ≡ figure nil plus f g ss ls S → hours ss S ≤ hours ss T
  pub first : (T : Selection) → Fits ss budget T → figure nil plus f g ss ls T ≡ figure nil plus f g ss ls S → hours ss T ≡ hours ss S → First ss ls t S T
