-- What solve answers. Assumes nothing.
use Rattle.std.specs.Prelude.{◌≡◌, ℕ, ◌+◌, ◌<◌, ◌≤◌, Bool, ◌⊎◌, List, length, Ok, Err, Option, Result}
use Rattle.plant.specs.declared.records.Station.{Station}
use Rattle.plant.specs.declared.records.Line.{Line}
use Rattle.plant.specs.declared.refusal.Reason.TheVariants.{MemoryTooShort, NothingFits}
use Rattle.plant.specs.declared.refusal.Part.TheVariants.{Call}
use Rattle.plant.specs.declared.refusal.Refusal.{Refusal}
use Rattle.plant.specs.declared.selection.Selection.{Selection as Marks}
use Rattle.plant.specs.declared.site.Plant.{Plant}
use Rattle.plant.specs.Selections.{Selection, among, Fits}
use Rattle.cells.specs.Best.{Best}
use Rattle.cells.specs.Cell.{CellChoice}
use Rattle.cells.specs.Subtrees.{sub}
use Rattle.cells.specs.Tables.{place, need_of}
use Rattle.cells.specs.Tops.{Tops, cell_of}
use Rattle.yardsticks.specs.declared.yardstick.Yardstick.{Ghosts}
use Rattle.filling.specs.Sites.{tree}

-- the number of cells that the plant needs
abbrev pub needs : Plant → ℕ
needs p = need_of (length p.lines.now) p.budget

-- every cell is the best of its choices, and the cells past the need are as they were
pub record Tables {F : Type 0} (nil : F) (plus : F → F → F) (above : F → F → Bool) (f : Station → F) (g : Line → F) (p : Plant) (before after : List (Option F)) : Type 0 where
  pub cells : (v : ℕ) (l r : Bool) (h : ℕ) → v < length p.nodes.now → h ≤ p.budget
      → Tops above (CellChoice nil plus f g p.stations.now p.lines.now (sub (tree p) v) l r h) (cell_of after (place (p.budget + 1) v l r h))
  pub beyond : (k : ℕ) → needs p ≤ k → cell_of after k ≡ cell_of before k

-- there are too few cells: the refusal says how many it takes, and they are as they were
pub record TooShort {F : Type 0} (p : Plant) (before after : List (Option F)) (e : Refusal) : Type 0 where
  pub short : length before < needs p
  pub refusal : e ≡ record { reason = MemoryTooShort; part = Call; place = needs p }
  pub same : after ≡ before

-- there are enough cells, and no selection fits
pub record Hopeless {F : Type 0} (nil : F) (plus : F → F → F) (above : F → F → Bool) (f : Station → F) (g : Line → F) (p : Plant) (before after : List (Option F)) (e : Refusal) : Type 0 where
  pub enough : needs p ≤ length before
  pub refusal : e ≡ record { reason = NothingFits; part = Call; place = 0 }
  pub nothing : (S : Selection) → Fits p.stations.now p.budget S → ⊥
  pub tables : Tables nil plus above f g p before after

-- there are enough cells, and this is the best list
pub record Chosen {F : Type 0} (nil : F) (plus : F → F → F) (above : F → F → Bool) (f : Station → F) (g : Line → F) (p : Plant) (before after : List (Option F)) (s : Marks) : Type 0 where
  pub enough : needs p ≤ length before
  pub best : Best nil plus above f g p.stations.now p.lines.now (tree p) p.budget (among s)
  pub tables : Tables nil plus above f g p before after

abbrev pub Solution : {F : Type 0} → F → (F → F → F) → (F → F → Bool) → (Station → F) → (Line → F) → Plant → List (Option F) → List (Option F) → Result Marks Refusal → Type 0
Solution nil plus above f g p before after (Ok s) = Chosen nil plus above f g p before after s
Solution nil plus above f g p before after (Err e) = TooShort p before after e ⊎ Hopeless nil plus above f g p before after e

-- the same by a yardstick
abbrev pub Solves : {Y F : Type 0} → Ghosts Y F → Plant → List (Option F) → List (Option F) → Result Marks Refusal → Type 0
Solves y p before after r = Solution y.nil y.plus y.above y.station y.line p before after r
