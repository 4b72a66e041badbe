-- What a solve answers on a plan's ledger, and what it leaves in the cells. Assumes nothing.
use Rattle.std.specs.Prelude.{◌≡◌, ℕ, ◌+◌, ◌<◌, ◌≤◌, Bool, ◌⊎◌, List, length, ℤ, Ok, Err, Option, Result}
use Rattle.plant.specs.declared.records.Line.{Line}
use Rattle.plant.specs.declared.records.Station.{Station}
use Rattle.plant.specs.declared.refusal.Reason.TheVariants as R
use Rattle.plant.specs.declared.refusal.Refusal.{Refusal}
use Rattle.plant.specs.declared.selection.Selection.{Selection as Marks}
use Rattle.plant.specs.Tables.{listed}
use Rattle.plant.specs.Nodes.{size}
use Rattle.plant.specs.Selections.{Selection, among, hours, gain, Fits}
use Rattle.cells.specs.Best.{Best}
use Rattle.cells.specs.Cell.{CellChoice}
use Rattle.cells.specs.Subtrees.{sub}
use Rattle.cells.specs.Tables.{place, need_of}
use Rattle.cells.specs.Tops.{Tops, cell_of}
use Rattle.plant.specs.declared.site.Plant.{Plant}
use Rattle.plan.specs.declared.Filled.{Filled}
use Rattle.plan.specs.declared.Plan.{Plan}
use Rattle.plan.specs.declared.pick.Pick.{Pick}
use Rattle.plan.specs.Ledger.{Books, Ledger, blank, filled, view}
use Rattle.plan.specs.Replies.{call_refused}

-- the plant that a filled plan lends
pub record IsLent (f : Filled) (q : Plant) : Type 0 where
  pub stations : q.stations.now ≡ listed f.stations
  pub lines : q.lines.now ≡ listed f.lines
  pub nodes : q.nodes.now ≡ listed f.nodes
  pub budget : q.budget ≡ f.budget

-- the cells that a solve needs
abbrev pub need : Books → ℕ
need b = need_of (length b.lines) b.budget

-- A list is right: it is the best on the books by the yardstick, and these are its hours and its gain, by whichever yardstick it was picked.
pub record Right {F : Type 0} (nil : F) (plus : F → F → F) (above : F → F → Bool) (f : Station → F) (g : Line → F) (b : Books) (s : Marks) (h : ℕ) (z : ℤ) : Type 0 where
  pub best : Best nil plus above f g b.stations b.lines b.tree b.budget (among s)
  pub takes : h ≡ hours b.stations (among s)
  pub gains : z ≡ gain b.stations b.lines (among s)

-- a pick is handed out where there are enough cells, and is right
abbrev pub Picked : {F : Type 0} → F → (F → F → F) → (F → F → Bool) → (Station → F) → (Line → F) → Ledger → ℕ → Marks → ℕ → ℤ → Type 0
Picked nil plus above f g blank cells s h z = ⊥
Picked nil plus above f g (filled b) cells s h z = (need b ≤ cells) × Right nil plus above f g b s h z

-- a refusal on books: too few cells, by their need; else no selection fits
abbrev pub Refused : Books → ℕ → Refusal → Type 0
Refused b cells e =
    ((cells < need b) × (e ≡ call_refused R.MemoryTooShort (need b)))
    ⊎ ((need b ≤ cells) × ((S : Selection) → Fits b.stations b.budget S → ⊥) × (e ≡ call_refused R.NothingFits 0))

abbrev pub Unsolved : Ledger → ℕ → Refusal → Type 0
Unsolved blank cells e = e ≡ call_refused R.Blank 0
Unsolved (filled b) cells e = Refused b cells e

-- every cell is the highest figure of its choices, and the cells past the need are as they were
pub record Tabled {F : Type 0} (nil : F) (plus : F → F → F) (above : F → F → Bool) (f : Station → F) (g : Line → F) (b : Books) (before after : List (Option F)) : Type 0 where
  pub cells : (v : ℕ) (l r : Bool) (h : ℕ) → v < size b.tree → h ≤ b.budget
      → Tops above (CellChoice nil plus f g b.stations b.lines (sub b.tree v) l r h) (cell_of after (place (b.budget + 1) v l r h))
  pub beyond : (k : ℕ) → need b ≤ k → cell_of after k ≡ cell_of before k

-- what is left in the cells: a blank plan, or too few cells, leave them as they were
abbrev pub Left : {F : Type 0} → F → (F → F → F) → (F → F → Bool) → (Station → F) → (Line → F) → Ledger → List (Option F) → List (Option F) → Type 0
Left nil plus above f g blank before after = after ≡ before
Left nil plus above f g (filled b) before after = (length before < need b → after ≡ before) × (need b ≤ length before → Tabled nil plus above f g b before after)

abbrev pub Solved : {F : Type 0} → F → (F → F → F) → (F → F → Bool) → (Station → F) → (Line → F) → Plan → ℕ → Result Pick Refusal → Type 0
Solved nil plus above f g p cells (Ok k) = (k.plan.now ≡ p) × Picked nil plus above f g (view p) cells k.selection k.hours k.gain
Solved nil plus above f g p cells (Err e) = Unsolved (view p) cells e
