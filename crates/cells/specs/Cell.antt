-- What a cell holds: the best over the choices of a node's inner stations, as sums over the numbered stations and lines. Assumes nothing.
use Rattle.std.specs.Prelude.{◌≡◌, ℕ, ◌+◌, Bool, true, cond, List, length}
use Rattle.plant.specs.declared.records.Station.{Station}
use Rattle.plant.specs.declared.records.Line.{Line}
use Rattle.plant.specs.Records.{allows, station}
use Rattle.plant.specs.Selections.{Selection, upto, open_station, open_line}
use Rattle.plant.specs.Trees.{net_of, Tree, left, right, inner}
use Rattle.cells.specs.Inside.{line_of}

-- the hours of the opened inner stations
abbrev pub cell_hours : List Station → List Line → Tree → Selection → ℕ
cell_hours ss ls t S = upto 0 ◌+◌ (λ i. cond (inner (net_of ls) t i) (open_station 0 (λ s. s.hours) ss S i) 0) (length ss)

-- the figures of the opened inner stations, and of the node's lines with both ends open
abbrev pub cell_figure : {F : Type 0} → F → (F → F → F) → (Station → F) → (Line → F) → List Station → List Line → Tree → Selection → F
cell_figure nil plus f g ss ls t S =
    plus (upto nil plus (λ i. cond (inner (net_of ls) t i) (open_station nil f ss S i) nil) (length ss)) (upto nil plus (λ k. cond (line_of t k) (open_line nil g ls S k) nil) (length ls))

-- the selection has the ends in these states, keeps the holds of the inner stations, and takes h hours inside; the hours, the figures and
-- the holds of the two ends stay out
pub record Opened (ss : List Station) (ls : List Line) (t : Tree) (l r : Bool) (h : ℕ) (S : Selection) : Type 0 where
  pub left_end : S (left (net_of ls) t) ≡ l
  pub right_end : S (right (net_of ls) t) ≡ r
  pub holds : (i : ℕ) → inner (net_of ls) t i ≡ true → allows (station ss i).hold (S i) ≡ true
  pub takes : cell_hours ss ls t S ≡ h

-- x is the figure of such a choice
abbrev pub CellChoice : {F : Type 0} → F → (F → F → F) → (Station → F) → (Line → F) → List Station → List Line → Tree → Bool → Bool → ℕ → F → Type 0
CellChoice nil plus f g ss ls t l r h x = (S : Selection) × Opened ss ls t l r h S × (x ≡ cell_figure nil plus f g ss ls t S)
