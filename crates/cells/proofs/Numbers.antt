-- The choices of a cell by number are those by its tree. Assumes nothing.
use Rattle.std.proofs.Common.{◌≡◌, ℕ, ◌+◌, ◌*◌, ◌<◌, ◌≤◌, Bool, true, List, length, Option, sym, ◌∙◌}
use Rattle.plant.specs.declared.records.Station.{Station}
use Rattle.plant.specs.declared.records.Line.{Line}
use Rattle.plant.specs.Selections.{Selection}
use Rattle.plant.specs.Trees.{net_of, Tree, inner, uses, Builds}
use Rattle.yardsticks.specs.Laws.{Laws, limit, record_limit}
use Rattle.cells.specs.Tops.{Tops}
use Rattle.cells.specs.Cell.{cell_hours, cell_figure, CellChoice}
use Rattle.cells.specs.Inside.{site_of, scores_of, line_of, inner_hours, inner_figure, Choice, Modest}
use Rattle.cells.proofs.Root.{hours_numbered, figure_node}
use Rattle.cells.proofs.Topping.{tops_same}

module _ {F : Type 0} {f : Station → F} {g : Line → F} {nil : F} {plus : F → F → F} {above : F → F → Bool} {sz : F → ℕ} (laws : Laws f g nil plus above sz) (ss : List Station) (ls : List Line) (modest : Modest sz record_limit (scores_of f g ss ls))
    (t : Tree) (builds : Builds (net_of ls) t) (once : (k : ℕ) → uses t k ≤ 1) (stations_in : (i : ℕ) → inner (net_of ls) t i ≡ true → i < length ss) (lines_in : (k : ℕ) → line_of t k ≡ true → k < length ls) (few : (length ss + length ls) * record_limit ≤ limit) where
  hours_are : (S : Selection) → inner_hours (site_of ss ls) t S ≡ cell_hours ss ls t S
  hours_are S = hours_numbered (site_of ss ls) t S (length ss) builds stations_in

  figure_is : (S : Selection) → inner_figure nil plus (site_of ss ls) (scores_of f g ss ls) t S ≡ cell_figure nil plus f g ss ls t S
  figure_is S = figure_node laws.ops (site_of ss ls) (scores_of f g ss ls) modest S t (length ss) (length ls) builds once stations_in lines_in few

  to_number : (l r : Bool) (h : ℕ) (x : F) → Choice nil plus (site_of ss ls) (scores_of f g ss ls) t l r h x → CellChoice nil plus f g ss ls t l r h x
  to_number l r h x c = (c.0, record { left_end = c.1.at_left; right_end = c.1.at_right; holds = c.1.holds; takes = sym (hours_are c.0) ∙ c.1.takes }, c.2 ∙ figure_is c.0)

  from_number : (l r : Bool) (h : ℕ) (x : F) → CellChoice nil plus f g ss ls t l r h x → Choice nil plus (site_of ss ls) (scores_of f g ss ls) t l r h x
  from_number l r h x c = (c.0, record { at_left = c.1.left_end; at_right = c.1.right_end; holds = c.1.holds; takes = hours_are c.0 ∙ c.1.takes }, c.2 ∙ sym (figure_is c.0))

  pub cell_best : (l r : Bool) (h : ℕ) (o : Option F) → Tops above (Choice nil plus (site_of ss ls) (scores_of f g ss ls) t l r h) o → Tops above (CellChoice nil plus f g ss ls t l r h) o
  cell_best l r h o top = tops_same (to_number l r h) (from_number l r h) top
