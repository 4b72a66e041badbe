-- The best over the whole plant, and the first of the best. Assumes nothing.
use Rattle.std.proofs.Common.{◌≡◌, ℕ, ◌+◌, ◌*◌, ◌<◌, ◌≤◌, Bool, true, false, ◌⊎◌, Some, None, Option, sym, refl, arith}
use Rattle.yardsticks.specs.Laws.{Ops, limit, record_limit}
use Rattle.plant.specs.Selections.{Selection}
use Rattle.plant.specs.Trees.{Tree, leaf, series, parallel, left, right}
use Rattle.cells.specs.Tops.{Tops}
use Rattle.cells.specs.Inside.{Site, Scores, Modest, inner_hours}
use Rattle.cells.specs.LineUp.{WholeBefore, Alike}
use Rattle.cells.specs.Whole.{Whole, figure, whole_hours, Fits, Fitting, RootPairs}
use Rattle.cells.specs.Traces.{first_of, second_of, Cells, Solved, RootAttains, RootTraces}
use Rattle.cells.proofs.Root.{root_tops}
use Rattle.cells.proofs.Topping.{none_some, some_is}
use Rattle.cells.proofs.Tracing.{solved_at, root_attains, root_first}

-- what is read off the root and traced down is the best of the selections that fit, and the first of those that have its figure and its hours
pub record Answers {F : Type 0} (nil : F) (plus : F → F → F) (above : F → F → Bool) (N : Site) (P : Scores F) (t : Tree) (n m budget H : ℕ) (goal : F) (S : Selection) : Type 0 where
  pub fits : Fits N n budget S
  pub takes : whole_hours N n S ≡ H
  pub reaches : figure nil plus N P n m S ≡ goal
  pub best : (T : Selection) → Fits N n budget T → above (figure nil plus N P n m T) goal ≡ false
  pub first : (T : Selection) → Fits N n budget T → whole_hours N n T ≡ H → figure nil plus N P n m T ≡ goal → WholeBefore N t S T ⊎ Alike n S T

module _ {F : Type 0} {nil : F} {plus : F → F → F} {above : F → F → Bool} {size : F → ℕ} (laws : Ops nil plus above size) (N : Site) (P : Scores F) (modest : Modest size record_limit P) (cells : Cells F) where
  solved_less : (H K v : ℕ) (t : Tree) → H ≤ K → Solved nil plus above N P cells K v t → Solved nil plus above N P cells H v t
  solved_less H K v (leaf k) le s = λ l r h hle. s l r h (omega arith)
  solved_less H K v (series a b) le s = (solved_less H K (first_of v b) a le s.0, solved_less H K (second_of v) b le s.1, λ l r h hle. s.2 l r h (omega arith))
  solved_less H K v (parallel a b) le s = (solved_less H K (first_of v b) a le s.0, solved_less H K (second_of v) b le s.1, λ l r h hle. s.2 l r h (omega arith))

  module _ (v : ℕ) (t : Tree) (n m budget : ℕ) (w : Whole N n m t) (few : (n + m) * record_limit ≤ limit) (sol : Solved nil plus above N P cells budget v t) where
    whole_tops : (o : Option F) → Tops above (RootPairs nil plus N P (left N.net t) (right N.net t) budget (cells v)) o → Tops above (Fitting nil plus N P n m budget) o
    whole_tops o top = root_tops laws N P modest t n m budget (cells v) o w few (solved_at laws N P modest cells budget v t sol) top

    pub nothing_fits : Tops above (RootPairs nil plus N P (left N.net t) (right N.net t) budget (cells v)) None → (S : Selection) → Fits N n budget S → ⊥
    nothing_fits top S f = let c = (whole_tops None top).covers (figure nil plus N P n m S) (S, f, refl) in none_some c.0 c.1

    module _ (goal : F) (top : Tops above (RootPairs nil plus N P (left N.net t) (right N.net t) budget (cells v)) (Some goal)) where
      under : (T : Selection) → Fits N n budget T → above (figure nil plus N P n m T) goal ≡ false
      under T f =
          let c = (whole_tops (Some goal) top).covers (figure nil plus N P n m T) (T, f, refl) in
          let is : c.0 ≡ goal = some_is c.0 goal (sym c.1) in
          rw is at c.2

      fitted : (X : Selection) (H : ℕ) → H ≤ budget → whole_hours N n X ≡ H → ((i : ℕ) → i < n → N.keeps i (X i) ≡ true) → Fits N n budget X
      fitted X H le e held = record { affordable = omega arith; held = held }

      pub answer : (H : ℕ) (S : Selection) → H ≤ budget → RootTraces nil plus N P v t H cells goal S → Answers nil plus above N P t n m budget H goal S
      answer H S le x =
          let r = root_first laws N P modest cells H v t n m w few goal S (solved_less H budget v t le sol) (λ X o. under X (fitted X H le o.takes o.held)) x in
          record {
            fits = fitted S H le r.0.takes r.0.held;
            takes = r.0.takes;
            reaches = r.0.scores;
            best = under;
            first = λ T f e s. r.1 T (record { held = f.held; takes = e; scores = s });
          }

      -- a selection that fits and has the best figure is read off the root too
      pub fits_attains : (T : Selection) → Fits N n budget T → figure nil plus N P n m T ≡ goal
          → RootAttains nil plus N P (left N.net t) (right N.net t) (whole_hours N n T) (cells v) goal (T (left N.net t)) (T (right N.net t)) (inner_hours N t T)
      fits_attains T f is =
          let H = whole_hours N n T in
          let le = f.affordable in
          (root_attains laws N P modest cells H v t n m w few goal T (solved_less H budget v t le sol) (λ X o. under X (fitted X H le o.takes o.held)) (record { held = f.held; takes = refl; scores = is })).0
