-- The join of two rows in memory, from the first index at which both may hold something to the last. Assumes nothing.
use Rattle.std.proofs.Common.{◌≡◌, ℕ, ◌+◌, ◌-◌, ◌<◌, ◌≤◌, Bool, ◌⊎◌, List, length, Some, None, Option, sym, ap, ◌∙◌, ⊎_elim, arith}
use Rattle.std.proofs.lemmas.List.{get_or_past}
use Rattle.std.proofs.lemmas.Bool.{cases_lt}
use Rattle.cells.specs.Tops.{Tops, Split, cell_of, joined_of}
use Rattle.cells.proofs.Topping.{Below, tops_same, held_within, joined_parts}

module _ {F : Type 0} {above : F → F → Bool} (plus : F → F → F) (first second : List (Option F)) (mid : F) (rest : ℕ) where
  -- from the end on the first row has ended, or the rest is used up
  pub split_end : (i : ℕ) (r : Option F) → i ≤ rest + 1 → (length first ≤ i) ⊎ (rest < i) → Tops above (Below (λ k x. joined_of plus mid (cell_of first k) (cell_of second (rest - k)) ≡ Some x) i) r → Tops above (Split plus (cell_of first) (cell_of second) mid 0 rest) r
  split_end i r within late = tops_same
      (λ x b.
      let j = joined_parts plus mid (cell_of first b.0) (cell_of second (rest - b.0)) x b.2 in
      (b.0, rest - b.0, j.0, j.1, omega (arith, b.1), j.2, j.3, j.4))
      (λ x s.
      let e : rest - s.0 ≡ s.1 = omega (arith, s.4) in
      let lt = held_within first s.0 s.2 s.5 in
      (s.0, ⊎_elim (λ le. omega arith) (λ le. omega (arith, s.4)) late, rw (e, s.5, s.6, s.7)))

-- a row that is cut where nothing follows is the whole row
pub cut_same : {F : Type 0} (row : List (Option F)) (f : ℕ → Option F) (len k : ℕ) → length row ≡ len → ((i : ℕ) → i < len → cell_of row i ≡ f i) → (len ≤ k → f k ≡ None) → cell_of row k ≡ f k
cut_same row f len k long same past = ⊎_elim (λ lt. same k lt) (λ ge. get_or_past row k None (omega arith) ∙ sym (past ge)) (cases_lt k len)

-- sums of rows that agree up to the total
pub split_same : {F : Type 0} (plus : F → F → F) (f g f' g' : ℕ → Option F) (mid mid' : F) (spent spent' h : ℕ) → ((k : ℕ) → k ≤ h → f k ≡ f' k) → ((k : ℕ) → k ≤ h → g k ≡ g' k) → mid ≡ mid' → spent ≡ spent' → (x : F)
    → Split plus f g mid spent h x → Split plus f' g' mid' spent' h x
split_same plus f g f' g' mid mid' spent spent' h ef eg em es x s =
    (s.0, s.1, s.2, s.3, omega (arith, s.4), sym (ef s.0 (omega (arith, s.4))) ∙ s.5, sym (eg s.1 (omega (arith, s.4))) ∙ s.6, s.7 ∙ ap (plus (plus s.2 s.3)) em)
