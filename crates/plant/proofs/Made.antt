-- What an array has that is made number by number by a closure which each call leaves as it was.
use Rattle.std.proofs.Common.{◌≡◌, ℕ, zero, suc, ◌+◌, ◌≤◌, ◌<◌, List, get_or, ◌∙◌, subst, arith}
use denote.Param.Members.{Mut, Called}
use Rattle.std.specs.Array.{IsFromFnResult, IsFromFnResultFrom}

module _ {F B : Type 0} (g : Mut F (ℕ × Unit {0}) B) (h : ℕ → B) (f : F) (top : ℕ) (once : (i : ℕ) (y : B) (q : F) → i < top → Called g f (i, tt) y q → (y ≡ h i) × (q ≡ f)) where
  made_from : (n i : ℕ) (p : F) (ys : List B) → p ≡ f → i + n ≤ top → IsFromFnResultFrom g p ys i n → (k : ℕ) (d : B) → k < n → get_or ys (i + k) d ≡ h (i + k)
  made_from zero i p ys e le m k d lt = absurd (omega arith)
  made_from (suc n) i p ys e le m zero d lt =
      let one = once i m.1 m.0 (omega arith) (subst (λ x. Called g x (i, tt) m.1 m.0) e m.3) in
      subst (λ j. get_or ys j d ≡ h j) (omega arith) (m.2.1 d ∙ one.0)
  made_from (suc n) i p ys e le m (suc k) d lt =
      let one = once i m.1 m.0 (omega arith) (subst (λ x. Called g x (i, tt) m.1 m.0) e m.3) in
      let rest = made_from n (i + 1) m.0 ys one.1 (omega arith) m.4 k d (omega arith) in
      subst (λ j. get_or ys j d ≡ h j) (omega arith) rest

  pub made : (ys : List B) → IsFromFnResult g f ys top → (k : ℕ) (d : B) → k < top → get_or ys k d ≡ h k
  made ys m k d lt = subst (λ j. get_or ys j d ≡ h j) (omega arith) (made_from top 0 f ys (λ i. f) (omega arith) m.each k d lt)
