-- The better of two, by a test that a closure makes. Assumes nothing.
use Rattle.std.specs.Prelude.{◌≡◌, Bool, cond, Some, None, Option}

-- what there is, and of two the second where the test finds it above the first: `says x y t` is that the test of x and y answers t
abbrev pub FirstBest : {T : Type 0} → (T → T → Bool → Type 0) → Option T → Option T → Option T → Type 0
FirstBest says None b r = r ≡ b
FirstBest says (Some p) None r = r ≡ Some p
FirstBest says (Some p) (Some q) r = (t : Bool) × says q p t × (r ≡ Some (cond t q p))
