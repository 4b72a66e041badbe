-- What a stack holds. Assumes nothing.
use Rattle.std.specs.Prelude.{◌≡◌, ℕ, List, [], ◌∷◌, ◌++◌, length, take, Some, None, Option}
use Rattle.plant.specs.declared.stack.Stack.{Stack}

-- its entries, the newest last
abbrev pub held : {T : Type 0} → Stack T → List T
held s = take s.len s.items.now

-- how many it may hold
abbrev pub room : {T : Type 0} → Stack T → ℕ
room s = length s.items.now

abbrev pub Popped : {T : Type 0} → Option T → List T → List T → Type 0
Popped None before after = (before ≡ []) × (after ≡ [])
Popped (Some x) before after = before ≡ after ++ x ∷ []
