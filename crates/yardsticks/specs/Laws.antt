-- What a yardstick owes. Assumes nothing.
use Rattle.std.specs.Prelude.{◌≡◌, ℕ, ◌+◌, ◌≤◌, Bool, true, false}
use Rattle.plant.specs.declared.records.Station.{Station}
use Rattle.plant.specs.declared.records.Line.{Line}
use Rattle.plant.specs.Records.{StationInRange, LineInRange}

-- no record in range has a figure of a larger size
abbrev pub record_limit : ℕ
record_limit = 1000000000

-- sums are asked for, and laws on them owed, where the sizes in each sum add to at most this
abbrev pub limit : ℕ
limit = 200000000000

-- the laws of the figures alone
pub record Ops {F : Type 0} (nil : F) (plus : F → F → F) (above : F → F → Bool) (size : F → ℕ) : Type 0 where
  pub unit : (a : F) → size a ≤ limit → plus nil a ≡ a
  pub comm : (a b : F) → size a + size b ≤ limit → plus a b ≡ plus b a
  pub assoc : (a b c : F) → size a + size b + size c ≤ limit → plus (plus a b) c ≡ plus a (plus b c)
  pub irreflexive : (a : F) → above a a ≡ false
  pub transitive : (a b c : F) → above a b ≡ true → above b c ≡ true → above a c ≡ true
  pub tied : (a b : F) → above a b ≡ false → above b a ≡ false → a ≡ b
  pub shift : (a b c : F) → size a + size c ≤ limit → size b + size c ≤ limit → above (plus a c) (plus b c) ≡ above a b
  pub size_nil : size nil ≡ 0
  pub size_plus : (a b : F) → size a + size b ≤ limit → size (plus a b) ≤ size a + size b

-- and what the figures of the records obey besides
pub record Laws {F : Type 0} (station : Station → F) (line : Line → F) (nil : F) (plus : F → F → F) (above : F → F → Bool) (size : F → ℕ) : Type 0 where
  pub ops : Ops nil plus above size
  pub size_station : (s : Station) → StationInRange s → size (station s) ≤ record_limit
  pub size_line : (l : Line) → LineInRange l → size (line l) ≤ record_limit
