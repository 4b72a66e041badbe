-- What a filled plan offers to solve and to tick.
use Rattle.std.proofs.Common.{◌≡◌, ℕ, ◌+◌, ◌<◌, ◌≤◌, true, false, not, ◌&&◌, Some, None, Option, List, length, get_or, set, replicate, sym, ap, ◌∙◌, subst, ⊎_elim, arith}
use Rattle.std.proofs.lemmas.List.{get_or-replicate, get_or_past, length-replicate, get_or-set_other}
use Rattle.std.proofs.lemmas.Bool.{cases_lt, cases_eq}
use Rattle.plant.specs.declared.records.Station.{Station}
use Rattle.plant.specs.declared.selection.Selection.{Selection}
use Rattle.plant.specs.Records.{StationsInRange}
use Rattle.plant.specs.Selections.{among, hours}
use Rattle.plant.proofs.Sums.{hours_split}
use Rattle.plan.specs.declared.Filled.{Filled}
use Rattle.plan.specs.Ledger.{stations_in}

-- a plan's stations are few and in range
pub few : (o : Option Filled) → length (stations_in o) ≤ 64
few None = omega arith
few (Some f) = f.plant.few_stations

pub in_range : (o : Option Filled) → StationsInRange (stations_in o)
in_range None = λ i h. absurd (omega arith)
in_range (Some f) = f.plant.stations

-- none is in a selection that was made empty
pub none_in : (s : Selection) → s.open ≡ replicate 64 false → (k : ℕ) → among s k ≡ false
none_in s e k =
    ap (λ l. get_or l k false) e ∙ ⊎_elim (λ lt. get_or-replicate 64 k false false lt) (λ ge. let past : length (replicate 64 false) ≤ k = omega (arith, length-replicate 64 false) in get_or_past (replicate 64 false) k false past) (cases_lt k 64)

-- one station more
pub one_more : (s t : Selection) (k : ℕ) → t.open ≡ set s.open k true → k < length s.open → (j : ℕ) → among t j ≡ true → (P : ℕ → Type 0) → P k → (among s j ≡ true → P j) → P j
one_more s t k e less j is P at else =
    ⊎_elim
    (λ same. subst P (sym same) at)
    (λ ne. else (sym (get_or-set_other s.open k j true false ne) ∙ ap (λ l. get_or l j false) (sym e) ∙ is))
    (cases_eq j k)

-- ticked and open hours make those of the list
pub adds_up : (ss : List Station) (S T R : Selection) (a b : ℕ) → ((k : ℕ) → among T k ≡ true → among S k ≡ true) → ((k : ℕ) → among R k ≡ (among S k && not (among T k)))
    → a ≡ hours ss (among T) → b ≡ hours ss (among R) → a + b ≡ hours ss (among S)
adds_up ss S T R a b inside rest p q = omega (arith, p, q, hours_split ss (among S) (among T) (among R) inside rest)

pub same_hours : (ss : List Station) (R Q : Selection) → ((k : ℕ) → among R k ≡ among Q k) → hours ss (among R) ≡ hours ss (among Q)
same_hours ss R Q e = ap (hours ss) (λ i k. e k i)
