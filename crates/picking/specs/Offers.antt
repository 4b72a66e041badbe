-- What the root offers, and which offer leads. Assumes nothing.
use Rattle.std.specs.Prelude.{◌≡◌, ℕ, ◌+◌, ◌-◌, ◌≤◌, Bool, true, false, cond, List, length, Some, None, Option, nat_lt}
use Rattle.plant.specs.declared.records.Station.{Station}
use Rattle.plant.specs.declared.site.Plant.{Plant}
use Rattle.plant.specs.Records.{station}
use Rattle.plant.specs.Trees.{left, right}
use Rattle.cells.specs.Tables.{memory}
use Rattle.cells.specs.Traces.{EndsLead}
use Rattle.joins.specs.declared.cell.Spot.{Spot}
use Rattle.picking.specs.declared.offer.Offer.{Offer}
use Rattle.joins.specs.declared.share.Share.{Share}
use Rattle.joins.specs.Shares.{share}
use Rattle.yardsticks.specs.declared.yardstick.Yardstick.{Ghosts}
use Rattle.filling.specs.declared.tables.Tables.{Tables}
use Rattle.filling.specs.Sites.{site, tree}

-- the higher figure, and of equal figures the fewer hours
abbrev pub outranks : {F : Type 0} → (F → F → Bool) → Offer F → Offer F → Bool
outranks above a b = cond (above a.figure b.figure) true (cond (above b.figure a.figure) false (nat_lt a.hours b.hours))

-- a cell with the shares of both ends, where that is within the budget
abbrev pub offer_of : {F : Type 0} → (F → F → F) → Share F → Share F → ℕ → Spot → Option F → Option (Offer F)
offer_of plus L R budget s None = None
offer_of plus L R budget s (Some x) =
    cond (nat_lt budget (s.hours + L.hours + R.hours)) None (Some (record { figure = plus (plus x L.figure) R.figure; hours = s.hours + L.hours + R.hours; spot = s }))

-- o is read off the cell h of the row, with these shares of the ends
pub record Offered {F : Type 0} (plus : F → F → F) (row : ℕ → Option F) (L R : Share F) (budget v : ℕ) (l r : Bool) (h : ℕ) (o : Offer F) : Type 0 where
  pub spot_is : o.spot ≡ record { node = v; left = l; right = r; hours = h }
  pub total : o.hours ≡ h + L.hours + R.hours
  pub within : o.hours ≤ budget
  pub cell : F
  pub holds : row h ≡ Some cell
  pub makes : o.figure ≡ plus (plus cell L.figure) R.figure

abbrev pub RowOffers : {F : Type 0} → (F → F → F) → (ℕ → Option F) → Share F → Share F → ℕ → ℕ → Bool → Bool → Offer F → Type 0
RowOffers plus row L R budget v l r o = (h : ℕ) × Offered plus row L R budget v l r h o

abbrev pub RowFair : {F : Type 0} → (F → ℕ) → ℕ → (ℕ → Option F) → Share F → Share F → Type 0
RowFair {F} size n row L R = (h : ℕ) (x : F) → row h ≡ Some x → size x + size L.figure + size R.figure ≤ n

-- b is no worse than c: no figure above, of equal figures no fewer hours, of equal hours no end that is shut first
pub record Leads {F : Type 0} (above : F → F → Bool) (b c : Offer F) : Type 0 where
  pub not_above : above c.figure b.figure ≡ false
  pub no_fewer : c.figure ≡ b.figure → b.hours ≤ c.hours
  pub ends_lead : c.figure ≡ b.figure → c.hours ≡ b.hours → EndsLead b.spot.left b.spot.right c.spot.left c.spot.right

pub record Leading {F : Type 0} (above : F → F → Bool) (Cand : Offer F → Type 0) (r : Option (Offer F)) : Type 0 where
  pub reached : (b : Offer F) → r ≡ Some b → Cand b
  pub leads : (c : Offer F) → Cand c → (b : Offer F) × (r ≡ Some b) × Leads above b c

abbrev pub root : Plant → ℕ
root p = length p.nodes.now - 1

-- the share of a station of the plant in a state that its hold allows
abbrev pub share_at : {F : Type 0} → F → (Station → F) → Plant → ℕ → Bool → Option (Share F)
share_at nil f p i m = share nil f (station p.stations.now i) m

-- o is read off a cell of the root with its ends in these states, which their holds allow
abbrev pub EndsOffers : {F : Type 0} → F → (F → F → F) → (Station → F) → Plant → List (Option F) → Bool → Bool → Offer F → Type 0
EndsOffers {F} nil plus f p cells l r o =
    (L : Share F) × (R : Share F) × (share_at nil f p (left (site p).net (tree p)) l ≡ Some L) × (share_at nil f p (right (site p).net (tree p)) r ≡ Some R)
    × RowOffers plus (memory (p.budget + 1) cells (root p) l r) L R p.budget (root p) l r o

-- and in some states
abbrev pub RootOffers : {F : Type 0} → F → (F → F → F) → (Station → F) → Plant → List (Option F) → Offer F → Type 0
RootOffers nil plus f p cells o = (l : Bool) × (r : Bool) × EndsOffers nil plus f p cells l r o

-- r leads what the root of filled tables offers with its ends in these states
abbrev pub LeadsEnds : {Y F : Type 0} {y : Ghosts Y F} → Tables Y F y → Bool → Bool → Option (Offer F) → Type 0
LeadsEnds {y} t l r o = Leading y.above (EndsOffers y.nil y.plus y.station t.plant.now t.cells.now l r) o

-- and in all states
abbrev pub LeadsRoot : {Y F : Type 0} {y : Ghosts Y F} → Tables Y F y → Option (Offer F) → Type 0
LeadsRoot {y} t o = Leading y.above (RootOffers y.nil y.plus y.station t.plant.now t.cells.now) o
