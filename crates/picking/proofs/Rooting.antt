-- The root's offers: their sizes, and what the leading one says of the selections that fit. Assumes nothing.
use Rattle.std.proofs.Common.{◌≡◌, ℕ, ◌+◌, ◌≤◌, Bool, true, false, cond, List, length, Some, Option, sym, ap, subst, ⊎_elim, arith}
use Rattle.std.proofs.lemmas.List.{get_or_past}
use Rattle.std.proofs.lemmas.Option.{cond_some}
use Rattle.std.proofs.lemmas.Bool.{cases_lt, cond-true}
use Rattle.plant.specs.declared.records.Station.{Station}
use Rattle.plant.specs.declared.records.Line.{Line}
use Rattle.plant.specs.declared.site.Plant.{Plant}
use Rattle.plant.specs.Records.{station, no_station}
use Rattle.plant.specs.Trees.{Tree, left, right}
use Rattle.yardsticks.specs.Laws.{Laws, limit}
use Rattle.cells.specs.Inside.{Choice, mid_hours}
use Rattle.cells.specs.Tables.{memory}
use Rattle.cells.specs.Tops.{Tops}
use Rattle.cells.proofs.Cells.{choice_size, mid_size}
use Rattle.cells.proofs.Root.{whole_records}
use Rattle.joins.specs.declared.share.Share.{Share}
use Rattle.picking.specs.declared.offer.Offer.{Offer}
use Rattle.picking.specs.Offers.{root, share_at, RowOffers, EndsOffers}
use Rattle.filling.specs.Sites.{site, scores, tree, Filled}
use Rattle.filling.proofs.Standing.{whole, modest, few_records, root_tree, some_nodes}

state_small : (b : Bool) (x w : ℕ) → x ≤ w → cond b x 0 ≤ w
state_small true x w h = h
state_small false x w h = omega arith

station_hours : (p : Plant) (i : ℕ) (m : Bool) → mid_hours (site p) i m ≤ 1000
station_hours p i m = state_small m (station p.stations.now i).hours 1000
    (⊎_elim (λ lt. (p.drawn.stations i lt).0) (λ ge. let e = ap (λ (s : Station). s.hours) (get_or_past p.stations.now i no_station ge) in omega arith) (cases_lt i (length p.stations.now)))

-- what a station of the plant adds in a state, whether or not its hold allows it
abbrev pub state_share : {F : Type 0} → F → (Station → F) → Plant → ℕ → Bool → Share F
state_share nil f p i m = record { figure = cond m (f (station p.stations.now i)) nil; hours = mid_hours (site p) i m }

module _ {F : Type 0} (nil : F) (f : Station → F) (p : Plant) where
  -- a share that is there is of a state that is allowed
  pub share_parts : (i : ℕ) (m : Bool) (s : Share F) → Some s ≡ share_at nil f p i m → ((site p).keeps i m ≡ true) × (state_share nil f p i m ≡ s)
  share_parts i m s is = cond_some _ _ s (sym is)

  share_made : (i : ℕ) (m : Bool) → (site p).keeps i m ≡ true → share_at nil f p i m ≡ Some (state_share nil f p i m)
  share_made i m is = cond-true ((site p).keeps i m) _ _ is

  pub share_hours : (i : ℕ) (m : Bool) (s : Share F) → Some s ≡ share_at nil f p i m → s.hours ≤ 1000
  share_hours i m s is = omega (arith, station_hours p i m, ap (λ (s : Share F). s.hours) (share_parts i m s is).1)

-- o is read off a cell of the root with what its ends add in these states, which their holds allow
abbrev pub EndsRead : {F : Type 0} → F → (F → F → F) → (Station → F) → Plant → List (Option F) → Bool → Bool → Offer F → Type 0
EndsRead nil plus f p cells l r o =
    let first = left (site p).net (tree p) in
    let last = right (site p).net (tree p) in
    ((site p).keeps first l ≡ true) × ((site p).keeps last r ≡ true)
    × RowOffers plus (memory (p.budget + 1) cells (root p) l r) (state_share nil f p first l) (state_share nil f p last r) p.budget (root p) l r o

module _ {F : Type 0} (nil : F) (plus : F → F → F) (f : Station → F) (p : Plant) (cells : List (Option F)) (l r : Bool) (o : Offer F) where
  abbrev Row : Share F → Share F → Type 0
  Row L R = RowOffers plus (memory (p.budget + 1) cells (root p) l r) L R p.budget (root p) l r o

  pub ends_read : EndsOffers nil plus f p cells l r o → EndsRead nil plus f p cells l r o
  ends_read c =
      let first = share_parts nil f p (left (site p).net (tree p)) l c.0 (sym c.2) in
      let last = share_parts nil f p (right (site p).net (tree p)) r c.1 (sym c.3) in
      (first.0, last.0, subst (λ (s : Share F). Row (state_share nil f p (left (site p).net (tree p)) l) s) (sym last.1) (subst (λ (s : Share F). Row s c.1) (sym first.1) c.4))

  pub ends_made : (site p).keeps (left (site p).net (tree p)) l ≡ true → (site p).keeps (right (site p).net (tree p)) r ≡ true
      → Row (state_share nil f p (left (site p).net (tree p)) l) (state_share nil f p (right (site p).net (tree p)) r) → EndsOffers nil plus f p cells l r o
  ends_made keeps_left keeps_right c = (_, _, share_made nil f p (left (site p).net (tree p)) l keeps_left, share_made nil f p (right (site p).net (tree p)) r keeps_right, c)

module _ {F : Type 0} {f : Station → F} {g : Line → F} {nil : F} {plus : F → F → F} {above : F → F → Bool} {sz : F → ℕ} (laws : Laws f g nil plus above sz) (p : Plant) (cells : List (Option F))
    (filled : Filled nil plus above f g p cells (length p.nodes.now)) where
  pub root_cells : (l r : Bool) (h : ℕ) → h ≤ p.budget → Tops above (Choice nil plus (site p) (scores f g p) (tree p) l r h) (memory (p.budget + 1) cells (root p) l r h)
  root_cells l r h le = subst (λ (t : Tree). Tops above (Choice nil plus (site p) (scores f g p) t l r h) (memory (p.budget + 1) cells (root p) l r h)) (root_tree p) (filled.done (root p) (omega (arith, some_nodes p)) l r h le)

  pub root_fair : (l r : Bool) (h i j : ℕ) (m n : Bool) (s t : Share F) (x : F) → Some s ≡ share_at nil f p i m → Some t ≡ share_at nil f p j n → h ≤ p.budget → memory (p.budget + 1) cells (root p) l r h ≡ Some x
      → sz x + sz s.figure + sz t.figure ≤ limit
  root_fair l r h i j m n s t x one two le e =
      let c = (root_cells l r h le).reached x e in
      let es = ap (λ (s : Share F). sz s.figure) (share_parts nil f p i m s one).1 in
      let et = ap (λ (s : Share F). sz s.figure) (share_parts nil f p j n t two).1 in
      omega (
        arith,
        choice_size laws.ops (site p) (scores f g p) (modest p laws) (tree p) l r h x (few_records p) c,
        mid_size laws.ops (site p) (scores f g p) (modest p laws) i m,
        mid_size laws.ops (site p) (scores f g p) (modest p laws) j n,
        whole_records (site p) (tree p) (length p.stations.now) (length p.lines.now) (whole p),
        p.drawn.few_stations,
        p.drawn.few_lines,
      )
