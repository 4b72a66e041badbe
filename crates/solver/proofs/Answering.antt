-- The leading offer, traced down, is the best list. Assumes nothing.
use Rattle.std.proofs.Common.{◌≡◌, ℕ, ◌+◌, ◌*◌, ◌≤◌, Bool, false, List, length, Some, None, Option, sym, refl, ap, ◌∙◌, subst, arith}
use Rattle.plant.specs.declared.records.Station.{Station}
use Rattle.plant.specs.declared.records.Line.{Line}
use Rattle.plant.specs.declared.site.Plant.{Plant}
use Rattle.plant.specs.Selections.{Selection, Fits, figure, hours}
use Rattle.plant.specs.Trees.{Tree, left, right}
use Rattle.yardsticks.specs.Laws.{Laws, limit, record_limit}
use Rattle.cells.specs.Best.{Best}
use Rattle.cells.specs.Inside.{mid_hours}
use Rattle.cells.specs.Subtrees.{sub}
use Rattle.cells.specs.Tables.{memory}
use Rattle.cells.specs.Tops.{Tops}
use Rattle.cells.specs.Traces.{Solved, Traces, EndsLead, RootAttains, RootTraces}
use Rattle.cells.specs.Whole.{RootPairs, Fits as FitsSite}
use Rattle.cells.proofs.Answering.{answer, nothing_fits, fits_attains}
use Rattle.cells.proofs.Numbers.{cell_best}
use Rattle.cells.proofs.Topping.{none_some, some_is}
use Rattle.cells.proofs.Tracing.{traced}
use Rattle.cells.proofs.Subtrees.{sub_once, sub_lines}
use Rattle.joins.specs.declared.cell.Spot.{Spot}
use Rattle.picking.specs.declared.offer.Offer.{Offer}
use Rattle.picking.specs.Offers.{RootOffers, Leads, Leading, root}
use Rattle.picking.proofs.Rooting.{EndsRead, ends_read, ends_made}
use Rattle.solver.specs.Pending.{Traced}
use Rattle.filling.specs.Sites.{site, scores, tree, Filled, NodesFilled}
use Rattle.solver.specs.Solutions.{Tables}
use Rattle.solver.proofs.Solving.{solved}
use Rattle.filling.proofs.Standing.{whole, modest, few_records, sub_stands, inner_in, root_tree, some_nodes, need_is}

module _ {F : Type 0} {f : Station → F} {g : Line → F} {nil : F} {plus : F → F → F} {above : F → F → Bool} {sz : F → ℕ} (laws : Laws f g nil plus above sz) (p : Plant) where
  few_all : (length p.stations.now + length p.lines.now) * record_limit ≤ limit
  few_all = omega (arith, p.drawn.few_stations, p.drawn.few_lines)

  pub tables : (before after : List (Option F)) → NodesFilled nil plus above f g p before after (length p.nodes.now) → Tables nil plus above f g p before after
  tables before after filled = record {
    cells = λ v l r h lt le. cell_best laws p.stations.now p.lines.now (modest p laws) (sub (tree p) v) (sub_stands p v) (sub_once (tree p) v (whole p).apart) (inner_in p v)
        (sub_lines (length p.lines.now) (tree p) v (whole p).lines_within) few_all l r h (memory (p.budget + 1) after v l r h) (filled.filled.done v lt l r h le);
    beyond = λ k past. filled.kept_past k (omega (arith, need_is p));
  }

  module _ (cells : List (Option F)) (filled : Filled nil plus above f g p cells (length p.nodes.now)) where
    abbrev Pairs : F → Type 0
    Pairs x = RootPairs nil plus (site p) (scores f g p) (left (site p).net (tree p)) (right (site p).net (tree p)) p.budget (memory (p.budget + 1) cells (root p)) x

    pair_of : (o : Offer F) → RootOffers nil plus f p cells o → Pairs o.figure
    pair_of o c =
        let d = ends_read nil plus f p cells c.0 c.1 o c.2 in
        let e = d.2.1 in
        (c.0, c.1, d.2.0, e.cell, d.0, d.1, omega (arith, e.total, e.within), e.holds, e.makes)

    offer_for : (x : F) → Pairs x → (o : Offer F) × RootOffers nil plus f p cells o × (o.figure ≡ x)
    offer_for x c = (
      record { figure = x; hours = c.2 + mid_hours (site p) (left (site p).net (tree p)) c.0 + mid_hours (site p) (right (site p).net (tree p)) c.1; spot = record { node = root p; left = c.0; right = c.1; hours = c.2 } },
      (c.0, c.1, ends_made nil plus f p cells c.0 c.1 _ c.4 c.5 (c.2, record { spot_is = refl; total = refl; within = c.6; cell = c.3; holds = c.7; makes = c.8 })),
      refl,
    )

    sol : Solved nil plus above (site p) (scores f g p) (memory (p.budget + 1) cells) p.budget (root p) (tree p)
    sol = solved laws p cells filled (tree p) (root p) (omega (arith, some_nodes p)) (root_tree p)

    pub hopeless : Leading above (RootOffers nil plus f p cells) None → (S : Selection) → Fits p.stations.now p.budget S → ⊥
    hopeless lead S fits =
        nothing_fits laws.ops (site p) (scores f g p) (modest p laws) (memory (p.budget + 1) cells) (root p) (tree p) (length p.stations.now) (length p.lines.now) p.budget (whole p) few_all sol
        (record { reached = λ x e. none_some x e; covers = λ x c. let o = offer_for x c in let l = lead.leads o.0 o.1 in none_some l.0 l.1 })
        S (record { affordable = fits.affordable; held = fits.held })

    module _ (o : Offer F) (lead : Leading above (RootOffers nil plus f p cells) (Some o)) where
      c : RootOffers nil plus f p cells o
      c = lead.reached o refl

      leads : (x : Offer F) → RootOffers nil plus f p cells x → Leads above o x
      leads x h = let l = lead.leads x h in subst (λ (b : Offer F). Leads above b x) (some_is l.0 o (sym l.1)) l.2

      tops : Tops above Pairs (Some o.figure)
      tops = record {
        reached = λ x e. subst Pairs (some_is o.figure x e) (pair_of o c);
        covers = λ x h. let q = offer_for x h in (o.figure, refl, subst (λ (y : F). above y o.figure ≡ false) q.2 (leads q.0 q.1).not_above);
      }

      module _ (S : Selection) (followed : Traced nil plus f g p cells o.spot S) where
        abbrev l : Bool
        l = c.0

        abbrev r : Bool
        r = c.1

        -- read off the root's cell, with what its ends add
        abbrev off : EndsRead nil plus f p cells l r o
        off = ends_read nil plus f p cells l r o c.2

        abbrev h : ℕ
        h = off.2.0

        below : Traces nil plus (site p) (scores f g p) (memory (p.budget + 1) cells) (root p) (tree p) l r h S
        below = subst (λ (t : Tree). Traces nil plus (site p) (scores f g p) (memory (p.budget + 1) cells) (root p) t l r h S) (root_tree p)
            (subst (λ (s : Spot). Traces nil plus (site p) (scores f g p) (memory (p.budget + 1) cells) s.node (sub (tree p) s.node) s.left s.right s.hours S) off.2.1.spot_is followed)

        inside : h ≤ p.budget
        inside = omega (arith, off.2.1.total, off.2.1.within)

        ends : (S (left (site p).net (tree p)) ≡ l) × (S (right (site p).net (tree p)) ≡ r)
        ends =
            let pick = traced laws.ops (site p) (scores f g p) (modest p laws) (memory (p.budget + 1) cells) p.budget (root p) (tree p) l r h S (whole p).builds (few_records p) sol inside below in
            (pick.opens.at_left, pick.opens.at_right)

        attained : RootAttains nil plus (site p) (scores f g p) (left (site p).net (tree p)) (right (site p).net (tree p)) o.hours (memory (p.budget + 1) cells (root p)) o.figure l r h
        attained = record { keeps_left = off.0; keeps_right = off.1; sum = sym off.2.1.total; p = off.2.1.cell; holds_p = off.2.1.holds; makes = off.2.1.makes }

        -- what attains the figure at the root is an offer of that figure
        rival : (H : ℕ) (l' r' : Bool) (k : ℕ) → H ≤ p.budget → RootAttains nil plus (site p) (scores f g p) (left (site p).net (tree p)) (right (site p).net (tree p)) H (memory (p.budget + 1) cells (root p)) o.figure l' r' k
            → Leads above o (record { figure = o.figure; hours = H; spot = record { node = root p; left = l'; right = r'; hours = k } })
        rival H l' r' k le a = leads (record { figure = o.figure; hours = H; spot = record { node = root p; left = l'; right = r'; hours = k } })
            (l', r', ends_made nil plus f p cells l' r' _ a.keeps_left a.keeps_right (k, record { spot_is = refl; total = sym a.sum; within = le; cell = a.p; holds = a.holds_p; makes = a.makes }))

        by_ends : (P : Bool → Bool → Type 0) → P l r → P (S (left (site p).net (tree p))) (S (right (site p).net (tree p)))
        by_ends P x = subst (λ (u : Bool). P (S (left (site p).net (tree p))) u) (sym ends.1) (subst (λ (u : Bool). P u r) (sym ends.0) x)

        spot_ends : (o.spot.left ≡ l) × (o.spot.right ≡ r)
        spot_ends = (ap (λ (s : Spot). s.left) off.2.1.spot_is, ap (λ (s : Spot). s.right) off.2.1.spot_is)

        traces : RootTraces nil plus (site p) (scores f g p) (root p) (tree p) o.hours (memory (p.budget + 1) cells) o.figure S
        traces = record {
          h = h;
          attains = by_ends (λ u w. RootAttains nil plus (site p) (scores f g p) (left (site p).net (tree p)) (right (site p).net (tree p)) o.hours (memory (p.budget + 1) cells (root p)) o.figure u w h) attained;
          least = λ l' r' k a.
              let e = (rival o.hours l' r' k off.2.1.within a).ends_lead refl refl in
              let e' : EndsLead l r l' r' = subst (λ (u : Bool). EndsLead u r l' r') spot_ends.0 (subst (λ (u : Bool). EndsLead o.spot.left u l' r') spot_ends.1 e) in
              by_ends (λ u w. EndsLead u w l' r') e';
          below = by_ends (λ u w. Traces nil plus (site p) (scores f g p) (memory (p.budget + 1) cells) (root p) (tree p) u w h S) below;
        }

        pub best : Best nil plus above f g p.stations.now p.lines.now (tree p) p.budget S
        best =
            let M = modest p laws in
            let mem = memory (p.budget + 1) cells in
            let a = answer laws.ops (site p) (scores f g p) M mem (root p) (tree p) (length p.stations.now) (length p.lines.now) p.budget (whole p) few_all sol o.figure tops o.hours S off.2.1.within traces in
            record {
              fits = record { affordable = a.fits.affordable; held = a.fits.held };
              highest = λ T fits. subst (λ (x : F). above (figure nil plus f g p.stations.now p.lines.now T) x ≡ false) (sym a.reaches) (a.best T (record { affordable = fits.affordable; held = fits.held }));
              fewest = λ T fits same.
                  let site_fits : FitsSite (site p) (length p.stations.now) p.budget T = record { affordable = fits.affordable; held = fits.held } in
                  let u = fits_attains laws.ops (site p) (scores f g p) M mem (root p) (tree p) (length p.stations.now) (length p.lines.now) p.budget (whole p) few_all sol o.figure tops T site_fits (same ∙ a.reaches) in
                  let no_fewer = (rival (hours p.stations.now T) _ _ _ fits.affordable u).no_fewer refl in
                  omega (arith, a.takes);
              first = λ T fits same equal. a.first T (record { affordable = fits.affordable; held = fits.held }) (equal ∙ a.takes) (same ∙ a.reaches);
            }
