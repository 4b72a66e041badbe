-- Which of the root's offers leads, one after another. Assumes nothing.
use Rattle.std.proofs.Common.{◌≡◌, ℕ, ◌+◌, ◌<◌, ◌≤◌, Bool, true, false, cond, ltb, ◌⊎◌, List, length, Some, None, Option, sym, refl, ap, ◌∙◌, subst, inl, inr, ⊎_elim, arith}
use Rattle.std.proofs.lemmas.Bool.{cases_lt, cases_Bool, both_ways, ltb-true, ltb-false, cond-true, cond-false}
use Rattle.cells.specs.LineUp.{ShutBefore}
use Rattle.cells.specs.Tops.{Order, better_of, cell_of}
use Rattle.cells.specs.Traces.{EndsLead}
use Rattle.cells.proofs.Topping.{none_some, some_is, not_above_chain, above_one_way, held_within}
use Rattle.joins.specs.declared.cell.Spot.{Spot}
use Rattle.picking.specs.declared.offer.Offer.{Offer}
use Rattle.joins.specs.declared.share.Share.{Share}
use Rattle.plant.specs.declared.records.Station.{Station}
use Rattle.plant.specs.declared.site.Plant.{Plant}
use Rattle.plant.specs.Trees.{left, right}
use Rattle.std.proofs.lemmas.Option.{same_Some}
use Rattle.cells.specs.Tables.{memory}
use Rattle.filling.specs.Sites.{site, tree}
use Rattle.picking.specs.Offers.{outranks, offer_of, root, share_at, Offered, RowOffers, EndsOffers, RootOffers, Leads, Leading}

ends_same : (l r : Bool) → EndsLead l r l r
ends_same l r = inr (refl, inr refl)

-- some index below i
abbrev pub BelowOffers : {F : Type 0} → (F → F → F) → (ℕ → Option F) → Share F → Share F → ℕ → ℕ → Bool → Bool → ℕ → Offer F → Type 0
BelowOffers plus row L R budget v l r i o = (h : ℕ) × (h < i) × Offered plus row L R budget v l r h o

same_ends : {F : Type 0} {v v' : ℕ} {l r : Bool} {h h' : ℕ} (p q : Offer F) → p.spot ≡ record { node = v; left = l; right = r; hours = h } → q.spot ≡ record { node = v'; left = l; right = r; hours = h' }
    → EndsLead p.spot.left p.spot.right q.spot.left q.spot.right
same_ends p q e f = rw (e, f) (inr (refl, inr refl))

moved : {F : Type 0} (plus : F → F → F) (L R : Share F) (budget v : ℕ) (l r : Bool) (row row' : ℕ → Option F) (h : ℕ) (o : Offer F) → ((k : ℕ) → k ≤ budget → row k ≡ row' k)
    → Offered plus row L R budget v l r h o → Offered plus row' L R budget v l r h o
moved plus L R budget v l r row row' h o same c = record {
  spot_is = c.spot_is;
  total = c.total;
  within = c.within;
  cell = c.cell;
  holds = sym (same h (omega (arith, c.total, c.within))) ∙ c.holds;
  makes = c.makes;
}

shut_chain : (a b c : Bool) → ShutBefore a b → ShutBefore b c → ShutBefore a c
shut_chain a b c h k = (h.0, k.1)

ends_chain : (a b c d e f : Bool) → EndsLead a b c d → EndsLead c d e f → EndsLead a b e f
ends_chain a b c d e f x y = ⊎_elim
    (λ s. ⊎_elim (λ u. inl (s.0, u.1)) (λ u. inl (s.0, sym u.0 ∙ s.1)) y)
    (λ s. ⊎_elim (λ u. inl (s.0 ∙ u.0, u.1))
    (λ u. inr (s.0 ∙ u.0, ⊎_elim (λ p. ⊎_elim (λ q. inl (p.0, q.1)) (λ q. inl (p.0, sym q ∙ p.1)) u.1) (λ p. ⊎_elim (λ q. inl (p ∙ q.0, q.1)) (λ q. inr (p ∙ q)) u.1) s.1)) y) x

module _ {F : Type 0} {above : F → F → Bool} (laws : Order above) where
  leads_same : (b : Offer F) → Leads above b b
  leads_same b = record { not_above = laws.irreflexive b.figure; no_fewer = λ e. omega arith; ends_lead = λ e f. ends_same b.spot.left b.spot.right }

  leads_chain : (a b c : Offer F) → Leads above a b → Leads above b c → Leads above a c
  leads_chain a b c x y =
      let middle : c.figure ≡ a.figure → b.figure ≡ a.figure = λ e. laws.tied b.figure a.figure x.not_above (rw e at y.not_above) in
      record {
        not_above = not_above_chain laws c.figure b.figure a.figure y.not_above x.not_above;
        no_fewer = λ e. omega (arith, x.no_fewer (middle e), y.no_fewer (e ∙ sym (middle e)));
        ends_lead = λ e h.
            let one = x.no_fewer (middle e) in
            let two = y.no_fewer (e ∙ sym (middle e)) in
            ends_chain _ _ b.spot.left b.spot.right _ _ (x.ends_lead (middle e) (omega arith)) (y.ends_lead (e ∙ sym (middle e)) (omega arith));
      }

  -- what the test says of two offers
  outranks_so : (a b : Offer F) → outranks above a b ≡ true → Leads above a b
  outranks_so a b e = ⊎_elim
      (λ up. let down = above_one_way laws b.figure a.figure up in
      let differ : b.figure ≡ a.figure → ⊥ = λ is. both_ways (above a.figure b.figure) (rw is (laws.irreflexive a.figure)) up in
      record { not_above = down; no_fewer = λ is. absurd (differ is); ends_lead = λ is h. absurd (differ is) })
      (λ up. ⊎_elim
      (λ down. absurd (both_ways (outranks above a b) (cond-false (above a.figure b.figure) _ _ up ∙ cond-true (above b.figure a.figure) _ _ down) e))
      (λ down. let lt = ltb-true a.hours b.hours (sym (cond-false (above a.figure b.figure) true _ up ∙ cond-false (above b.figure a.figure) false _ down) ∙ e) in
      record { not_above = down; no_fewer = λ is. omega arith; ends_lead = λ is h. absurd (omega arith) })
      (cases_Bool (above b.figure a.figure)))
      (cases_Bool (above a.figure b.figure))

  outranks_not : (a b : Offer F) → outranks above a b ≡ false → EndsLead b.spot.left b.spot.right a.spot.left a.spot.right → Leads above b a
  outranks_not a b e ends = ⊎_elim
      (λ up. absurd (both_ways (outranks above a b) e (cond-true (above a.figure b.figure) true _ up)))
      (λ up. ⊎_elim
      (λ down. let differ : a.figure ≡ b.figure → ⊥ = λ is. both_ways (above b.figure a.figure) (rw is (laws.irreflexive b.figure)) down in
      record { not_above = up; no_fewer = λ is. absurd (differ is); ends_lead = λ is h. absurd (differ is) })
      (λ down. let le = ltb-false a.hours b.hours (sym (cond-false (above a.figure b.figure) true _ up ∙ cond-false (above b.figure a.figure) false _ down) ∙ e) in
      record { not_above = up; no_fewer = λ is. le; ends_lead = λ is h. ends })
      (cases_Bool (above b.figure a.figure)))
      (cases_Bool (above a.figure b.figure))

  pub leading_none : (P : Offer F → Type 0) → ((o : Offer F) → P o → ⊥) → Leading above P None
  leading_none P empty = record { reached = λ m e. none_some m e; leads = λ x h. absurd (empty x h) }

  pub leading_same : {P Q : Offer F → Type 0} {r : Option (Offer F)} → ((x : Offer F) → P x → Q x) → ((x : Offer F) → Q x → P x) → Leading above P r → Leading above Q r
  leading_same to from t = record { reached = λ m e. to m (t.reached m e); leads = λ x q. t.leads x (from x q) }

  leading_two : {P Q : Offer F → Type 0} (p q : Offer F) → Leading above P (Some p) → Leading above Q (Some q) → EndsLead p.spot.left p.spot.right q.spot.left q.spot.right
      → (b : Bool) → outranks above q p ≡ b → Leading above (λ x. P x ⊎ Q x) (Some (cond b q p))
  leading_two p q t u ends true e = record {
    reached = λ m f. inr (u.reached m f);
    leads = λ x. ⊎_elim
        (λ h. let c = t.leads x h in let is : c.0 ≡ p = some_is c.0 p (sym c.1) in (q, refl, leads_chain q p x (outranks_so q p e) (subst (λ (b : Offer F). Leads above b x) is c.2)))
        (λ h. u.leads x h);
  }
  leading_two p q t u ends false e = record {
    reached = λ m f. inl (t.reached m f);
    leads = λ x. ⊎_elim
        (λ h. t.leads x h)
        (λ h. let c = u.leads x h in let is : c.0 ≡ q = some_is c.0 q (sym c.1) in (p, refl, leads_chain p q x (outranks_not q p e ends) (subst (λ (b : Offer F). Leads above b x) is c.2)));
  }

  pub leading_better : {P Q : Offer F → Type 0} (r s : Option (Offer F)) → Leading above P r → Leading above Q s
      → ((p q : Offer F) → P p → Q q → EndsLead p.spot.left p.spot.right q.spot.left q.spot.right) → Leading above (λ x. P x ⊎ Q x) (better_of (outranks above) r s)
  leading_better None s t u ends = record {
    reached = λ m e. inr (u.reached m e);
    leads = λ x. ⊎_elim (λ h. let c = t.leads x h in none_some c.0 c.1) (λ h. u.leads x h);
  }
  leading_better (Some p) None t u ends = record {
    reached = λ m e. inl (t.reached m e);
    leads = λ x. ⊎_elim (λ h. t.leads x h) (λ h. let c = u.leads x h in none_some c.0 c.1);
  }
  leading_better (Some p) (Some q) t u ends = leading_two p q t u (ends p q (t.reached p refl) (u.reached q refl)) (outranks above q p) refl

  -- ---- one cell, and a row of them

  -- offers of one figure, hours and ends
  leads_like : (b c : Offer F) → c.figure ≡ b.figure → c.hours ≡ b.hours → c.spot ≡ b.spot → Leads above b c
  leads_like b c ef eh es = record {
    not_above = rw ef (laws.irreflexive b.figure);
    no_fewer = λ e. omega arith;
    ends_lead = λ e h. subst (λ (s : Spot). EndsLead b.spot.left b.spot.right s.left s.right) (sym es) (ends_same b.spot.left b.spot.right);
  }

  module _ (plus : F → F → F) (L R : Share F) (budget v : ℕ) (l r : Bool) (row : ℕ → Option F) (h : ℕ) where
    abbrev made : F → Offer F
    made x = record { figure = plus (plus x L.figure) R.figure; hours = h + L.hours + R.hours; spot = record { node = v; left = l; right = r; hours = h } }

    made_leads : (x : F) (o : Offer F) → row h ≡ Some x → Offered plus row L R budget v l r h o → Leads above (made x) o
    made_leads x o is c =
        let e : c.cell ≡ x = some_is c.cell x (sym c.holds ∙ is) in
        leads_like (made x) o (c.makes ∙ ap (λ (y : F). plus (plus y L.figure) R.figure) e) c.total c.spot_is

    made_offered : (x : F) → row h ≡ Some x → h + L.hours + R.hours ≤ budget → Offered plus row L R budget v l r h (made x)
    made_offered x is le = record { spot_is = refl; total = refl; within = le; cell = x; holds = is; makes = refl }

    pub one_offer : (cell : Option F) → row h ≡ cell
        → Leading above (Offered plus row L R budget v l r h) (offer_of plus L R budget (record { node = v; left = l; right = r; hours = h }) cell)
    one_offer None is = leading_none _ (λ o c. none_some c.cell (sym is ∙ c.holds))
    one_offer (Some x) is = ⊎_elim
        (λ over.
        let lt = ltb-true budget (h + L.hours + R.hours) over in
        rw over (leading_none _ (λ o c. omega (arith, c.total, c.within))))
        (λ under.
        let le = ltb-false budget (h + L.hours + R.hours) under in
        rw under (record {
          reached = λ o f. subst (Offered plus row L R budget v l r h) (some_is (made x) o f) (made_offered x is le);
          leads = λ o c. (made x, refl, made_leads x o is c);
        }))
        (cases_Bool (ltb budget (h + L.hours + R.hours)))

  -- a loop's step
  pub offers_step : (plus : F → F → F) (L R : Share F) (budget v : ℕ) (l r : Bool) (row : ℕ → Option F) (i : ℕ) (a b : Option (Offer F)) → Leading above (BelowOffers plus row L R budget v l r i) a
      → Leading above (Offered plus row L R budget v l r i) b → Leading above (BelowOffers plus row L R budget v l r (i + 1)) (better_of (outranks above) a b)
  offers_step plus L R budget v l r row i a b t u = leading_same
      (λ x. ⊎_elim (λ h. (h.0, omega (arith, h.1), h.2)) (λ h. (i, omega arith, h)))
      (λ x h. ⊎_elim (λ lt. inl (h.0, lt, h.2)) (λ ge. let e : h.0 ≡ i = omega (arith, h.1) in inr (subst (λ (k : ℕ). Offered plus row L R budget v l r k x) e h.2)) (cases_lt h.0 i))
      (leading_better a b t u (λ p q x y. same_ends p q x.2.spot_is y.spot_is))

  pub offers_end : (plus : F → F → F) (L R : Share F) (budget v : ℕ) (l r : Bool) (row : List (Option F)) (i : ℕ) (a : Option (Offer F)) → length row ≤ i
      → Leading above (BelowOffers plus (cell_of row) L R budget v l r i) a → Leading above (RowOffers plus (cell_of row) L R budget v l r) a
  offers_end plus L R budget v l r row i a all = leading_same (λ x h. (h.0, h.2)) (λ x h. (h.0, omega (arith, held_within row h.0 h.1.cell h.1.holds), h.1))

  -- shares of the ends that are there are the ones that its offers are read off with
  pub ends_lead : (nil : F) (plus : F → F → F) (f : Station → F) (p : Plant) (cells : List (Option F)) (l r : Bool) (L R : Share F) → Some L ≡ share_at nil f p (left (site p).net (tree p)) l
      → Some R ≡ share_at nil f p (right (site p).net (tree p)) r → (a : Option (Offer F)) → Leading above (RowOffers plus (memory (p.budget + 1) cells (root p) l r) L R p.budget (root p) l r) a
      → Leading above (EndsOffers nil plus f p cells l r) a
  ends_lead nil plus f p cells l r L R first last a = leading_same
      (λ o c. (L, R, sym first, sym last, c))
      (λ o c.
      let eL : c.0 ≡ L = same_Some c.0 L (sym c.2 ∙ sym first) in
      let eR : c.1 ≡ R = same_Some c.1 R (sym c.3 ∙ sym last) in
      subst (λ (s : Share F). RowOffers plus (memory (p.budget + 1) cells (root p) l r) L s p.budget (root p) l r o) eR
      (subst (λ (s : Share F). RowOffers plus (memory (p.budget + 1) cells (root p) l r) s c.1 p.budget (root p) l r o) eL c.4))

  -- a row that agrees up to the budget
  pub row_agrees : (plus : F → F → F) (L R : Share F) (budget v : ℕ) (l r : Bool) (row row' : ℕ → Option F) (a : Option (Offer F)) → ((k : ℕ) → k ≤ budget → row k ≡ row' k)
      → Leading above (RowOffers plus row L R budget v l r) a → Leading above (RowOffers plus row' L R budget v l r) a
  row_agrees plus L R budget v l r row row' a same = leading_same (λ o c. (c.0, moved plus L R budget v l r row row' c.0 o same c.1)) (λ o c. (c.0, moved plus L R budget v l r row' row c.0 o (λ k le. sym (same k le)) c.1))

-- ---- the four states of the ends, in their order
module _ {F : Type 0} {above : F → F → Bool} (laws : Order above) (nil : F) (plus : F → F → F) (f : Station → F) (p : Plant) (cells : List (Option F)) where
  abbrev At : Bool → Bool → Offer F → Type 0
  At l r = EndsOffers nil plus f p cells l r

  ends_of : (l r : Bool) (o : Offer F) → At l r o → (o.spot.left ≡ l) × (o.spot.right ≡ r)
  ends_of l r o c = let d = c.4.1 in (ap (λ (s : Spot). s.left) d.spot_is, ap (λ (s : Spot). s.right) d.spot_is)

  to_root : (o : Offer F) → (At false false o ⊎ At false true o) ⊎ (At true false o ⊎ At true true o) → RootOffers nil plus f p cells o
  to_root o = ⊎_elim (⊎_elim (λ c. (false, false, c)) (λ c. (false, true, c))) (⊎_elim (λ c. (true, false, c)) (λ c. (true, true, c)))

  from_states : (l r : Bool) (o : Offer F) → At l r o → (At false false o ⊎ At false true o) ⊎ (At true false o ⊎ At true true o)
  from_states false false o c = inl (inl c)
  from_states false true o c = inl (inr c)
  from_states true false o c = inr (inl c)
  from_states true true o c = inr (inr c)

  left_of : (l : Bool) (o : Offer F) → At l false o ⊎ At l true o → o.spot.left ≡ l
  left_of l o = ⊎_elim (λ c. (ends_of l false o c).0) (λ c. (ends_of l true o c).0)

  pub root_leads : (a b c d : Option (Offer F)) → Leading above (At false false) a → Leading above (At false true) b → Leading above (At true false) c → Leading above (At true true) d
      → Leading above (RootOffers nil plus f p cells) (better_of (outranks above) (better_of (outranks above) a b) (better_of (outranks above) c d))
  root_leads a b c d ta tb tc td = leading_same laws to_root (λ o x. from_states x.0 x.1 o x.2)
      (leading_better laws (better_of (outranks above) a b) (better_of (outranks above) c d)
      (leading_better laws a b ta tb (λ x y cx cy. inr ((ends_of false false x cx).0 ∙ sym (ends_of false true y cy).0, inl ((ends_of false false x cx).1, (ends_of false true y cy).1))))
      (leading_better laws c d tc td (λ x y cx cy. inr ((ends_of true false x cx).0 ∙ sym (ends_of true true y cy).0, inl ((ends_of true false x cx).1, (ends_of true true y cy).1))))
      (λ x y cx cy. inl (left_of false x cx, left_of true y cy)))
