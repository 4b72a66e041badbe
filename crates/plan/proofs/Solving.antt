-- From what the solver answers on a lent plant to what a solve answers on the ledger.
use Rattle.std.proofs.Common.{◌≡◌, ℕ, ◌+◌, ◌<◌, ◌≤◌, Bool, ◌⊎◌, List, length, ℤ, Some, Option, sym, ap, ◌∙◌, subst, inl, inr, arith}
use mathlib.Core.Path.{transport}
use Rattle.plant.specs.declared.records.Line.{Line}
use Rattle.plant.specs.declared.records.Station.{Station}
use Rattle.plant.specs.declared.refusal.Refusal.{Refusal}
use Rattle.plant.specs.declared.selection.Selection.{Selection as Marks}
use Rattle.plant.specs.declared.site.Plant.{Plant}
use Rattle.plant.specs.Tables.{listed}
use Rattle.plant.specs.Nodes.{tree_of, size}
use Rattle.plant.specs.Selections.{among, hours, gain}
use Rattle.plant.specs.Trees.{Tree, net_of}
use Rattle.plant.specs.declared.refusal.Part.TheVariants as P
use Rattle.plant.specs.declared.refusal.Reason.TheVariants as R
use Rattle.cells.specs.Cell.{CellChoice}
use Rattle.cells.specs.Subtrees.{sub}
use Rattle.cells.specs.Tables.{place, need_of}
use Rattle.cells.specs.Tops.{Tops, cell_of}
use Rattle.cells.specs.Best.{Best}
use Rattle.plant.specs.Selections.{Fits}
use Rattle.drawing.proofs.Numbering.{length-numbered}
use Rattle.filling.specs.Sites.{tree}
use Rattle.solver.specs.Solutions.{Tables, TooShort, Hopeless, Chosen, needs}
use Rattle.plan.specs.declared.Filled.{Filled}
use Rattle.plan.specs.declared.Plan.{Plan}
use Rattle.plan.specs.Ledger.{Ledger, filled, books, shown, view}
use Rattle.plan.specs.Solves.{IsLent, need, Picked, Refused, Unsolved, Tabled, Left}

pub view_is : (p : Plan) (f : Filled) → p.filled ≡ Some f → view p ≡ filled (books f)
view_is p f e = ap shown e

needs_is : (f : Filled) (q : Plant) → IsLent f q → needs q ≡ need (books f)
needs_is f q l = λ i. need_of (length (l.lines i)) (l.budget i)

-- as many nodes as the tree has
nodes_are : (f : Filled) → length (listed f.nodes) ≡ size (tree_of (listed f.nodes))
nodes_are f = ap length f.plant.drawn.ordered ∙ length-numbered (net_of (listed f.lines)) 0 (tree_of (listed f.nodes))

module _ {F : Type 0} (nil : F) (plus : F → F → F) (above : F → F → Bool) (by : Station → F) (on : Line → F) (p : Plan) (f : Filled) (q : Plant) (l : IsLent f q) (e : p.filled ≡ Some f) (before after : List (Option F)) where
  tree_is : tree q ≡ (books f).tree
  tree_is = ap tree_of l.nodes

  tabled : Tables nil plus above by on q before after → Tabled nil plus above by on (books f) before after
  tabled t =
      record {
        cells = λ v x y h few low.
            let many : v < length q.nodes.now = omega (arith, few, nodes_are f, ap length l.nodes) in
            let fits : h ≤ q.budget = omega (arith, low, l.budget) in
            let at = t.cells v x y h many fits in
            let P : List Station → List Line → Tree → ℕ → Type 0 = λ ss ls u b. Tops above (CellChoice nil plus by on ss ls (sub u v) x y h) (cell_of after (place (b + 1) v x y h)) in
            let moved : ◌≡◌ {A = Type 0} (P q.stations.now q.lines.now (tree q) q.budget) (P (listed f.stations) (listed f.lines) (books f).tree f.budget) = λ i. P (l.stations i) (l.lines i) (tree_is i) (l.budget i) in
            transport moved at;
        beyond = λ k past. t.beyond k (omega (arith, past, needs_is f q l));
      }

  best_is : (s : Marks) → Best nil plus above by on q.stations.now q.lines.now (tree q) q.budget (among s) → Best nil plus above by on (listed f.stations) (listed f.lines) (books f).tree f.budget (among s)
  best_is s b =
      let moved : ◌≡◌ {A = Type 0} (Best nil plus above by on q.stations.now q.lines.now (tree q) q.budget (among s)) (Best nil plus above by on (listed f.stations) (listed f.lines) (books f).tree f.budget (among s)) =
      λ i. Best nil plus above by on (l.stations i) (l.lines i) (tree_is i) (l.budget i) (among s) in
      transport moved b

  pub picked : (s : Marks) (h : ℕ) (z : ℤ) → Chosen nil plus above by on q before after s → h ≡ hours (listed f.stations) (among s) → z ≡ gain (listed f.stations) (listed f.lines) (among s)
      → Picked nil plus above by on (view p) (length before) s h z
  picked s h z c takes gains =
      subst (λ (v : Ledger). Picked nil plus above by on v (length before) s h z) (sym (view_is p f e))
      (omega (arith, c.enough, needs_is f q l), record { best = best_is s c.best; takes = takes; gains = gains })

  pub left_picked : (s : Marks) → Chosen nil plus above by on q before after s → Left nil plus above by on (view p) before after
  left_picked s c =
      subst (λ (v : Ledger). Left nil plus above by on v before after) (sym (view_is p f e))
      ((λ short. absurd (omega (arith, short, c.enough, needs_is f q l))), (λ enough. tabled c.tables))

  refused : (x : Refusal) → TooShort q before after x ⊎ Hopeless nil plus above by on q before after x → Refused (books f) (length before) x × Left nil plus above by on (filled (books f)) before after
  refused x (inl t) = (
    inl (omega (arith, t.short, needs_is f q l), t.refusal ∙ (λ i. record { reason = R.MemoryTooShort; part = P.Call; place = needs_is f q l i })),
    ((λ short. t.same), (λ enough. absurd (omega (arith, t.short, enough, needs_is f q l)))),
  )
  refused x (inr h) =
      let none = transport (λ i. (S : ℕ → Bool) → Fits (l.stations i) (l.budget i) S → ⊥) h.nothing in (
        inr (omega (arith, h.enough, needs_is f q l), none, h.refusal),
        ((λ short. absurd (omega (arith, short, h.enough, needs_is f q l))), (λ enough. tabled h.tables)),
      )

  pub unsolved : (x : Refusal) → TooShort q before after x ⊎ Hopeless nil plus above by on q before after x → Unsolved (view p) (length before) x
  unsolved x s = subst (λ (v : Ledger). Unsolved v (length before) x) (sym (view_is p f e)) (refused x s).0

  pub left_unsolved : (x : Refusal) → TooShort q before after x ⊎ Hopeless nil plus above by on q before after x → Left nil plus above by on (view p) before after
  left_unsolved x s = subst (λ (v : Ledger). Left nil plus above by on v before after) (sym (view_is p f e)) (refused x s).1
