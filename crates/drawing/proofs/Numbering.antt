-- The numbered nodes of a tree are those of that tree and no other. Assumes nothing.
use Rattle.std.proofs.Common.{◌≡◌, ℕ, zero, suc, ◌+◌, ◌-◌, ◌≤◌, List, [], ◌∷◌, ◌++◌, length, get_or, sym, refl, ap, ◌∙◌, append_assoc, append-nil, arith}
use Rattle.std.proofs.lemmas.List.{length-append, get_or_at}
use Rattle.plant.specs.declared.tree.Join.{Join}
use Rattle.plant.specs.declared.tree.Join.TheVariants.{Series, Parallel}
use Rattle.plant.specs.declared.tree.Shape.{Shape}
use Rattle.plant.specs.declared.tree.Shape.TheVariants as S
use Rattle.plant.specs.declared.tree.Node.{Node}
use Rattle.plant.specs.Trees.{Net, Tree, leaf, series, parallel}
use Rattle.plant.specs.Nodes.{size, node, numbered, no_node, joined, shaped, tree_at, tree_of}

pub size_pos : (t : Tree) → 1 ≤ size t
size_pos (leaf k) = omega arith
size_pos (series a b) = omega arith
size_pos (parallel a b) = omega arith

pub length-numbered : (N : Net) (n : ℕ) (t : Tree) → length (numbered N n t) ≡ size t
length-numbered N n (leaf k) = refl
length-numbered N n (series a b) =
    omega (
      arith,
      length-append (numbered N n a) (numbered N (n + size a) b ++ node N (series a b) (S.Join Series (n + size a - 1) (n + size a + size b - 1)) ∷ []),
      length-append (numbered N (n + size a) b) (node N (series a b) (S.Join Series (n + size a - 1) (n + size a + size b - 1)) ∷ []),
      length-numbered N n a,
      length-numbered N (n + size a) b,
    )
length-numbered N n (parallel a b) =
    omega (
      arith,
      length-append (numbered N n a) (numbered N (n + size a) b ++ node N (parallel a b) (S.Join Parallel (n + size a - 1) (n + size a + size b - 1)) ∷ []),
      length-append (numbered N (n + size a) b) (node N (parallel a b) (S.Join Parallel (n + size a - 1) (n + size a + size b - 1)) ∷ []),
      length-numbered N n a,
      length-numbered N (n + size a) b,
    )

-- a node with its shape
at_shape : (ns : List Node) (d v : ℕ) (x : Node) (s : Shape) → get_or ns v no_node ≡ x → x.shape ≡ s → tree_at ns (suc d) v ≡ shaped s (tree_at ns d)
at_shape ns d v x s e f = ap (λ y. shaped y.shape (tree_at ns d)) e ∙ ap (λ y. shaped y (tree_at ns d)) f

-- the parts of a join's nodes, with what stands before and after
regroup_b : (p a b z q : List Node) → p ++ ((a ++ (b ++ z)) ++ q) ≡ (p ++ a) ++ (b ++ (z ++ q))
regroup_b p a b z q = simp append_assoc

regroup_a : (p a b z q : List Node) → p ++ ((a ++ (b ++ z)) ++ q) ≡ p ++ (a ++ (b ++ (z ++ q)))
regroup_a p a b z q = simp append_assoc

regroup_z : (p a b q : List Node) (z : Node) → p ++ ((a ++ (b ++ z ∷ [])) ++ q) ≡ (p ++ (a ++ b)) ++ z ∷ q
regroup_z p a b q z = simp append_assoc

-- the two halves of a join, and its node
join_at : (N : Net) (j : Join) (a b : Tree) (z : Node) (n d : ℕ) (p q : List Node) → z.shape ≡ S.Join j (n + size a - 1) (n + size a + size b - 1) → length p ≡ n → size a + size b ≤ d → ((d : ℕ) (p q : List Node) → length p ≡ n → size a ≤ d → tree_at (p ++ (numbered N n a ++ q)) d (n + size a - 1) ≡ a) → ((d : ℕ) (p q : List Node) → length p ≡ n + size a → size b ≤ d → tree_at (p ++ (numbered N (n + size a) b ++ q)) d (n + size a + size b - 1) ≡ b) → tree_at (p ++ ((numbered N n a ++ (numbered N (n + size a) b ++ z ∷ [])) ++ q)) (suc d) (n + (size a + size b + 1) - 1) ≡ joined j a b
join_at N j a b z n d p q is long deep first second =
    let A = numbered N n a in
    let B = numbered N (n + size a) b in
    let ns = p ++ ((A ++ (B ++ z ∷ [])) ++ q) in
    let pa : length (p ++ A) ≡ n + size a = omega (arith, length-append p A, length-numbered N n a) in
    let pb : length (p ++ (A ++ B)) ≡ n + (size a + size b + 1) - 1 = omega (arith, length-append p (A ++ B), length-append A B, length-numbered N n a, length-numbered N (n + size a) b) in
    let here : get_or ns (n + (size a + size b + 1) - 1) no_node ≡ z = ap (λ l. get_or l (n + (size a + size b + 1) - 1) no_node) (regroup_z p A B q z) ∙ get_or_at (p ++ (A ++ B)) z q no_node _ pb in
    let one : tree_at ns d (n + size a - 1) ≡ a = ap (λ l. tree_at l d (n + size a - 1)) (regroup_a p A B (z ∷ []) q) ∙ first d p (B ++ (z ∷ [] ++ q)) long (omega arith) in
    let two : tree_at ns d (n + size a + size b - 1) ≡ b = ap (λ l. tree_at l d (n + size a + size b - 1)) (regroup_b p A B (z ∷ []) q) ∙ second d (p ++ A) (z ∷ [] ++ q) pa (omega arith) in
    at_shape ns d _ z _ here is ∙ (λ i. joined j (one i) (two i))

pub tree_at_numbered : (N : Net) (t : Tree) (n d : ℕ) (p q : List Node) → length p ≡ n → size t ≤ d → tree_at (p ++ (numbered N n t ++ q)) d (n + size t - 1) ≡ t
tree_at_numbered N t n zero p q e h = absurd (omega (arith, size_pos t))
tree_at_numbered N (leaf k) n (suc d) p q e h =
    let at : n + 1 - 1 ≡ n = omega arith in
    rw at (at_shape (p ++ (node N (leaf k) (S.Leaf k) ∷ q)) d n (node N (leaf k) (S.Leaf k)) (S.Leaf k) (get_or_at p (node N (leaf k) (S.Leaf k)) q no_node n e) refl)
tree_at_numbered N (series a b) n (suc d) p q e h =
    join_at N Series a b _ n d p q refl e (omega arith) (tree_at_numbered N a n) (tree_at_numbered N b (n + size a))
tree_at_numbered N (parallel a b) n (suc d) p q e h =
    join_at N Parallel a b _ n d p q refl e (omega arith) (tree_at_numbered N a n) (tree_at_numbered N b (n + size a))

pub tree_of_numbered : (N : Net) (t : Tree) → tree_of (numbered N 0 t) ≡ t
tree_of_numbered N t =
    let ns = numbered N 0 t in
    let long : length ns ≡ size t = length-numbered N 0 t in
    let at : length ns - 1 ≡ 0 + size t - 1 = omega arith in
    ap (λ v. tree_at ns (length ns) v) at ∙ ap (λ l. tree_at l (length ns) (0 + size t - 1)) (sym (append-nil ns)) ∙ tree_at_numbered N t 0 (length ns) [] [] refl (omega arith)
