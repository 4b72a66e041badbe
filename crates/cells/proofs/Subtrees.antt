-- Each number below the size of a tree is a node: its shape, its halves and its ends. Assumes nothing.
use Rattle.std.proofs.Common.{◌≡◌, ℕ, ◌+◌, ◌-◌, ◌<◌, ◌≤◌, Bool, true, false, cond, ltb, List, [], ◌∷◌, ◌++◌, length, get_or, refl, ap, ◌∙◌, subst, ⊎_elim, arith, length-append}
use Rattle.std.proofs.lemmas.List.{get_or_append_left, get_or-append_right}
use Rattle.std.proofs.lemmas.Bool.{cases_lt, lt-ltb, le-ltb, cond-true, cond-false, or_left, or_right}
use Rattle.plant.specs.declared.tree.Join.{Join}
use Rattle.plant.specs.declared.tree.Join.TheVariants.{Series, Parallel}
use Rattle.plant.specs.declared.tree.Shape.TheVariants as S
use Rattle.plant.specs.declared.tree.Node.{Node}
use Rattle.plant.specs.Nodes.{size, node, numbered, no_node, joined}
use Rattle.plant.specs.Trees.{Net, Tree, leaf, series, parallel, uses, Builds}
use Rattle.cells.specs.Subtrees.{sub}
use Rattle.cells.specs.Inside.{records, line_of}
use Rattle.cells.specs.Traces.{first_of, second_of}

-- what stands at the number v of the tree, where n nodes are complete before it
pub data Place (N : Net) (n : ℕ) (t : Tree) (v : ℕ) : Type 0 where
  at_leaf : (k : ℕ) → sub t v ≡ leaf k → get_or (numbered N n t) v no_node ≡ node N (leaf k) (S.Leaf k) → Place N n t v
  at_join : (j : Join) (a b : Tree) → sub t v ≡ joined j a b → size a + size b ≤ v → sub t (first_of v b) ≡ a → sub t (second_of v) ≡ b
      → get_or (numbered N n t) v no_node ≡ node N (joined j a b) (S.Join j (n + first_of v b) (n + second_of v)) → Place N n t v

pub size_pos : (t : Tree) → 0 < size t
size_pos (leaf k) = omega arith
size_pos (series a b) = omega arith
size_pos (parallel a b) = omega arith

-- ---- the two joins alike
numbered_join : (N : Net) (n : ℕ) (j : Join) (a b : Tree)
    → numbered N n (joined j a b) ≡ numbered N n a ++ (numbered N (n + size a) b ++ node N (joined j a b) (S.Join j (n + size a - 1) (n + size a + size b - 1)) ∷ [])
numbered_join N n Series a b = refl
numbered_join N n Parallel a b = refl

sub_join : (j : Join) (a b : Tree) (v : ℕ) → sub (joined j a b) v ≡ cond (ltb v (size a)) (sub a v) (cond (ltb v (size a + size b)) (sub b (v - size a)) (joined j a b))
sub_join Series a b v = refl
sub_join Parallel a b v = refl

pub numbered_length : (N : Net) (n : ℕ) (t : Tree) → length (numbered N n t) ≡ size t
numbered_length N n (leaf k) = refl
numbered_length N n (series a b) = simp length-append (omega (arith, numbered_length N n a, numbered_length N (n + size a) b))
numbered_length N n (parallel a b) = simp length-append (omega (arith, numbered_length N n a, numbered_length N (n + size a) b))

-- ---- where the number lies
sub_first : (j : Join) (a b : Tree) (v : ℕ) → v < size a → sub (joined j a b) v ≡ sub a v
sub_first j a b v lt = sub_join j a b v ∙ cond-true _ _ _ (lt-ltb v (size a) lt)

sub_second : (j : Join) (a b : Tree) (u : ℕ) → u < size b → sub (joined j a b) (size a + u) ≡ sub b u
sub_second j a b u lt =
    let e : size a + u - size a ≡ u = omega arith in
    sub_join j a b (size a + u) ∙ cond-false _ _ _ (le-ltb (size a + u) (size a) (omega arith)) ∙ cond-true _ _ _ (lt-ltb (size a + u) (size a + size b) (omega arith)) ∙ ap (sub b) e

sub_root : (j : Join) (a b : Tree) → sub (joined j a b) (size a + size b) ≡ joined j a b
sub_root j a b = sub_join j a b (size a + size b) ∙ cond-false _ _ _ (le-ltb (size a + size b) (size a) (omega arith)) ∙ cond-false _ _ _ (le-ltb (size a + size b) (size a + size b) (omega arith))

pub sub_last : (t : Tree) → sub t (size t - 1) ≡ t
sub_last (leaf k) = refl
sub_last (series a b) = let e : size a + size b + 1 - 1 ≡ size a + size b = omega arith in ap (sub (series a b)) e ∙ sub_root Series a b
sub_last (parallel a b) = let e : size a + size b + 1 - 1 ≡ size a + size b = omega arith in ap (sub (parallel a b)) e ∙ sub_root Parallel a b

module _ (N : Net) where
  at_first : (n : ℕ) (j : Join) (a b : Tree) (v : ℕ) → v < size a → get_or (numbered N n (joined j a b)) v no_node ≡ get_or (numbered N n a) v no_node
  at_first n j a b v lt =
      let len : v < length (numbered N n a) = omega (arith, numbered_length N n a) in
      ap (λ (xs : List Node). get_or xs v no_node) (numbered_join N n j a b) ∙ get_or_append_left (numbered N n a) _ no_node v len

  at_second : (n : ℕ) (j : Join) (a b : Tree) (u : ℕ) → u < size b → get_or (numbered N n (joined j a b)) (size a + u) no_node ≡ get_or (numbered N (n + size a) b) u no_node
  at_second n j a b u lt =
      let len : u < length (numbered N (n + size a) b) = omega (arith, numbered_length N (n + size a) b) in
      let e : size a + u - size a ≡ u = omega arith in
      let rest = numbered N (n + size a) b ++ node N (joined j a b) (S.Join j (n + size a - 1) (n + size a + size b - 1)) ∷ [] in
      ap (λ (xs : List Node). get_or xs (size a + u) no_node) (numbered_join N n j a b) ∙ get_or-append_right (numbered N n a) rest (size a) (size a + u) no_node (numbered_length N n a) (omega arith)
      ∙ ap (λ (i : ℕ). get_or rest i no_node) e ∙ get_or_append_left (numbered N (n + size a) b) _ no_node u len

  at_root : (n : ℕ) (j : Join) (a b : Tree) → get_or (numbered N n (joined j a b)) (size a + size b) no_node ≡ node N (joined j a b) (S.Join j (n + size a - 1) (n + size a + size b - 1))
  at_root n j a b =
      let x = node N (joined j a b) (S.Join j (n + size a - 1) (n + size a + size b - 1)) in
      let rest = numbered N (n + size a) b ++ x ∷ [] in
      let e : size a + size b - size a ≡ size b = omega arith in
      let z : size b - size b ≡ 0 = omega arith in
      ap (λ (xs : List Node). get_or xs (size a + size b) no_node) (numbered_join N n j a b) ∙ get_or-append_right (numbered N n a) rest (size a) (size a + size b) no_node (numbered_length N n a) (omega arith)
      ∙ ap (λ (i : ℕ). get_or rest i no_node) e ∙ get_or-append_right (numbered N (n + size a) b) (x ∷ []) (size b) (size b) no_node (numbered_length N (n + size a) b) (omega arith)
      ∙ ap (λ (i : ℕ). get_or (x ∷ []) i no_node) z

  in_first : (n : ℕ) (j : Join) (a b : Tree) (v : ℕ) → v < size a → Place N n a v → Place N n (joined j a b) v
  in_first n j a b v lt (at_leaf k s e) = at_leaf k (sub_first j a b v lt ∙ s) (at_first n j a b v lt ∙ e)
  in_first n j a b v lt (at_join i c d s le sc sd e) =
      at_join i c d (sub_first j a b v lt ∙ s) le (sub_first j a b (first_of v d) (omega arith) ∙ sc) (sub_first j a b (second_of v) (omega arith) ∙ sd) (at_first n j a b v lt ∙ e)

  in_second : (n : ℕ) (j : Join) (a b : Tree) (u : ℕ) → u < size b → Place N (n + size a) b u → Place N n (joined j a b) (size a + u)
  in_second n j a b u lt (at_leaf k s e) = at_leaf k (sub_second j a b u lt ∙ s) (at_second n j a b u lt ∙ e)
  in_second n j a b u lt (at_join i c d s le sc sd e) =
      let pc = size_pos c in
      let x : size a + u - 1 - size d ≡ size a + (u - 1 - size d) = omega arith in
      let y : size a + u - 1 ≡ size a + (u - 1) = omega arith in
      let p : n + size a + (u - 1 - size d) ≡ n + (size a + u - 1 - size d) = omega arith in
      let q : n + size a + (u - 1) ≡ n + (size a + u - 1) = omega arith in
      at_join i c d (sub_second j a b u lt ∙ s) (omega arith)
      (ap (sub (joined j a b)) x ∙ sub_second j a b (u - 1 - size d) (omega arith) ∙ sc)
      (ap (sub (joined j a b)) y ∙ sub_second j a b (u - 1) (omega arith) ∙ sd)
      (at_second n j a b u lt ∙ e ∙ ap (λ (w : ℕ). node N (joined i c d) (S.Join i w (n + size a + (u - 1)))) p ∙ ap (λ (w : ℕ). node N (joined i c d) (S.Join i (n + (size a + u - 1 - size d)) w)) q)

  in_root : (n : ℕ) (j : Join) (a b : Tree) → Place N n (joined j a b) (size a + size b)
  in_root n j a b =
      let pa = size_pos a in
      let pb = size_pos b in
      let x : size a + size b - 1 - size b ≡ size a - 1 = omega arith in
      let y : size a + size b - 1 ≡ size a + (size b - 1) = omega arith in
      let p : n + size a - 1 ≡ n + (size a + size b - 1 - size b) = omega arith in
      let q : n + size a + size b - 1 ≡ n + (size a + size b - 1) = omega arith in
      at_join j a b (sub_root j a b) (omega arith)
      (ap (sub (joined j a b)) x ∙ sub_first j a b (size a - 1) (omega arith) ∙ sub_last a)
      (ap (sub (joined j a b)) y ∙ sub_second j a b (size b - 1) (omega arith) ∙ sub_last b)
      (at_root n j a b ∙ ap (λ (w : ℕ). node N (joined j a b) (S.Join j w (n + size a + size b - 1))) p ∙ ap (λ (w : ℕ). node N (joined j a b) (S.Join j (n + (size a + size b - 1 - size b)) w)) q)

  place_join : (n : ℕ) (j : Join) (a b : Tree) (v : ℕ) → v < size a + size b + 1 → ((u : ℕ) → u < size a → Place N n a u) → ((u : ℕ) → u < size b → Place N (n + size a) b u) → Place N n (joined j a b) v
  place_join n j a b v lt pa pb = ⊎_elim
      (λ in-a. in_first n j a b v in-a (pa v in-a))
      (λ ge. ⊎_elim
      (λ in_b. let u : size a + (v - size a) ≡ v = omega arith in subst (Place N n (joined j a b)) u (in_second n j a b (v - size a) (omega arith) (pb (v - size a) (omega arith))))
      (λ ge'. let u : size a + size b ≡ v = omega arith in subst (Place N n (joined j a b)) u (in_root n j a b))
      (cases_lt v (size a + size b)))
      (cases_lt v (size a))

  pub place : (n : ℕ) (t : Tree) (v : ℕ) → v < size t → Place N n t v
  place n (leaf k) v lt = let e : 0 ≡ v = omega arith in subst (Place N n (leaf k)) e (at_leaf k refl refl)
  place n (series a b) v lt = place_join n Series a b v lt (place n a) (place (n + size a) b)
  place n (parallel a b) v lt = place_join n Parallel a b v lt (place n a) (place (n + size a) b)

-- ---- what holds of every subtree
either : (P : Tree → Type 0) (c : Bool) (x y : Tree) → P x → P y → P (cond c x y)
either P true x y p q = p
either P false x y p q = q

pub sub_all : (P : Tree → Type 0) → ((a b : Tree) → P (series a b) → P a × P b) → ((a b : Tree) → P (parallel a b) → P a × P b) → (t : Tree) (v : ℕ) → P t → P (sub t v)
sub_all P f g (leaf k) v h = h
sub_all P f g (series a b) v h =
    let x = sub_all P f g a v (f a b h).0 in
    let y = sub_all P f g b (v - size a) (f a b h).1 in
    either P (ltb v (size a)) _ _ x (either P (ltb v (size a + size b)) _ _ y h)
sub_all P f g (parallel a b) v h =
    let x = sub_all P f g a v (g a b h).0 in
    let y = sub_all P f g b (v - size a) (g a b h).1 in
    either P (ltb v (size a)) _ _ x (either P (ltb v (size a + size b)) _ _ y h)

pub sub_builds : (N : Net) (t : Tree) (v : ℕ) → Builds N t → Builds N (sub t v)
sub_builds N = sub_all (Builds N) (λ a b w. (w.0, w.1)) (λ a b w. (w.0, w.1))

pub sub_records : (w : ℕ) (t : Tree) (v : ℕ) → records t ≤ w → records (sub t v) ≤ w
sub_records w = sub_all (λ t. records t ≤ w) (λ a b h. (omega arith, omega arith)) (λ a b h. (omega arith, omega arith))

pub sub_once : (t : Tree) (v : ℕ) → ((k : ℕ) → uses t k ≤ 1) → (k : ℕ) → uses (sub t v) k ≤ 1
sub_once = sub_all (λ t. (k : ℕ) → uses t k ≤ 1) (λ a b h. ((λ k. omega (arith, h k)), (λ k. omega (arith, h k)))) (λ a b h. ((λ k. omega (arith, h k)), (λ k. omega (arith, h k))))

pub sub_lines : (m : ℕ) (t : Tree) (v : ℕ) → ((k : ℕ) → line_of t k ≡ true → k < m) → (k : ℕ) → line_of (sub t v) k ≡ true → k < m
sub_lines m = sub_all (λ t. (k : ℕ) → line_of t k ≡ true → k < m)
    (λ a b h. ((λ k e. h k (or_left _ _ e)), (λ k e. h k (or_right (line_of a k) _ e))))
    (λ a b h. ((λ k e. h k (or_left _ _ e)), (λ k e. h k (or_right (line_of a k) _ e))))
