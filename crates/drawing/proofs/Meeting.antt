-- Halves meet where their trees do. Assumes nothing.
use Rattle.std.proofs.Common.{◌≡◌, ℕ, ◌+◌, ◌-◌, ◌<◌, Bool, true, false, not, ◌&&◌, ◌||◌, eqb, length, get_or, Decides, sym, refl, ap, ◌∙◌, inl, inr, ⊎_elim, arith}
use Rattle.std.proofs.lemmas.Bool.{eqb-true, eq-eqb, and_parts, and_from, or_cases, or_left, or_right}
use Rattle.std.proofs.lemmas.Bool.Decides.{Decides-below_and}
use Rattle.plant.specs.declared.tree.Join.{Join}
use Rattle.plant.specs.declared.tree.Join.TheVariants.{Series, Parallel}
use Rattle.plant.specs.Trees.{Net, Tree, series, parallel, left, right, inner, station_of}
use Rattle.plant.specs.Nodes.{size, joined}
use Rattle.drawing.specs.Grammar.{below, share_only, meet}
use Rattle.drawing.specs.Halves.{ShareOnly, Meet, marks, half}
use Rattle.drawing.specs.Sketches.{joint}
use Rattle.drawing.proofs.Bytes.{by_bool}
use Rattle.drawing.proofs.Marking.{length-marks, get_or-marks, marks_same}

below_decides : (n : ℕ) (f : ℕ → Bool) → Decides (below n f) ((i : ℕ) → i < n → f i ≡ true)
unfolding below
below_decides n f = Decides-below_and f (λ i. f i ≡ true) (λ m. below m f) (λ i. (λ e. e, λ e. e)) refl (λ m. refl) n

pub below_all : (n : ℕ) (f : ℕ → Bool) → ((i : ℕ) → i < n → f i ≡ true) → below n f ≡ true
below_all n f h = (below_decides n f).1 h

pub below_at : (n : ℕ) (f : ℕ → Bool) → below n f ≡ true → (i : ℕ) → i < n → f i ≡ true
below_at n f e = (below_decides n f).0 e

pub imply : (x y z : Bool) → (x ≡ true → y ≡ true → z ≡ true) → (not (x && y) || z) ≡ true
imply false y z h = refl
imply true false z h = refl
imply true true z h = h refl refl

pub implied : (x y z : Bool) → (not (x && y) || z) ≡ true → x ≡ true → y ≡ true → z ≡ true
implied x y z h p q = rw (p, q) at h

share_true : (N : Net) (a b : Tree) (x y : ℕ) → ShareOnly (marks (station_of N a)) (marks (station_of N b)) x y → share_only N a b x y ≡ true
share_true N a b x y s =
    below_all 64 _ (λ i lt. imply (station_of N a i) (station_of N b i) (eqb i x || eqb i y) (λ p q.
    let near : i < length (marks (station_of N a)) = omega (arith, length-marks (station_of N a)) in
    ⊎_elim (λ e. or_left _ _ (eq-eqb i x e)) (λ e. or_right (eqb i x) _ (eq-eqb i y e)) (s i near (get_or-marks (station_of N a) i lt ∙ p) (get_or-marks (station_of N b) i lt ∙ q))))

share_from : (N : Net) (a b : Tree) (x y : ℕ) → share_only N a b x y ≡ true → ShareOnly (marks (station_of N a)) (marks (station_of N b)) x y
share_from N a b x y e i near p q =
    let lt : i < 64 = omega (arith, length-marks (station_of N a)) in
    let t = implied (station_of N a i) (station_of N b i) (eqb i x || eqb i y) (below_at 64 _ e i lt) (sym (get_or-marks (station_of N a) i lt) ∙ p) (sym (get_or-marks (station_of N b) i lt) ∙ q) in
    ⊎_elim (λ u. inl (eqb-true i x u)) (λ u. inr (eqb-true i y u)) (or_cases (eqb i x) (eqb i y) t)

pub meet_true : (N : Net) (m n : ℕ) (j : Join) (a b : Tree) → Meet j (half N m a) (half N n b) → meet N j a b ≡ true
meet_true N m n Series a b w = and_from _ _ (eq-eqb _ _ w.0) (share_true N a b _ _ w.1)
meet_true N m n Parallel a b w = and_from _ _ (eq-eqb _ _ w.0) (and_from _ _ (eq-eqb _ _ w.1) (share_true N a b _ _ w.2))

pub meet_from : (N : Net) (m n : ℕ) (j : Join) (a b : Tree) → meet N j a b ≡ true → Meet j (half N m a) (half N n b)
meet_from N m n Series a b e =
    let p = and_parts (eqb (right N a) (left N b)) _ e in
    (eqb-true _ _ p.0, share_from N a b _ _ p.1)
meet_from N m n Parallel a b e =
    let p = and_parts (eqb (left N a) (left N b)) _ e in
    let q = and_parts (eqb (right N a) (right N b)) _ p.1 in
    (eqb-true _ _ p.0, eqb-true _ _ q.0, share_from N a b _ _ q.1)

pub meet_false : (N : Net) (m n : ℕ) (j : Join) (a b : Tree) → (Meet j (half N m a) (half N n b) → ⊥) → meet N j a b ≡ false
meet_false N m n j a b h = by_bool (meet N j a b) (λ e. absurd (h (meet_from N m n j a b e))) (λ e. e)

-- ---- the stations of a join are those of its halves

series_bools : (p q l r m n : Bool) → m ≡ n → ((p || l || m) || (q || n || r)) ≡ (p || q || m || l || r)
series_bools true q l r m n e = refl
series_bools false true true r m n e = refl
series_bools false true false r true n e = refl
series_bools false true false r false n e = refl
series_bools false false true r true n e = refl
series_bools false false true r false n e = refl
series_bools false false false r true n e = refl
series_bools false false false r false true e = let z : ◌≡◌ {A = ℕ} 0 1 = cc in absurd (omega arith)
series_bools false false false r false false e = refl

parallel_bools : (p q l r : Bool) → ((p || l || r) || (q || l || r)) ≡ (p || q || l || r)
parallel_bools true q l r = refl
parallel_bools false true true r = refl
parallel_bools false true false true = refl
parallel_bools false true false false = refl
parallel_bools false false true r = refl
parallel_bools false false false true = refl
parallel_bools false false false false = refl

pub series_stations : (N : Net) (a b : Tree) (i : ℕ) → right N a ≡ left N b → (station_of N a i || station_of N b i) ≡ station_of N (series a b) i
series_stations N a b i e = series_bools (inner N a i) (inner N b i) (eqb (left N a) i) (eqb (right N b) i) (eqb (right N a) i) (eqb (left N b) i) (ap (λ x. eqb x i) e)

pub parallel_stations : (N : Net) (a b : Tree) (i : ℕ) → left N a ≡ left N b → right N a ≡ right N b → (station_of N a i || station_of N b i) ≡ station_of N (parallel a b) i
parallel_stations N a b i e f = rw (sym e, sym f) (parallel_bools (inner N a i) (inner N b i) (eqb (left N a) i) (eqb (right N a) i))

both_marks : (f g h : ℕ → Bool) → ((i : ℕ) → (f i || g i) ≡ h i) → marks (λ i. get_or (marks f) i false || get_or (marks g) i false) ≡ marks h
both_marks f g h all = marks_same _ h (λ i lt. (λ k. get_or-marks f i lt k || get_or-marks g i lt k) ∙ all i)

-- the half of a join
pub joint_half : (N : Net) (n m k : ℕ) (j : Join) (a b : Tree) → Meet j (half N n a) (half N m b) → k ≡ n + size a + size b → joint k (half N n a) (half N m b) ≡ half N n (joined j a b)
joint_half N n m k Series a b w e =
    let at : k ≡ n + size (series a b) - 1 = omega arith in
    let on = both_marks (station_of N a) (station_of N b) (station_of N (series a b)) (λ i. series_stations N a b i w.0) in
    λ i. record { node = at i; left = left N a; right = right N b; stations = on i }
joint_half N n m k Parallel a b w e =
    let at : k ≡ n + size (parallel a b) - 1 = omega arith in
    let on = both_marks (station_of N a) (station_of N b) (station_of N (parallel a b)) (λ i. parallel_stations N a b i w.0 w.1) in
    λ i. record { node = at i; left = left N a; right = sym w.1 i; stations = on i }

pub joined_ends : (N : Net) (n m : ℕ) (j : Join) (a b : Tree) → Meet j (half N n a) (half N m b) → (left N a ≡ left N (joined j a b)) × (right N b ≡ right N (joined j a b))
joined_ends N n m Series a b w = (refl, refl)
joined_ends N n m Parallel a b w = (refl, sym w.1)

pub joined_size : (j : Join) (a b : Tree) → size (joined j a b) ≡ size a + size b + 1
joined_size Series a b = refl
joined_size Parallel a b = refl
