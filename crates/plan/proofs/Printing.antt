-- The rows of a sheet, one after another, and how long a sheet may be.
use Rattle.std.proofs.Common.{◌≡◌, ℕ, zero, suc, ◌+◌, ◌*◌, ◌^◌, ◌<◌, ◌≤◌, Bool, true, false, cond, codes, List, [], ◌++◌, length, ℤ, pos, negsuc, sym, ap, ◌∙◌, subst, append-nil, arith}
use Rattle.std.proofs.lemmas.List.{length-append}
use Rattle.std.specs.Prelude.{unsigned_abs}
use Rattle.std.specs.Int.Signed.{mag}
use Rattle.plant.specs.declared.records.Station.{Station}
use Rattle.plant.specs.declared.refusal.Refusal.{Refusal}
use Rattle.plant.specs.Refusals.{number, part_number}
use Rattle.plant.specs.Records.{station, StationInRange, StationsInRange}
use Rattle.plant.specs.Selections.{Selection}
use Rattle.plant.proofs.Sums.{upto_more}
use Rattle.tables.specs.declared.write.Writer.{Writer}
use Rattle.tables.specs.Laid.{Adds}
use Rattle.tables.specs.Numerals.{spelled, spelledℤ}
use Rattle.tables.proofs.Laying.{then, spelled_short, spelledℤ_short}
use Rattle.plan.specs.Sheets.{comma, line_end, figures, row, rows, sheet, refusal_line}

rows_more : (ss : List Station) (S : Selection) (k : ℕ) → rows ss S (k + 1) ≡ rows ss S k ++ cond (S k) (row k (station ss k)) []
rows_more ss S k = upto_more [] ◌++◌ (λ j. cond (S j) (row j (station ss j)) []) k

rows_with : (ss : List Station) (S : Selection) (k : ℕ) → S k ≡ true → rows ss S (k + 1) ≡ rows ss S k ++ row k (station ss k)
rows_with ss S k is = rows_more ss S k ∙ ap (λ t. rows ss S k ++ cond t (row k (station ss k)) []) is

rows_without : (ss : List Station) (S : Selection) (k : ℕ) → S k ≡ false → rows ss S (k + 1) ≡ rows ss S k
rows_without ss S k is = rows_more ss S k ∙ ap (λ t. rows ss S k ++ cond t (row k (station ss k)) []) is ∙ append-nil (rows ss S k)

pub rows_open : (ss : List Station) (S : Selection) (k : ℕ) (w v u : Writer) → S k ≡ true → Adds w (rows ss S k) v → Adds v (row k (station ss k)) u → Adds w (rows ss S (k + 1)) u
rows_open ss S k w v u is a b =
    subst (λ (bs : List ℕ). Adds w bs u) (sym (rows_with ss S k is)) (then w v u (rows ss S k) (row k (station ss k)) a b)

pub rows_shut : (ss : List Station) (S : Selection) (k : ℕ) (w v : Writer) → S k ≡ false → Adds w (rows ss S k) v → Adds w (rows ss S (k + 1)) v
rows_shut ss S k w v is a = subst (λ (bs : List ℕ). Adds w bs v) (sym (rows_without ss S k is)) a

gain_small : (z : ℤ) → unsigned_abs z ≤ 1000000000 → mag z < 2 ^ 63
gain_small (pos n) h = omega arith
gain_small (negsuc n) h = omega arith

figures_short : (h : ℕ) (g : ℤ) → h < 2 ^ 64 → mag g < 2 ^ 63 → length (figures h g) ≤ 44
figures_short h g p q =
    omega (arith, spelled_short h p, spelledℤ_short g q, length-append (spelled h) (comma ++ (spelledℤ g ++ line_end)), length-append (spelledℤ g) line_end)

row_short : (k : ℕ) (s : Station) → k < 2 ^ 64 → StationInRange s → length (row k s) ≤ 65
row_short k s p r =
    omega (arith, spelled_short k p, figures_short s.hours s.gain (omega (arith, r.0)) (gain_small s.gain r.1), length-append (spelled k) (comma ++ figures s.hours s.gain))

if_open_short : (is_open : Bool) (bs : List ℕ) → length bs ≤ 65 → length (cond is_open bs []) ≤ 65
if_open_short true bs h = h
if_open_short false bs h = omega arith

rows_short : (ss : List Station) (S : Selection) → StationsInRange ss → (n : ℕ) → n ≤ length ss → n < 2 ^ 64 → length (rows ss S n) ≤ 65 * n
rows_short ss S r zero h p = omega arith
rows_short ss S r (suc n) h p =
    let this = row n (station ss n) in
    let before = rows_short ss S r n (omega arith) (omega arith) in
    let more = if_open_short (S n) this (row_short n (station ss n) (omega arith) (r n (omega arith))) in
    omega (arith, before, more, length-append (rows ss S n) (cond (S n) this []))

-- a plant's sheet is short
pub sheet_short : (ss : List Station) (S : Selection) (h : ℕ) (g : ℤ) → StationsInRange ss → length ss ≤ 64 → h < 2 ^ 64 → mag g < 2 ^ 63 → length (sheet ss S h g) < 2 ^ 32
sheet_short ss S h g r few p q =
    omega (arith, rows_short ss S r (length ss) (omega arith) (omega arith), figures_short h g p q, length-append (rows ss S (length ss)) (codes "total" ++ (comma ++ figures h g)))

pub refusal_short : (e : Refusal) → number e.reason < 2 ^ 64 → part_number e.part < 2 ^ 64 → e.place < 2 ^ 64 → length (refusal_line e) < 2 ^ 32
refusal_short e r p q =
    let place = spelled e.place ++ line_end in
    let part = spelled (part_number e.part) ++ (comma ++ place) in
    omega (
      arith,
      spelled_short (number e.reason) r,
      spelled_short (part_number e.part) p,
      spelled_short e.place q,
      length-append (spelled (number e.reason)) (comma ++ part),
      length-append (spelled (part_number e.part)) (comma ++ place),
      length-append (spelled e.place) line_end,
    )
