-- What a table lists, and what it lists once a row is written.
use Rattle.std.proofs.Common.{◌≡◌, ℕ, ◌<◌, length, get_or, take, set, sym, ap, ◌∙◌, arith}
use Rattle.std.proofs.Math.Seq.{take-set-lt}
use Rattle.std.proofs.lemmas.List.{length-take-le, get_or-take}
use Rattle.plant.specs.declared.table.Table.{Table}
use Rattle.plant.specs.Tables.{listed}

-- as many rows as it counts
pub listed_length : {A : Type 0} {N : ℕ} (t : Table A N) → length (listed t) ≡ t.count
listed_length t = length-take-le t.count t.rows (omega (arith, t.sound.0, t.sound.1))

pub row_listed : {A : Type 0} {N : ℕ} (t : Table A N) (k : ℕ) (d : A) → k < t.count → get_or t.rows k d ≡ get_or (listed t) k d
row_listed t k d h = sym (get_or-take t.count t.rows k d h)

pub row_written : {A : Type 0} {N : ℕ} (t : Table A N) (k : ℕ) (a b : A) → k < t.count → a ≡ b → take t.count (set t.rows k a) ≡ set (listed t) k b
row_written t k a b h e = take-set-lt t.count t.rows k a h ∙ ap (set (listed t) k) e
