-- The verdict, step by step.
use Rattle.std.proofs.Common.{◌≡◌, ℕ, ◌≤◌, cond, ltb, List, length, sym, ap, ◌∙◌}
use Rattle.std.proofs.lemmas.Bool.{le-ltb}
use Rattle.plant.specs.declared.records.Line.{Line}
use Rattle.plant.specs.declared.records.Station.{Station}
use Rattle.rows.specs.Lines.{lines}
use Rattle.rows.specs.Stations.{stations}
use Rattle.rows.specs.Verdict as Rows
use Rattle.drawing.specs.Verdict as Drawing
use Rattle.texts.specs.Verdict.{Verdict, on_tree, on_lines, on_stations, verdict}

short : (text : List ℕ) (v w : Verdict) → length text ≤ 65535 → ◌≡◌ {A = Verdict} (cond (ltb 65535 (length text)) w v) v
short text v w h = ap (λ b. cond b w v) (le-ltb 65535 (length text) h)

-- texts of which none is too long
pub read_on : (ss ls tree : List ℕ) → length ss ≤ 65535 → length ls ≤ 65535 → length tree ≤ 65535 → verdict ss ls tree ≡ on_stations (Rows.verdict stations ss) ls tree
read_on ss ls tree a b c = short ss _ _ a ∙ short ls _ _ b ∙ short tree _ _ c

-- both tables are read
pub tables_read : (ss ls tree : List ℕ) (a : List Station) (b : List Line) (n : ℕ) → length ss ≤ 65535 → length ls ≤ 65535 → length tree ≤ 65535 → n ≡ length a
    → Rows.verdict stations ss ≡ Rows.table a → Rows.verdict (lines n) ls ≡ Rows.table b
    → verdict ss ls tree ≡ on_tree a b (Drawing.verdict (length a) b tree)
tables_read ss ls tree a b n p q r count x y =
    read_on ss ls tree p q r ∙ ap (λ v. on_stations v ls tree) x
    ∙ ap (λ v. on_lines a v tree) (ap (λ n. Rows.verdict (lines n) ls) (sym count) ∙ y)
