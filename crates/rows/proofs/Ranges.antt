-- The rows of an accepted table are in range.
use Rattle.std.proofs.Common.{◌≡◌, ℕ, ◌≤◌, List, length, IfOk, Ok, Err, Result}
use Rattle.std.proofs.ByRecursion.{All-get_or}
use Rattle.plant.specs.declared.records.Line.{Line}
use Rattle.plant.specs.declared.records.Station.{Station}
use Rattle.plant.specs.declared.refusal.Part.{Part}
use Rattle.plant.specs.declared.refusal.Refusal.{Refusal}
use Rattle.plant.specs.declared.table.Table.{Table}
use Rattle.plant.specs.Tables.{listed}
use Rattle.plant.specs.Records.{StationsInRange, LinesInRange, LinesBetween, no_station, no_line}
use Rattle.rows.specs.Lines.{lines}
use Rattle.rows.specs.Stations.{stations}
use Rattle.rows.specs.Verdict.{table, verdict, Agrees}
use Rattle.rows.specs.Written.{Fair, Writes, station_form, line_form}
use Rattle.rows.proofs.Accepting.{stations_accepted, lines_accepted}

-- what is written as lines joins stations that are there
pub lines_between : (n : ℕ) (s : List ℕ) (rows : List Line) → Writes (line_form n) s rows → LinesBetween n rows
lines_between n s rows w k h = (All-get_or (Fair (line_form n)) rows k no_line h w.lists.fair).1

stations_ranged : (s : List ℕ) (rows : List Station) → verdict stations s ≡ table rows → StationsInRange rows × (2 ≤ length rows)
stations_ranged s rows e =
    let w = stations_accepted.only_written s rows e in
    (λ i h. (All-get_or (Fair station_form) rows i no_station h w.lists.fair).0, w.enough)

lines_ranged : (n : ℕ) (s : List ℕ) (rows : List Line) → verdict (lines n) s ≡ table rows → LinesInRange rows × LinesBetween n rows × (1 ≤ length rows)
lines_ranged n s rows e =
    let w = (lines_accepted n).only_written s rows e in
    (λ k h. (All-get_or (Fair (line_form n)) rows k no_line h w.lists.fair).0, lines_between n s rows w, w.enough)

pub stations_made : {N : ℕ} (part : Part) (s : List ℕ) (r : Result (Table Station N) Refusal) → Agrees stations part s r → IfOk r (λ t. StationsInRange (listed t) × (2 ≤ length (listed t)))
stations_made part s (Ok t) a = stations_ranged s (listed t) a
stations_made part s (Err e) a = tt

pub lines_made : {N : ℕ} (n : ℕ) (part : Part) (s : List ℕ) (r : Result (Table Line N) Refusal) → Agrees (lines n) part s r → IfOk r (λ t. LinesInRange (listed t) × LinesBetween n (listed t) × (1 ≤ length (listed t)))
lines_made n part s (Ok t) a = lines_ranged n s (listed t) a
lines_made n part s (Err e) a = tt
