-- A plant stays a plant where one record changes within its range, and lines stay where they run.
use Rattle.std.proofs.Common.{◌≡◌, ℕ, ◌<◌, List, length, get_or, set, sym, ap, ◌∙◌, subst, ⊎_elim, arith}
use Rattle.std.proofs.lemmas.List.{length-set, get_or-set_same, get_or-set_other, set_past}
use Rattle.std.proofs.lemmas.Bool.{cases_eq, cases_lt}
use Rattle.plant.specs.declared.records.Line.{Line}
use Rattle.plant.specs.declared.records.Station.{Station}
use Rattle.plant.specs.declared.tree.Node.{Node}
use Rattle.plant.specs.Nodes.{numbered, tree_of, Drawn, IsPlant}
use Rattle.plant.specs.Records.{StationInRange, LineInRange, no_station, no_line, line}
use Rattle.plant.specs.Trees.{Net, net_of, Draws}

-- a fact of each element stays where it holds of the new one
each_set : {A : Type 0} (P : A → Type 0) (d : A) (xs : List A) (k : ℕ) (y : A) → P y → ((i : ℕ) → i < length xs → P (get_or xs i d)) → (i : ℕ) → i < length (set xs k y) → P (get_or (set xs k y) i d)
each_set P d xs k y py all i h =
    let less : i < length xs = omega (arith, length-set xs k y) in
    ⊎_elim
    (λ e. let at : k < length xs = omega arith in subst (λ j. P (get_or (set xs k y) j d)) (sym e) (subst P (sym (get_or-set_same xs k y d at)) py))
    (λ ne. subst P (sym (get_or-set_other xs k i y d ne)) (all i less))
    (cases_eq i k)

-- what a field of each element is stays where the new element has the old one's
same_set : {A B : Type 0} (f : A → B) (d : A) (xs : List A) (k : ℕ) (y : A) → f y ≡ f (get_or xs k d) → (i : ℕ) → f (get_or (set xs k y) i d) ≡ f (get_or xs i d)
same_set f d xs k y e i =
    ⊎_elim
    (λ same.
    ⊎_elim
    (λ lt. ap (λ j. f (get_or (set xs k y) j d)) same ∙ ap f (get_or-set_same xs k y d lt) ∙ e ∙ ap (λ j. f (get_or xs j d)) (sym same))
    (λ ge. ap (λ l. f (get_or l i d)) (set_past xs k y ge))
    (cases_lt k (length xs)))
    (λ ne. ap f (get_or-set_other xs k i y d ne))
    (cases_eq i k)

pub plant_set_station : (ss : List Station) (ls : List Line) (ns : List Node) (k : ℕ) (s : Station) → StationInRange s → IsPlant ss ls ns → IsPlant (set ss k s) ls ns
plant_set_station ss ls ns k s fine p =
    record {
      stations = each_set StationInRange no_station ss k s fine p.stations;
      lines = p.lines;
      few_stations = omega (arith, length-set ss k s, p.few_stations);
      few_lines = p.few_lines;
      drawn = subst (λ n. Drawn n ls ns) (sym (length-set ss k s)) p.drawn;
    }

net_same : (ls : List Line) (k : ℕ) (l : Line) → l.from ≡ (line ls k).from → l.to ≡ (line ls k).to → net_of (set ls k l) ≡ net_of ls
net_same ls k l f t =
    λ i. record { from = λ j. same_set (λ (x : Line). x.from) no_line ls k l f j i; to = λ j. same_set (λ (x : Line). x.to) no_line ls k l t j i }

pub plant_set_line : (ss : List Station) (ls : List Line) (ns : List Node) (k : ℕ) (l : Line) → LineInRange l → l.from ≡ (line ls k).from → l.to ≡ (line ls k).to → IsPlant ss ls ns → IsPlant ss (set ls k l) ns
plant_set_line ss ls ns k l fine f t p =
    let same = sym (net_same ls k l f t) in
    let long = sym (length-set ls k l) in
    record {
      stations = p.stations;
      lines = each_set LineInRange no_line ls k l fine p.lines;
      few_stations = p.few_stations;
      few_lines = omega (arith, length-set ls k l, p.few_lines);
      drawn = record {
        ordered = subst (λ (N : Net). ns ≡ numbered N 0 (tree_of ns)) same p.drawn.ordered;
        draws = subst (λ m. Draws (net_of (set ls k l)) (length ss) m (tree_of ns)) long (subst (λ (N : Net). Draws N (length ss) (length ls) (tree_of ns)) same p.drawn.draws);
      };
    }
