use Rattle.std.proofs.Common.{◌≡◌, ℕ, ◌≤◌, List, length, sym, ap, ◌∙◌, subst, arith}
use Rattle.plant.specs.declared.records.Line.{Line}
use Rattle.plant.specs.Nodes.{Drawn, tree_of}
use Rattle.plant.specs.Tables.{listed}
use Rattle.plant.specs.Trees.{net_of}
use Rattle.plant.proofs.Listed.{listed_length}
use Rattle.drawing.specs.Verdict as Drawing
use Rattle.drawing.proofs.Numbering.{tree_of_numbered}
use Rattle.texts.specs.Verdict.{on_tree, accepted, verdict}
use Rattle.texts.proofs.Judging.{tables_read}
use Rattle.texts.proofs.read.read.Goals as goal

pub returns : goal.returns
returns c =
    let st = c.in_ok-stations.stations in
    let a = listed st in
    let li = c.in_ok-lines.lines in
    let b = listed li in
    let ns = listed c.in_ok-nodes.nodes in
    let s = c.in_ok-stations_text.stations_text in
    let l = c.in_ok-lines_text.lines_text in
    let t = c.in_ok-tree_text.tree_text in
    let tree = t.bytes.now in
    let fine = c.in_ok-nodes.ensures in
    let count : st.count ≡ length a = sym (listed_length st) in
    let same : c.as_slice.result.now ≡ b = c.as_slice.ensures in
    let read = tables_read s.bytes.now l.bytes.now tree a b st.count s.short l.short t.short count c.in_ok-stations.ensures.verdict c.in_ok-lines.ensures.verdict in
    let texts : verdict c.args.stations.now c.args.lines.now c.args.tree.now ≡ verdict s.bytes.now l.bytes.now tree = λ i. verdict (sym c.in_ok-stations_text.ensures i).now (sym c.in_ok-lines_text.ensures i).now (sym c.in_ok-tree_text.ensures i).now in
    let judged : Drawing.verdict (length a) b tree ≡ Drawing.accepted fine.tree = (λ i. Drawing.verdict (sym count i) (sym same i) tree) ∙ fine.judged in
    let back : fine.tree ≡ tree_of ns = sym (ap tree_of fine.nodes ∙ tree_of_numbered (net_of c.as_slice.result.now) fine.tree) in
    let few_stations : length a ≤ 64 = omega (arith, count, st.sound.1) in
    let few_lines : length b ≤ 128 = omega (arith, listed_length li, li.sound.1) in
    record {
      judged = texts ∙ read ∙ ap (on_tree a b) judged ∙ ap (accepted a b) back;
      plant =
          record {
            stations = c.in_ok-stations.ensures.range.0;
            lines = c.in_ok-lines.ensures.range.0;
            few_stations = few_stations;
            few_lines = few_lines;
            drawn = subst (λ (x : ℕ × List Line). Drawn x.0 x.1 ns) (λ i. (count i, same i)) fine.drawn;
          };
      few_nodes = fine.fits;
    }
