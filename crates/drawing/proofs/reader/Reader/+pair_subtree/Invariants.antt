use Rattle.std.proofs.Common.{◌+◌, ◌*◌}
use Rattle.drawing.proofs.reader.Reader.+pair_subtree.Given as goal

abbrev pub decreases-pair : goal.decreases-pair
decreases-pair l = 2 * l.deep + 1

abbrev pub decreases-subtree : goal.decreases-subtree
decreases-subtree l = 2 * l.deep
