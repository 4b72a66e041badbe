use Rattle.std.proofs.Common.{sym, ◌∙◌}
use Rattle.std.proofs.lemmas.Bool.{false≢true}
use Rattle.plan.proofs.Working.{none_in}
use Rattle.plan.proofs.pick.Pick.issue.Goals as goal

pub invariant_of-result-clause-inside : goal.invariant_of-result-clause-inside
invariant_of-result-clause-inside c = λ k e. absurd (false≢true (sym (none_in c.none.result c.none.ensures k) ∙ e))
