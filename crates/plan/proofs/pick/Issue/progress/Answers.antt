use Rattle.std.proofs.Common.{rules}
use Rattle.plan.specs.Issues.{stations}
use Rattle.plan.proofs.Working.{adds_up}
use Rattle.plan.proofs.pick.Issue.progress.Goals as goal

pub returns-clause-adds : goal.returns-clause-adds
returns-clause-adds c =
    let i = c.args.self.now in
    record {
      ticked = search rules;
      all = adds_up (stations i) i.selection i.ticked c.without-left.result _ _ i.inside c.without-left.ensures (search rules) (search rules);
    }
