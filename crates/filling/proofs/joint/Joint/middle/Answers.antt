use Rattle.std.proofs.Common.{arith}
use Rattle.filling.proofs.Standing.{joint_at}
use Rattle.filling.proofs.joint.Joint.middle.Goals as goal

pub offset_bounds-tables-self : goal.offset_bounds-tables-self
offset_bounds-tables-self g c = let at = joint_at c.args.self.now in omega arith

pub bounds-tables-self : goal.bounds-tables-self
bounds-tables-self g c = let at = joint_at c.args.self.now in omega arith

pub returns-clause-within : goal.returns-clause-within
returns-clause-within g c = (joint_at c.args.self.now).middle_in
