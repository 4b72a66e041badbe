use Rattle.speed.proofs.+stretch.Given as goal

abbrev pub decreases-stretch : goal.decreases-stretch
decreases-stretch l = l.hops
