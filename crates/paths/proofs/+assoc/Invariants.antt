use Rattle.paths.proofs.+assoc.Given as goal

abbrev pub decreases-assoc : goal.decreases-assoc
decreases-assoc l = l.height
