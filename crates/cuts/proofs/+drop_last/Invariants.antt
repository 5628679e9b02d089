use Rattle.cuts.proofs.+drop_last.Given as goal

abbrev pub decreases-drop_last : goal.decreases-drop_last
decreases-drop_last l = l.height
