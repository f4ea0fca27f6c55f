use Rattle.rc_sets.proofs.interval.+interval.Given as goal

abbrev pub decreases-interval : goal.decreases-interval
decreases-interval g l = l.count
