use Rattle.rc_config.proofs.if_type.+main_within.Given as goal

abbrev pub decreases-main_within : goal.decreases-main_within
decreases-main_within l = l.parents
