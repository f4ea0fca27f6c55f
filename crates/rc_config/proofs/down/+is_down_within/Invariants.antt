use Rattle.rc_config.proofs.down.+is_down_within.Given as goal

abbrev pub decreases-is_down_within : goal.decreases-is_down_within
decreases-is_down_within l = l.names
