use Rattle.std.proofs.Common.{◌≡◌, not, filter, take}
use Rattle.rc_config.specs.declared.ospf.Redistribution.{Redistribution}
use Rattle.rc_config.specs.Ospf.{is_same_source}
use Rattle.rc_commands.proofs.ospf.with_redistribution.Given as goal

-- those so far that are of another source
abbrev pub invariant-loop-other : goal.invariant-loop-other
invariant-loop-other l = l.made ≡ filter (λ (other : Redistribution). not (is_same_source other.source l.line.source)) (take l.other-index l.known)
