use Rattle.std.proofs.Common.{◌≡◌, drop}
use Rattle.std.specs.List.{list_any}
use Rattle.rc_ospf.specs.Ends.{is_end}
use Rattle.rc_ospf.proofs.ends.has_end.Given as goal

abbrev pub invariant-loop-end : goal.invariant-loop-end
invariant-loop-end l = list_any (is_end l.offer) (drop l.end-index l.ends) ≡ list_any (is_end l.offer) l.ends
