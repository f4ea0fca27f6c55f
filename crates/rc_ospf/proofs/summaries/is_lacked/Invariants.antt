use Rattle.std.proofs.Common.{◌≡◌, drop}
use Rattle.std.specs.List.{list_any}
use Rattle.rc_ospf.specs.Wanted.{lacks_inside}
use Rattle.rc_ospf.proofs.summaries.is_lacked.Given as goal

abbrev pub invariant-loop-member : goal.invariant-loop-member
invariant-loop-member l = list_any (lacks_inside l.inside) (drop l.member-index l.members) ≡ list_any (lacks_inside l.inside) l.members
