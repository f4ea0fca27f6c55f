use Rattle.std.proofs.Common.{◌≡◌, drop}
use Rattle.std.specs.List.{list_any}
use Rattle.rc_ospf.specs.Members.{is_border_at}
use Rattle.rc_ospf.proofs.summaries.has_border.Given as goal

abbrev pub invariant-loop-member : goal.invariant-loop-member
invariant-loop-member l = list_any (is_border_at l.stubs) (drop l.member-index l.members) ≡ list_any (is_border_at l.stubs) l.members
