use Rattle.std.proofs.Common.{take}
use Rattle.rc_ospf.specs.Members.{AreMembersOver}
use Rattle.rc_ospf.proofs.member.members.Given as goal

abbrev pub invariant-loop-index : goal.invariant-loop-index
invariant-loop-index l = AreMembersOver l.walks.table 0 (take l.index l.areas) l.members
