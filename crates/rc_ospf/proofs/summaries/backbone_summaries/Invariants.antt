use Rattle.std.proofs.Common.{◌≡◌, ◌++◌, drop, map}
use Rattle.rc_ospf.specs.Areas.{backbone_summaries}
use Rattle.rc_ospf.specs.Members.{known}
use Rattle.rc_ospf.proofs.summaries.backbone_summaries.Given as goal

abbrev pub invariant-loop-member : goal.invariant-loop-member
invariant-loop-member l = l.offers ++ backbone_summaries (map (known l.stubs) (drop l.member-index l.members)) l.inside ≡ backbone_summaries (map (known l.stubs) l.members) l.inside
