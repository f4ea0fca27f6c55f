use Rattle.std.proofs.Common.{◌≡◌, ◌++◌, drop, map}
use Rattle.rc_ospf.specs.Areas.{outward_summaries}
use Rattle.rc_ospf.specs.Members.{known}
use Rattle.rc_ospf.proofs.summaries.outward_summaries.Given as goal

abbrev pub invariant-loop-member : goal.invariant-loop-member
invariant-loop-member l = l.offers ++ outward_summaries (map (known l.stubs) (drop l.member-index l.members)) l.is_default l.inside l.backbone
    ≡ outward_summaries (map (known l.stubs) l.members) l.is_default l.inside l.backbone
