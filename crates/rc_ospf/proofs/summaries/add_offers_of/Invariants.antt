use Rattle.std.proofs.Common.{◌≡◌, ◌++◌, drop, filter}
use Rattle.std.specs.List.{flat_map}
use Rattle.rc_ospf.specs.Areas.{offers_of}
use Rattle.rc_ospf.specs.Members.{known}
use Rattle.rc_ospf.specs.RouterAreas.{is_outside}
use Rattle.rc_ospf.specs.declared.member.StubAreas.TheVariants.{Kept}
use Rattle.rc_ospf.proofs.summaries.add_offers_of.Given as goal

abbrev pub invariant-loop-area : goal.invariant-loop-area
invariant-loop-area l = l.offers ++ flat_map (offers_of (known Kept l.member) l.is_default l.inside l.intra l.inter) (filter is_outside (drop l.area-index l.areas))
    ≡ l.initial.offers ++ flat_map (offers_of (known Kept l.member) l.is_default l.inside l.intra l.inter) (filter is_outside l.areas)
