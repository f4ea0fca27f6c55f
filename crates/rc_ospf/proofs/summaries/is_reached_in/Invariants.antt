use Rattle.std.proofs.Common.{◌≡◌, drop}
use Rattle.std.specs.List.{list_any}
use Rattle.rc_ospf.specs.Areas.{costs_in}
use Rattle.rc_ospf.specs.Members.{reach_of}
use Rattle.rc_ospf.proofs.summaries.is_reached_in.Given as goal

abbrev pub invariant-loop-offer : goal.invariant-loop-offer
invariant-loop-offer l = list_any (costs_in (reach_of l.member) l.area l.cost) (drop l.offer-index l.inside) ≡ list_any (costs_in (reach_of l.member) l.area l.cost) l.inside
