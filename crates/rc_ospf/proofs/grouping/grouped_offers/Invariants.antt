use Rattle.std.proofs.Common.{◌≡◌, drop}
use Rattle.std.specs.List.{fold}
use Rattle.rc_base.specs.Groups.{with_thing, grouped}
use Rattle.rc_ospf.specs.ByPrefix.{with_offer}
use Rattle.rc_ospf.specs.Routes.{advert_prefix}
use Rattle.rc_ospf.proofs.grouping.grouped_offers.Given as goal

abbrev pub invariant-loop-advert : goal.invariant-loop-advert
invariant-loop-advert l = fold (with_thing advert_prefix with_offer) l.rows (drop l.advert-index l.adverts) ≡ grouped advert_prefix with_offer l.adverts
