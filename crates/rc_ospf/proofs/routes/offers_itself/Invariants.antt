use Rattle.std.proofs.Common.{◌≡◌, drop}
use Rattle.std.specs.List.{list_any}
use Rattle.rc_ospf.specs.Areas.{is_offered_by}
use Rattle.rc_ospf.proofs.routes.offers_itself.Given as goal

abbrev pub invariant-loop-offer : goal.invariant-loop-offer
invariant-loop-offer l = list_any (is_offered_by l.router) (drop l.offer-index l.offers) ≡ list_any (is_offered_by l.router) l.offers
