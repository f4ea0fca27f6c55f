use Rattle.std.proofs.Common.{◌≡◌, ◌<◌, ◌^◌, drop, None}
use Rattle.std.specs.Prelude.{IfSome}
use Rattle.rc_ospf.specs.BestOffers.{best_from}
use Rattle.rc_ospf.specs.Members.{reach_of}
use Rattle.rc_ospf.proofs.best.best_of_many.Given as goal

abbrev pub invariant-loop-index : goal.invariant-loop-index
invariant-loop-index g l = record {
  value : best_from (reach_of (g.C.TellsCosts.member l.costs)) l.others (g.C.TellsCosts.member l.costs).router l.best l.index (drop l.index l.offers) ≡ best_from (reach_of (g.C.TellsCosts.member l.costs)) l.others (g.C.TellsCosts.member l.costs).router None 0 l.offers;
  small : IfSome l.best (λ b. b.cost < 2 ^ 27);
}
