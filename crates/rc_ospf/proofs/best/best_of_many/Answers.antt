use Rattle.std.proofs.Common.{◌≡◌, ◌∙◌, sym, ap, drop, [], arith}
use Rattle.std.proofs.lemmas.List.{drop_all}
use Rattle.rc_ospf.specs.BestOffers.{best_from}
use Rattle.rc_ospf.specs.Members.{reach_of}
use Rattle.rc_ospf.proofs.best.best_of_many.Goals as goal

pub returns-clause-value : goal.returns-clause-value
returns-clause-value g c =
    let m = g.C.TellsCosts.member c.args.costs.now in
    let offers = c.args.offers.now in
    let none : drop c.loop-index.index offers ≡ [] = drop_all c.loop-index.index offers (omega (arith, c.loop-index-test.false)) in
    sym (ap (best_from (reach_of m) c.args.others m.router c.loop-index.best c.loop-index.index) none) ∙ c.loop-index.invariant.value
