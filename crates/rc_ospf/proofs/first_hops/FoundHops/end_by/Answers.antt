use Rattle.std.proofs.Common.{refl, subst, rules, ◌≡◌, ◌∷◌, [], OnOk}
use Rattle.rc_link_state.specs.Adjacency.{hop_of}
use Rattle.rc_ospf.specs.FirstHops.{AreLast}
use Rattle.rc_ospf.proofs.FirstHopLaws.{last_already, last_now}
use Rattle.rc_ospf.proofs.first_hops.FoundHops.end_by.Goals as goal

pub returns-then-ends_by-clause-last : goal.returns-then-ends_by-clause-last
returns-then-ends_by-clause-last c = last_already _ _ _ refl (c.ends_by.ensures c.if-ends_by.true)

pub returns-clause-last : goal.returns-clause-last
returns-clause-last c =
    let one : c.one.result ≡ hop_of c.args.step.now ∷ [] = search rules in
    subst (λ (hops : _). OnOk c.push_hops.result (AreLast c.args.self.now.hops c.push_hops.new.self.hops hops)) one (last_now _ _ _ c.push_hops.result c.push_hops.ensures.hops)
