use Rattle.std.proofs.Common.{refl}
use Rattle.rc_link_state.specs.Adjacency.{hop_of}
use Rattle.rc_ospf.proofs.FirstHopLaws.{one_more, one_rises, sole_cost, sole_hops}
use Rattle.rc_ospf.proofs.first_hops.push_sole.Goals as goal

pub returns : goal.returns
returns c =
    let m = c.args.member.now in
    let h = hop_of c.args.sole.step.now in
    one_more m c.args.found.now c.end_by.new.self c.push_towards.new.self c.push_towards.result _ _ c.requires.found c.end_by.ensures.towards c.in_ok-end_by.ensures.last
    (sole_cost m c.args.area c.args.router c.args.sole.cost h c.requires.walks) c.requires.small (sole_hops m c.args.area c.args.router c.args.sole.cost h c.requires.walks) (one_rises h) refl
    c.push_towards.ensures.hops c.push_towards.ensures.towards
