use Rattle.std.proofs.Common.{ap, sym, ◌∙◌, subst, ◌+◌, ◌<◌, ◌++◌, length, take, refl}
use Rattle.rc_base.specs.declared.position.Pos.TheVariants.{Entering}
use Rattle.rc_config.specs.Lawful.{IsPosition}
use Rattle.rc_config.specs.Members.{positions}
use Rattle.rc_router_sets.proofs.JoinLaws.{take-whole}
use Rattle.rc_edges.proofs.RowLaws.{row_like}
use Rattle.rc_edges.proofs.TargetLaws.{given_all, given_none, leads_is, may_get_it, step, target_led, target_once}
use Rattle.rc_router_sets.specs.Edges.{towards, union}
use Rattle.rc_edges.specs.Given.{IsRow, given_by, given_onto, joined, with_sets}
use Rattle.rc_router_sets.specs.Sent.{hops_at}
use Rattle.rc_places.proofs.PlaceLaws.{number_there}
use Rattle.rc_places.specs.Places.{number_of}
use Rattle.rc_trees.specs.Recipes.{parts, tree}
use Rattle.rc_trees.specs.Trees.{HasNodes}
use Rattle.rc_edges.proofs.edges.add_targets.Goals as goal

pub loop-next-init : goal.loop-next-init
loop-next-init g c =
    let plane = c.args.site.now.plane.now in
    let q = c.args.site.now.position in
    let hops = hops_at plane q in
    record {
      made = c.requires.made;
      keeps = λ r t k. k;
      row = row_like c.args.work.now c.args.row.now (length (positions c.args.places.now)) (joined (given_by plane q (take c.args.at.now.index hops))) (joined (given_onto plane q (take c.args.at.now.index hops) c.args.at.now.hop (take 0 c.args.targets.now)))
          (λ t less. ap (λ ss. tree (union ss)) (given_none plane q hops c.args.at.now.index c.args.at.now.hop c.requires.at t)) c.requires.row;
    }

pub number-onto-requires : goal.number-onto-requires
number-onto-requires g c =
    let plane = c.args.site.now.plane.now in
    let next = c.next-item.result in
    let leads = target_led plane.links c.args.at.now.hop c.args.targets.now c.requires.targets c.loop-next.next-index next c.next-item.is c.loop-next-test.true in
    subst (λ n. IsPosition n (Entering next)) (sym c.requires.places) (leads_is plane.network plane.links c.requires.links c.args.at.now.hop next leads)

pub add_towards-requires-clause-leads : goal.add_towards-requires-clause-leads
add_towards-requires-clause-leads g c = target_led c.args.site.now.plane.now.links c.args.at.now.hop c.args.targets.now c.requires.targets c.loop-next.next-index c.next-item.result c.next-item.is c.loop-next-test.true

pub add_towards-requires-clause-onto : goal.add_towards-requires-clause-onto
add_towards-requires-clause-onto g c =
    let plane = c.args.site.now.plane.now in
    let next = c.next-item.result in
    let leads = target_led plane.links c.args.at.now.hop c.args.targets.now c.requires.targets c.loop-next.next-index next c.next-item.is c.loop-next-test.true in
    let there = leads_is plane.network plane.links c.requires.links c.args.at.now.hop next leads in
    let onto = c.number-onto.ensures ∙ ap (λ n. number_of n (Entering next)) c.requires.places in
    let low : number_of plane.network (Entering next) < length (positions c.args.places.now) = subst (λ n. number_of plane.network (Entering next) < length (positions n)) (sym c.requires.places) (number_there plane.network (Entering next) there).0 in
    subst (λ n. n < length c.loop-next.row.sets.items) (sym onto) (subst (λ n. number_of plane.network (Entering next) < n) (sym c.loop-next.invariant.row.as_many) low)

pub add_towards-requires-clause-may : goal.add_towards-requires-clause-may
add_towards-requires-clause-may g c =
    let plane = c.args.site.now.plane.now in
    let q = c.args.site.now.position in
    let hops = hops_at plane q in
    let next = c.next-item.result in
    let i = c.loop-next.invariant in
    let leads = target_led plane.links c.args.at.now.hop c.args.targets.now c.requires.targets c.loop-next.next-index next c.next-item.is c.loop-next-test.true in
    let once = target_once plane.links c.args.at.now.hop c.args.targets.now c.requires.targets c.loop-next.next-index next c.next-item.is c.loop-next-test.true in
    let there = leads_is plane.network plane.links c.requires.links c.args.at.now.hop next leads in
    let onto = c.number-onto.ensures ∙ ap (λ n. number_of n (Entering next)) c.requires.places in
    let low = (number_there plane.network (Entering next) there).0 in
    let given = given_onto plane q (take c.args.at.now.index hops) c.args.at.now.hop (take c.loop-next.next-index c.args.targets.now) in
    record {
      given = given;
      is_row = subst (λ n. IsRow c.loop-next.work c.loop-next.row n (joined given)) (sym i.row.as_many) i.row;
      allowed = subst (λ n. HasNodes c.args.nodes.now.may (parts (union (given n ++ towards plane q next c.args.at.now.hop)))) (sym onto)
          (may_get_it plane q hops c.args.at.now.index c.args.at.now.hop c.requires.at c.args.targets.now c.loop-next.next-index next c.next-item.is c.loop-next-test.true once there c.args.nodes.now.may refl (c.requires.may.each (number_of plane.network (Entering next)) low));
    }

pub loop-next-preserved : goal.loop-next-preserved
loop-next-preserved g c =
    let plane = c.args.site.now.plane.now in
    let q = c.args.site.now.position in
    let hops = hops_at plane q in
    let next = c.next-item.result in
    let i = c.loop-next.invariant in
    let leads = target_led plane.links c.args.at.now.hop c.args.targets.now c.requires.targets c.loop-next.next-index next c.next-item.is c.loop-next-test.true in
    let once = target_once plane.links c.args.at.now.hop c.args.targets.now c.requires.targets c.loop-next.next-index next c.next-item.is c.loop-next-test.true in
    let there = leads_is plane.network plane.links c.requires.links c.args.at.now.hop next leads in
    let onto = c.number-onto.ensures ∙ ap (λ n. number_of n (Entering next)) c.requires.places in
    let given = given_onto plane q (take c.args.at.now.index hops) c.args.at.now.hop (take c.loop-next.next-index c.args.targets.now) in
    let sets = towards plane q next c.args.at.now.hop in
    let w = c.add_towards.new.work in
    let row = c.add_towards.new.row in
    let got = c.in_ok-add_towards.ensures.given.gives given (subst (λ n. IsRow c.loop-next.work c.loop-next.row n (joined given)) (sym i.row.as_many) i.row) in
    let counted = subst (λ n. IsRow w row n (joined (with_sets given c.number-onto.result sets))) i.row.as_many got in
    let placed = subst (λ n. IsRow w row (length (positions c.args.places.now)) (joined (with_sets given n sets))) onto counted in
    record {
      made = c.in_ok-add_towards.ensures.made;
      keeps = λ r t k. c.in_ok-add_towards.ensures.keeps r t (i.keeps r t k);
      row = row_like w row (length (positions c.args.places.now)) (joined (with_sets given (number_of plane.network (Entering next)) sets)) (joined (given_onto plane q (take c.args.at.now.index hops) c.args.at.now.hop (take (c.loop-next.next-index + 1) c.args.targets.now)))
          (λ t less. ap (λ ss. tree (union ss)) (step plane q hops c.args.at.now.index c.args.at.now.hop c.requires.at c.args.targets.now c.loop-next.next-index next c.next-item.is c.loop-next-test.true once there t (subst (λ n. t < length (positions n)) c.requires.places less))) placed;
    }

pub returns-clause-row : goal.returns-clause-row
returns-clause-row g c =
    let plane = c.args.site.now.plane.now in
    let q = c.args.site.now.position in
    let hops = hops_at plane q in
    row_like c.loop-next.work c.loop-next.row (length (positions c.args.places.now)) (joined (given_onto plane q (take c.args.at.now.index hops) c.args.at.now.hop (take c.loop-next.next-index c.args.targets.now))) (joined (given_by plane q (take (c.args.at.now.index + 1) hops)))
    (λ t less. ap (λ ts. tree (union (given_onto plane q (take c.args.at.now.index hops) c.args.at.now.hop ts t))) (take-whole c.loop-next.next-index c.args.targets.now c.loop-next-test.false) ∙ ap (λ ss. tree (union ss)) (given_all plane q hops c.args.at.now.index c.args.at.now.hop c.requires.at c.args.targets.now c.requires.targets t))
    c.loop-next.invariant.row
