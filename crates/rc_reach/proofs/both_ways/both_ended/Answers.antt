use Rattle.std.proofs.Common.{IfOk, length, sym, subst}
use Rattle.std.proofs.lemmas.Result.{IfOk-weaker}
use Rattle.rc_base.specs.declared.ending.Ends.{Ends}
use Rattle.rc_base.specs.Positions.{is_among}
use Rattle.rc_config.specs.Members.{positions}
use Rattle.rc_edges.specs.Prepare.{ends_at}
use Rattle.rc_router_sets.specs.Query.{query_nodes, reaching}
use Rattle.rc_jobs.specs.Flows.{KnowsFlows, flows_of, real_endings}
use Rattle.rc_jobs.specs.Kept.{flows_kept}
use Rattle.rc_nodes.specs.Seats.{SeatKnows}
use Rattle.rc_trees.specs.Recipes.{tree}
use Rattle.rc_trees.specs.Trees.{HasNodes}
use Rattle.rc_reach.specs.Uneven.{arrivals, failures, uneven}
use Rattle.rc_reach.proofs.UnevenLaws.{arrivals_may, both_may, failures_may, uneven-tree}
use Rattle.rc_reach.proofs.both_ways.both_ended.Goals as goal

pub reaching_set-requires-clause-endings : goal.reaching_set-requires-clause-endings
reaching_set-requires-clause-endings g c =
    let plane = c.args.plane.now in
    subst (λ (e : Ends). KnowsFlows c.args.work.now (flows_of (is_among e) c.args.endings.now) (real_endings (ends_at plane e) (length (positions plane.network)))) (sym c.arrivals.ensures) c.requires.arriving

pub reaching_set-requires-2-clause-endings : goal.reaching_set-requires-2-clause-endings
reaching_set-requires-2-clause-endings g c =
    let plane = c.args.plane.now in
    subst (λ (e : Ends). KnowsFlows c.reaching_set.new.work (flows_of (is_among e) c.args.endings.now) (real_endings (ends_at plane e) (length (positions plane.network)))) (sym c.failures.ensures)
    (flows_kept c.args.work.now c.reaching_set.new.work c.reaching_set.ensures.keeps _ _ c.requires.failing)

pub reaching_set-requires-clause-may : goal.reaching_set-requires-clause-may
reaching_set-requires-clause-may g c =
    let plane = c.args.plane.now in
    let place = c.args.place.now in
    let may = c.args.nodes.now.may in
    subst (λ (e : Ends). HasNodes may (query_nodes plane place e)) (sym c.arrivals.ensures) (arrivals_may plane place may c.requires.may)

pub reaching_set-requires-2-clause-may : goal.reaching_set-requires-2-clause-may
reaching_set-requires-2-clause-may g c =
    let plane = c.args.plane.now in
    let place = c.args.place.now in
    let may = c.args.nodes.now.may in
    subst (λ (e : Ends). HasNodes may (query_nodes plane place e)) (sym c.failures.ensures) (failures_may plane place may c.requires.may)

pub and-requires-clause-may : goal.and-requires-clause-may
and-requires-clause-may g c =
    let plane = c.args.plane.now in
    let place = c.args.place.now in
    record {
      left = tree (reaching plane place arrivals);
      right = tree (reaching plane place failures);
      knows_left = c.reaching_set-2.ensures.keeps _ _ (subst (λ (e : Ends). SeatKnows c.reaching_set.new.work c.in_ok-arrive.arrive.index (tree (reaching plane place e))) c.arrivals.ensures c.in_ok-arrive.ensures.set);
      knows_right = subst (λ (e : Ends). SeatKnows c.reaching_set-2.new.work c.in_ok-fail.fail.index (tree (reaching plane place e))) c.failures.ensures c.in_ok-fail.ensures.set;
      allowed = both_may plane place c.args.nodes.now.may c.requires.may;
    }

pub returns-clause-set : goal.returns-clause-set
returns-clause-set g c =
    let plane = c.args.plane.now in
    let place = c.args.place.now in
    let left : SeatKnows c.reaching_set-2.new.work c.in_ok-arrive.arrive.index (tree (reaching plane place arrivals)) = c.reaching_set-2.ensures.keeps _ _ (subst (λ (e : Ends). SeatKnows c.reaching_set.new.work c.in_ok-arrive.arrive.index (tree (reaching plane place e))) c.arrivals.ensures c.in_ok-arrive.ensures.set) in
    let right : SeatKnows c.reaching_set-2.new.work c.in_ok-fail.fail.index (tree (reaching plane place failures)) = subst (λ (e : Ends). SeatKnows c.reaching_set-2.new.work c.in_ok-fail.fail.index (tree (reaching plane place e))) c.failures.ensures c.in_ok-fail.ensures.set in
    let made : IfOk c.and.result (λ r. SeatKnows c.and.new.self r.index (tree (uneven plane place))) = IfOk-weaker c.and.result _ (λ r. SeatKnows c.and.new.self r.index (tree (uneven plane place))) (λ r h. subst (SeatKnows c.and.new.self r.index) (sym (uneven-tree plane place)) (h _ _ left right)) c.and.ensures.and in
    made
