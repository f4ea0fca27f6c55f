use Rattle.std.proofs.Common.{subst}
use Rattle.rc_trees.proofs.NodeLaws.{has_recipe}
use Rattle.rc_trees.specs.Fields.{chain}
use Rattle.rc_nodes.specs.Seats.{SeatKnows}
use Rattle.rc_nodes.proofs.KnownLaws.{knows_never}
use Rattle.rc_router_sets.proofs.JoinLaws.{each_may, step_may, step_is, all_joined}
use Rattle.rc_router_sets.proofs.destinations.prefixes_set.Goals as goal

pub loop-prefix-init : goal.loop-prefix-init
loop-prefix-init g c = record { seat = c.requires.seat; keeps = λ r t k. k; so_far = knows_never c.args.work.now }

pub prefix_set-requires-clause-may : goal.prefix_set-requires-clause-may
prefix_set-requires-clause-may g c = has_recipe c.args.nodes.now.may (chain c.prefix-item.result) (each_may chain c.args.prefixes.now c.loop-prefix.prefix-index c.prefix-item.result c.prefix-item.is c.loop-prefix-test.true c.args.nodes.now.may c.requires.may)

pub or-requires-clause-may : goal.or-requires-clause-may
or-requires-clause-may g c =
    let i = c.loop-prefix.invariant in
    step_may chain c.args.prefixes.now c.loop-prefix.prefix-index c.prefix-item.result c.prefix-item.is c.loop-prefix-test.true c.args.nodes.now c.prefix_set.new.work c.requires.may c.loop-prefix.set.index c.in_ok-alone.alone.index
    (c.prefix_set.ensures.keeps c.loop-prefix.set.index _ i.so_far) c.in_ok-alone.ensures.set

pub loop-prefix-preserved : goal.loop-prefix-preserved
loop-prefix-preserved g c =
    let i = c.loop-prefix.invariant in
    record {
      seat = c.or.ensures.seat;
      keeps = λ r t k. c.or.ensures.keeps r t (c.prefix_set.ensures.keeps r t (i.keeps r t k));
      so_far = subst (SeatKnows c.or.new.self c.in_ok-set.set.index) (step_is chain c.args.prefixes.now c.loop-prefix.prefix-index c.prefix-item.result c.prefix-item.is c.loop-prefix-test.true)
          (c.in_ok-set.ensures.or _ _ (c.prefix_set.ensures.keeps c.loop-prefix.set.index _ i.so_far) c.in_ok-alone.ensures.set);
    }

pub returns-clause-set : goal.returns-clause-set
returns-clause-set g c = subst (SeatKnows c.loop-prefix.work c.loop-prefix.set.index) (all_joined chain c.loop-prefix.prefix-index c.args.prefixes.now c.loop-prefix-test.false) c.loop-prefix.invariant.so_far
