use Rattle.std.proofs.Common.{sym, subst}
use Rattle.rc_trees.specs.Fields.{exact}
use Rattle.rc_trees.specs.Trees.{HasNodesOf}
use Rattle.rc_nodes.specs.Seats.{SeatKnows}
use Rattle.rc_nodes.proofs.KnownLaws.{knows_never}
use Rattle.rc_sets.proofs.LineLaws.{alone_may, step_may, step_is, all_joined}
use Rattle.rc_sets.proofs.ports.one_of.Goals as goal

pub loop-port-init : goal.loop-port-init
loop-port-init g c = record { seat = c.requires.seat; keeps = λ r t k. k; so_far = knows_never c.args.work.now }

pub exact_set-requires-clause-may : goal.exact_set-requires-clause-may
exact_set-requires-clause-may g c =
    subst (λ n. HasNodesOf c.args.nodes.now.may (exact c.args.last 16 n)) (sym c.from.ensures) (alone_may c.args.nodes.now.may c.args.last c.args.ports.now c.loop-port.port-index _ c.loop-port-test.true c.requires.may)

pub or-requires-clause-may : goal.or-requires-clause-may
or-requires-clause-may g c =
    let i = c.loop-port.invariant in
    step_may c.args.nodes.now c.exact_set.new.work c.args.last c.args.ports.now c.loop-port.port-index _ c.loop-port-test.true c.requires.may c.loop-port.set.index c.in_ok-alone.alone.index
    (c.exact_set.ensures.keeps c.loop-port.set.index _ i.so_far)
    (subst (λ n. SeatKnows c.exact_set.new.work c.in_ok-alone.alone.index (exact c.args.last 16 n)) c.from.ensures c.in_ok-alone.ensures.set)

pub loop-port-preserved : goal.loop-port-preserved
loop-port-preserved g c =
    let i = c.loop-port.invariant in
    record {
      seat = c.or.ensures.seat;
      keeps = λ r t k. c.or.ensures.keeps r t (c.exact_set.ensures.keeps r t (i.keeps r t k));
      so_far = subst (SeatKnows c.or.new.self c.in_ok-set.set.index) (step_is c.args.last c.args.ports.now c.loop-port.port-index _ c.loop-port-test.true)
          (c.in_ok-set.ensures.or _ _ (c.exact_set.ensures.keeps c.loop-port.set.index _ i.so_far) (subst (λ n. SeatKnows c.exact_set.new.work c.in_ok-alone.alone.index (exact c.args.last 16 n)) c.from.ensures c.in_ok-alone.ensures.set));
    }

pub returns-clause-set : goal.returns-clause-set
returns-clause-set g c = subst (SeatKnows c.loop-port.work c.loop-port.set.index) (all_joined c.args.last c.loop-port.port-index c.args.ports.now c.loop-port-test.false) c.loop-port.invariant.so_far
