use Rattle.std.proofs.Common.{subst}
use Rattle.rc_router_sets.specs.Sent.{to_interface}
use Rattle.rc_nodes.specs.Seats.{SeatKnows}
use Rattle.rc_nodes.proofs.KnownLaws.{knows_never}
use Rattle.rc_router_sets.proofs.JoinLaws.{each_may, step_may, step_is, all_joined}
use Rattle.rc_router_sets.proofs.destinations.interfaces_set.Goals as goal

pub loop-interface-init : goal.loop-interface-init
loop-interface-init g c = record { seat = c.requires.seat; keeps = λ r t k. k; so_far = knows_never c.args.work.now }

pub interface_set-requires-clause-may : goal.interface_set-requires-clause-may
interface_set-requires-clause-may g c = each_may (to_interface c.args.plane.now) c.args.interfaces.now c.loop-interface.interface-index c.interface-item.result c.interface-item.is c.loop-interface-test.true c.args.nodes.now.may c.requires.may

pub or-requires-clause-may : goal.or-requires-clause-may
or-requires-clause-may g c =
    let i = c.loop-interface.invariant in
    step_may (to_interface c.args.plane.now) c.args.interfaces.now c.loop-interface.interface-index c.interface-item.result c.interface-item.is c.loop-interface-test.true c.args.nodes.now c.interface_set.new.work c.requires.may c.loop-interface.set.index c.in_ok-there.there.index
    (c.interface_set.ensures.keeps c.loop-interface.set.index _ i.so_far) c.in_ok-there.ensures.set

pub loop-interface-preserved : goal.loop-interface-preserved
loop-interface-preserved g c =
    let i = c.loop-interface.invariant in
    record {
      seat = c.or.ensures.seat;
      keeps = λ r t k. c.or.ensures.keeps r t (c.interface_set.ensures.keeps r t (i.keeps r t k));
      so_far = subst (SeatKnows c.or.new.self c.in_ok-set.set.index) (step_is (to_interface c.args.plane.now) c.args.interfaces.now c.loop-interface.interface-index c.interface-item.result c.interface-item.is c.loop-interface-test.true)
          (c.in_ok-set.ensures.or _ _ (c.interface_set.ensures.keeps c.loop-interface.set.index _ i.so_far) c.in_ok-there.ensures.set);
    }

pub returns-clause-set : goal.returns-clause-set
returns-clause-set g c = subst (SeatKnows c.loop-interface.work c.loop-interface.set.index) (all_joined (to_interface c.args.plane.now) c.loop-interface.interface-index c.args.interfaces.now c.loop-interface-test.false) c.loop-interface.invariant.so_far
