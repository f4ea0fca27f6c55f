use Rattle.std.proofs.Common.{◌∙◌, refl}
use Rattle.rc_config.specs.Bgp.{address_of}
use Rattle.rc_config.specs.Peering.{settled_in}
use Rattle.rc_commands.proofs.SettleLaws.{begin-all, begin-order, next-all, next-order}
use Rattle.rc_commands.proofs.bgp.settle_all.Goals as goal

pub loop-neighbor-init : goal.loop-neighbor-init
loop-neighbor-init c = record {
  all = begin-all address_of (settled_in c.args.peering.now) (λ n. refl) c.new-settled.result c.into_iter-neighbor-iterator.result c.args.neighbors.now c.new-settled.ensures (c.into_iter-neighbor-iterator.ensures.into_iter_gives ∙ c.iter-neighbor-items.ensures.all);
  in_order = begin-order address_of (settled_in c.args.peering.now) (λ n. refl) c.new-settled.result c.into_iter-neighbor-iterator.result c.args.neighbors.now c.new-settled.ensures (c.into_iter-neighbor-iterator.ensures.into_iter_gives ∙ c.iter-neighbor-items.ensures.all) c.iter-neighbor-items.ensures.by_number;
}

pub loop-neighbor-preserved : goal.loop-neighbor-preserved
loop-neighbor-preserved c = record {
  all = next-all address_of (settled_in c.args.peering.now) (λ n. refl) c.loop-neighbor.settled c.put_neighbor.new.neighbors c.loop-neighbor.neighbor-iterator c.next.new.self _ c.in-Some.neighbor.now c.settled_in.result c.in-Some.ensures.steps c.settled_in.ensures c.in_ok-put_neighbor.ensures c.loop-neighbor.invariant.in_order c.loop-neighbor.invariant.all;
  in_order = next-order address_of (settled_in c.args.peering.now) (λ n. refl) c.loop-neighbor.settled c.put_neighbor.new.neighbors c.loop-neighbor.neighbor-iterator c.next.new.self c.in-Some.neighbor.now c.settled_in.result c.in-Some.ensures.steps c.settled_in.ensures c.in_ok-put_neighbor.ensures c.loop-neighbor.invariant.in_order;
}
