use Rattle.std.proofs.Common.{◌∙◌, Bool, not, refl, rules}
use Rattle.std.specs.Prelude.{nat_lt}
use Rattle.std.proofs.lemmas.List.Sorted.{IsPartitionPoint-from_clause}
use Rattle.rc_base.specs.declared.position.IfId.{IfId}
use Rattle.rc_topology.proofs.ListLaws.{first_at}
use Rattle.rc_topology.proofs.OrderLaws.{turns_once, below_down}
use Rattle.rc_topology.proofs.order.first_from_router.Goals as goal

-- the closure gives the test, which turns once
pub returns : goal.returns
returns c =
    let test : IfId → Bool = λ i. nat_lt i.router c.args.router in
    let parted = turns_once test (below_down c.args.router) c.args.interfaces.now c.requires in
    let point = IsPartitionPoint-from_clause test c.args.interfaces.now c.partition_point-first.result c.partition_point-first.ensures.partitioned parted (λ a r q called. search rules) in
    c.at.ensures ∙ first_at test (λ i. not (nat_lt i.router c.args.router)) (λ i. refl) c.args.interfaces.now c.partition_point-first.result c.partition_point-first.ensures.bound point
