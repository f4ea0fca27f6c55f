use Rattle.std.proofs.Common.{◌∙◌, Bool, not, rules}
use Rattle.std.proofs.lemmas.List.Sorted.{IsPartitionPoint-from_clause}
use Rattle.rc_base.specs.declared.position.IfId.{IfId}
use Rattle.rc_topology.specs.Order.{is_before}
use Rattle.rc_topology.proofs.ListLaws.{first_at}
use Rattle.rc_topology.proofs.OrderLaws.{turns_once, past_down, not_not}
use Rattle.rc_topology.proofs.order.first_past.Goals as goal

-- the closure gives the test, which turns once
pub returns : goal.returns
returns c =
    let test : IfId → Bool = λ i. not (is_before c.args.last.now i) in
    let parted = turns_once test (past_down c.args.last.now) c.args.interfaces.now c.requires in
    let point = IsPartitionPoint-from_clause test c.args.interfaces.now c.partition_point-first.result c.partition_point-first.ensures.partitioned parted (λ a r q called. search rules) in
    c.at.ensures ∙ first_at test (is_before c.args.last.now) (λ i. not_not (is_before c.args.last.now i)) c.args.interfaces.now c.partition_point-first.result c.partition_point-first.ensures.bound point
