use Rattle.std.proofs.Common.{Bool, rules}
use Rattle.std.proofs.lemmas.List.Sorted.{IsPartitionPoint-from_clause}
use Rattle.std.specs.Ordering.{is_lt}
use Rattle.rc_base.specs.Prefix.{prefix_cmp}
use Rattle.rc_trie.specs.declared.row.Row.{Row}
use Rattle.rc_trie.proofs.PlaceLaws.{placed_at, stand_first}
use Rattle.rc_trie.proofs.OrderLaws.{lt_code}
use Rattle.rc_trie.proofs.search.bisect.Goals as goal

pub returns : goal.returns
returns c =
    let all = c.args.rows.now in
    let p = c.args.prefix.now in
    let test : Row → Bool = λ r. is_lt (prefix_cmp r.prefix p) in
    let point = IsPartitionPoint-from_clause test all c.partition_point.result c.partition_point.ensures.partitioned (stand_first all c.requires p) (λ a r q called. search (rules, lt_code)) in
    placed_at all c.requires p c.partition_point.result c.partition_point.ensures.bound point
