use Rattle.std.proofs.Common.{nat_le, rules}
use Rattle.std.proofs.lemmas.List.Sorted.{IsPartitionPoint-from_clause}
use Rattle.rc_trie.proofs.SearchLaws.{begin_first, reached}
use Rattle.rc_trie.proofs.search.reach.Goals as goal

pub returns : goal.returns
returns g c =
    let f = g.T.HasPrefix.prefix_of in
    let all = c.args.rows.now in
    let a = c.args.addr in
    let point = IsPartitionPoint-from_clause (λ x. nat_le (f x).network a) all c.partition_point.result c.partition_point.ensures.partitioned (begin_first f all c.requires a) (λ x r q called. search rules) in
    reached f all c.requires a c.partition_point.result c.partition_point.ensures.bound point
