use Rattle.std.proofs.Common.{rules}
use Rattle.std.proofs.lemmas.List.Sorted.{IsPartitionPoint-from_clause}
use Rattle.rc_pieces.proofs.PlaceLaws.{begin_first, begins, lt_code, placed}
use Rattle.rc_pieces.proofs.listed.place_for.Goals as goal

-- the closure gives the test, which turns once
pub returns : goal.returns
returns g c =
    let f = g.T.HasPrefix.prefix_of in
    let pieces = c.args.pieces.now in
    let p = c.args.prefix.now in
    let turns = begin_first f p pieces c.requires.filled c.requires.in_order in
    let point = IsPartitionPoint-from_clause (begins f p) pieces c.partition_point.result c.partition_point.ensures.partitioned turns (λ a r q called. search (rules, lt_code)) in
    placed f p pieces c.partition_point.result c.requires.filled c.requires.in_order c.partition_point.ensures.bound point
