use Rattle.std.proofs.Common.{rules}
use Rattle.std.proofs.lemmas.List.Sorted.{IsPartitionPoint-from_clause}
use Rattle.rc_pieces.proofs.EditLaws.{front_is, is_before, parted}
use Rattle.rc_pieces.proofs.PlaceLaws.{lt_code}
use Rattle.rc_pieces.proofs.editing.before.Goals as goal

-- the closure gives the test, which turns once
pub returns : goal.returns
returns g c =
    let f = g.T.HasPrefix.prefix_of in
    let test = is_before f c.args.prefix.now in
    let point = IsPartitionPoint-from_clause test c.args.items.now c.partition_point-index.result c.partition_point-index.ensures.partitioned (parted f c.args.prefix.now c.args.items.now c.requires) (λ a r q called. search (rules, lt_code)) in
    front_is test c.args.items.now c.partition_point-index.result c.partition_point-index.ensures.bound point
