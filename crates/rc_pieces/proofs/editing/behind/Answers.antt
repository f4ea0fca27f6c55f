use Rattle.std.proofs.Common.{◌∙◌, not, rules}
use Rattle.std.proofs.lemmas.List.{take_rest}
use Rattle.std.proofs.lemmas.List.Sorted.{IsPartitionPoint-from_clause}
use Rattle.rc_pieces.proofs.EditLaws.{back_is, behind_in_order, is_behind, parted_behind}
use Rattle.rc_pieces.proofs.PlaceLaws.{lt_code}
use Rattle.rc_pieces.proofs.editing.behind.Goals as goal

-- the closure gives the test, which turns once
pub returns-clause-value : goal.returns-clause-value
returns-clause-value g c =
    let f = g.T.HasPrefix.prefix_of in
    let point = IsPartitionPoint-from_clause (λ x. not (is_behind f c.args.prefix.now x)) c.args.items.now c.partition_point-index.result c.partition_point-index.ensures.partitioned (parted_behind f c.args.prefix.now c.args.items.now c.requires) (λ a r q called. search (rules, lt_code)) in
    take_rest c.args.items.now c.partition_point-index.result ∙ back_is (is_behind f c.args.prefix.now) c.args.items.now c.partition_point-index.result c.partition_point-index.ensures.bound point

pub returns-clause-in_order : goal.returns-clause-in_order
returns-clause-in_order g c = search (rules, behind_in_order, returns-clause-value g c)
