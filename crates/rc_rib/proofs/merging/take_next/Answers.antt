use Rattle.std.proofs.Common.{◌∙◌}
use Rattle.rc_rib.proofs.MergingLaws.{order_is, first_is_next, second_is_next}
use Rattle.rc_rib.proofs.merging.take_next.Goals as goal

pub returns-in-Less : goal.returns-in-Less
returns-in-Less c =
    let order = order_is _ _ _ c.args.first.now.items c.args.second.now.items c.which.ensures c.front_prefix.ensures c.front_prefix-2.ensures in
    first_is_next _ _ _ c.take_front.result (order ∙ c.in-Less.is) c.take_front.ensures

pub returns-in-Greater : goal.returns-in-Greater
returns-in-Greater c =
    let order = order_is _ _ _ c.args.first.now.items c.args.second.now.items c.which.ensures c.front_prefix.ensures c.front_prefix-2.ensures in
    second_is_next _ _ _ c.take_front-in-Greater.result (order ∙ c.in-Greater.is) c.take_front-in-Greater.ensures
