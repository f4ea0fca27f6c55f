use Rattle.std.proofs.Common.{◌≡◌, ap, ◌∙◌}
use Rattle.rc_config.specs.ByNumber.{placed}
use Rattle.rc_config.specs.RouteMap.{number_of}
use Rattle.rc_commands.proofs.PolicyLaws.{opened_over}
use Rattle.rc_commands.proofs.route_map.with_opened.Goals as goal

pub returns : goal.returns
returns c =
    let entry = c.take_opened-entry.result in
    let told = c.take_opened-entry.ensures in
    let over = opened_over c.args.map c.args.number c.args.action entry told.entry told.were_by_number in
    let made : c.insert.new.self ≡ placed number_of entry c.take_opened-entry.new.entries = c.in_ok-insert.ensures.placed in
    let all = made ∙ ap (placed number_of entry) told.others ∙ over in
    λ i. record { entries = all i }
