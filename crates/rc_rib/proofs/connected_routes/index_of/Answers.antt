use Rattle.std.proofs.Common.{ap, ◌∙◌}
use Rattle.rc_base.specs.Index.{with_interface}
use Rattle.rc_rib.specs.Offers.{id_at, prefixes_of_id}
use Rattle.rc_rib.proofs.ConnectedLaws.{index_more}
use Rattle.rc_rib.proofs.connected_routes.index_of.Goals as goal

pub loop-number-preserved : goal.loop-number-preserved
loop-number-preserved c =
    let prefixes = prefixes_of_id c.args.file.now.interfaces in
    c.in_ok-add_id.ensures ∙ ap (λ rows. with_interface prefixes rows (id_at c.args.router c.loop-number.number)) c.loop-number.invariant
    ∙ index_more prefixes c.args.router c.loop-number.number
