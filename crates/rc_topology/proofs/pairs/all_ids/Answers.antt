use Rattle.std.proofs.Common.{ap, ◌∙◌, ◌++◌}
use Rattle.rc_topology.specs.Links.{ids_of}
use Rattle.rc_topology.proofs.PairLaws.{routers_more}
use Rattle.rc_topology.proofs.pairs.all_ids.Goals as goal

pub loop-router-preserved : goal.loop-router-preserved
loop-router-preserved c =
    routers_more c.args.links.now c.loop-router.router c.loop-router.all _ c.loop-router.invariant
    (c.in_ok-add_router.ensures ∙ ap (λ r. c.loop-router.all ++ ids_of c.args.links.now r) c.at.ensures)
