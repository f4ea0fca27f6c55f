use Rattle.std.proofs.Common.{◌++◌, [], ◌∷◌, ap, ◌∙◌}
use Rattle.std.specs.Prelude.{slice_get}
use Rattle.std.specs.Option.{option_map_or}
use Rattle.rc_topology.specs.Ports.{ports_of}
use Rattle.rc_topology.proofs.ListLaws.{mapped_more}
use Rattle.rc_topology.proofs.ports.all_ports.Goals as goal

-- one router more
pub loop-index-preserved : goal.loop-index-preserved
loop-index-preserved c =
    let routers = c.args.net.now.routers in
    c.in_ok-add_router.ensures ∙ ap (λ links. links ++ option_map_or (λ e. ports_of e.1 ∷ []) (slice_get routers c.loop-index.index) []) c.loop-index.invariant
    ∙ mapped_more (λ e. ports_of e.1) routers c.loop-index.index
