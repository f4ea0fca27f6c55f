use Rattle.std.proofs.Common.{◌++◌, [], ◌∷◌, ap, ◌∙◌}
use Rattle.std.specs.Prelude.{slice_get}
use Rattle.std.specs.Option.{option_map_or}
use Rattle.rc_topology.specs.Ports.{port_of}
use Rattle.rc_topology.proofs.ListLaws.{mapped_more}
use Rattle.rc_topology.proofs.ports.ports_of.Goals as goal

-- one port more
pub loop-index-preserved : goal.loop-index-preserved
loop-index-preserved c =
    let entries = c.args.file.now.interfaces in
    c.in_ok-add_port.ensures ∙ ap (λ ports. ports ++ option_map_or (λ e. port_of entries e ∷ []) (slice_get entries c.loop-index.index) []) c.loop-index.invariant
    ∙ mapped_more (port_of entries) entries c.loop-index.index
