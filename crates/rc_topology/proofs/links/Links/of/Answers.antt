use Rattle.std.proofs.Common.{[], ap, ◌∙◌}
use Rattle.rc_topology.specs.Filling.{hosts, with_routers}
use Rattle.rc_topology.specs.Ports.{link_prefixes}
use Rattle.rc_topology.proofs.FillingLaws.{filled_indexes}
use Rattle.rc_topology.proofs.links.Links.of.Goals as goal

pub invariant_of-result : goal.invariant_of-result
invariant_of-result c =
    filled_indexes (record { ports = c.in_ok-ports.ports; cuts = c.in_ok-cuts.cuts }) c.in_ok-indexes.indexes (c.in_ok-indexes.ensures.by_prefix ∙ ap (with_routers link_prefixes 0 []) c.as_slice.ensures)
    (c.in_ok-indexes.ensures.by_addr ∙ ap (with_routers hosts 0 []) c.as_slice.ensures)
