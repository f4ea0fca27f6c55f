use Rattle.std.proofs.Common.{◌≡◌, drop}
use Rattle.std.specs.List.{find}
use Rattle.std.specs.Option.{option_map}
use Rattle.rc_config.specs.declared.ospf.OspfNetwork.{OspfNetwork}
use Rattle.rc_ospf_interfaces.specs.Interfaces.{is_matched, area_by_line}
use Rattle.rc_ospf_interfaces.proofs.interface.area_by_line.Given as goal

abbrev pub invariant-loop-line : goal.invariant-loop-line
invariant-loop-line l = option_map (λ (line : OspfNetwork). line.area) (find (is_matched l.address) (drop l.line-index l.process.networks)) ≡ area_by_line l.process l.address
