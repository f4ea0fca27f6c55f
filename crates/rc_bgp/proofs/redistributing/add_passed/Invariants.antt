use Rattle.std.proofs.Common.{◌≡◌, ◌++◌, drop}
use Rattle.std.specs.List.{filter_map}
use Rattle.rc_bgp.specs.Redistributing.{redistributed, redistributed_paths}
use Rattle.rc_bgp.proofs.redistributing.add_passed.Given as goal

abbrev pub invariant-loop-route : goal.invariant-loop-route
invariant-loop-route l = l.paths ++ filter_map (redistributed l.router l.file l.source l.kinds l.prefixes l.line) (drop l.route-index l.routes) ≡ l.initial.paths ++ redistributed_paths l.router l.file l.source l.kinds l.prefixes l.routes l.line
