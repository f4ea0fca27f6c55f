use Rattle.std.proofs.Common.{◌≡◌, drop}
use Rattle.rc_network.specs.Undefined.{least_line, lower, named_by_maps}
use Rattle.rc_network.proofs.undefined.least_of_maps.Given as goal

-- the least line is the lower of the one that was found and of that of the route maps that are left
abbrev pub invariant-loop-index : goal.invariant-loop-index
invariant-loop-index l = lower l.least (least_line l.file (named_by_maps (drop l.index l.file.route_maps))) ≡ least_line l.file (named_by_maps l.file.route_maps)
