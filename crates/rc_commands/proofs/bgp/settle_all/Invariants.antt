use Rattle.std.proofs.Common.{◌≡◌, ◌++◌, map}
use Rattle.rc_config.specs.ByNumber.{IsByNumber}
use Rattle.rc_config.specs.Bgp.{address_of}
use Rattle.rc_config.specs.Peering.{settled_in}
use Rattle.rc_commands.proofs.bgp.settle_all.Given as goal

-- those that are settled, and then those that are left, are all
abbrev pub invariant-loop-neighbor : goal.invariant-loop-neighbor
invariant-loop-neighbor l = record {
  all : l.settled ++ map (settled_in l.peering) l.neighbor-iterator ≡ map (settled_in l.peering) l.neighbors;
  in_order : IsByNumber address_of (l.settled ++ map (settled_in l.peering) l.neighbor-iterator);
}
