use Rattle.std.proofs.Common.{◌≡◌}
use Rattle.rc_base.specs.Index.{index_of}
use Rattle.rc_rib.specs.Offers.{ids_before, prefixes_of_id}
use Rattle.rc_rib.proofs.connected_routes.index_of.Given as goal

-- the interfaces before the number stand in the index
abbrev pub invariant-loop-number : goal.invariant-loop-number
invariant-loop-number l = l.index ≡ index_of (prefixes_of_id l.file.interfaces) (ids_before l.router l.number)
