use Rattle.std.proofs.Common.{◌≡◌, length}
use Rattle.rc_config.specs.Members.{positions}
use Rattle.rc_edges.proofs.preparing.shares_of.Given as goal

abbrev pub invariant-loop-share : goal.invariant-loop-share
invariant-loop-share l = l.bounds.items ≡ length (positions l.places)
