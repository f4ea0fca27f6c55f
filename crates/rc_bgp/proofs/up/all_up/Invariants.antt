use Rattle.std.proofs.Common.{◌≡◌, ◌++◌, drop}
use Rattle.std.specs.List.{filter, flat_map}
use Rattle.rc_bgp.specs.Sessions.{is_up}
use Rattle.rc_bgp.proofs.up.all_up.Given as goal

abbrev pub invariant-loop-sessions : goal.invariant-loop-sessions
invariant-loop-sessions l = l.up ++ flat_map (filter (is_up l.state)) (drop l.sessions-index l.configured) ≡ flat_map (filter (is_up l.state)) l.configured
