use Rattle.std.proofs.Common.{◌≡◌, ◌++◌, drop}
use Rattle.std.specs.List.{flat_map}
use Rattle.rc_link_state.specs.Split.{steps_from}
use Rattle.rc_link_state.proofs.parts.add_listed.Given as goal

abbrev pub invariant-loop-i : goal.invariant-loop-i
invariant-loop-i l =
    l.listed ++ flat_map (steps_from l.links l.has_network l.members l.rest) (drop l.i-index l.members) ≡ l.initial.listed ++ flat_map (steps_from l.links l.has_network l.members l.rest) l.members
