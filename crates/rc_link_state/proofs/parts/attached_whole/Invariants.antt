use Rattle.std.proofs.Common.{◌≡◌, ◌++◌, drop, map, filter}
use Rattle.rc_link_state.specs.Whole.{attached_of, is_whole}
use Rattle.rc_link_state.proofs.parts.attached_whole.Given as goal

abbrev pub invariant-loop-interface : goal.invariant-loop-interface
invariant-loop-interface l = l.attached ++ map attached_of (filter (is_whole l.links) (drop l.interface-index l.members)) ≡ map attached_of (filter (is_whole l.links) l.members)
