use Rattle.std.proofs.Common.{◌≡◌, length, filter}
use Rattle.rc_topology.specs.Links.{are_linked}
use Rattle.rc_topology.proofs.takers.TakersIterator.next.Given as goal

-- the same takers are left
abbrev pub invariant-loop-self : goal.invariant-loop-self
invariant-loop-self l =
    filter (are_linked l.self-inside.links.now l.self-inside.interface) l.self-inside.left.now ≡ filter (are_linked l.initial.self-inside.links.now l.initial.self-inside.interface) l.initial.self-inside.left.now

abbrev pub decreases-loop-self : goal.decreases-loop-self
decreases-loop-self l = length l.self-inside.left.now
