use Rattle.std.proofs.Common.{◌≡◌, length, filter, not}
use Rattle.rc_topology.specs.Links.{is_cut}
use Rattle.rc_topology.proofs.linked.LinkedIterator.next.Given as goal

-- the same interfaces are left
abbrev pub invariant-loop-first : goal.invariant-loop-first
invariant-loop-first l =
    filter (λ j. not (is_cut l.self-inside.links.now l.self-inside.interface j)) l.self-inside.left ≡ filter (λ j. not (is_cut l.initial.self-inside.links.now l.initial.self-inside.interface j)) l.initial.self-inside.left

abbrev pub decreases-loop-first : goal.decreases-loop-first
decreases-loop-first l = length l.self-inside.left
