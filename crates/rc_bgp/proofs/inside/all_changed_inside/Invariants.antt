use Rattle.std.proofs.Common.{◌≡◌, ◌++◌, ◌-◌, length, map}
use Rattle.std.specs.List.{range_with_len}
use Rattle.rc_bgp.specs.Changes.{changed_inside, changed_inside_at}
use Rattle.rc_bgp.proofs.inside.all_changed_inside.Given as goal

abbrev pub invariant-loop-index : goal.invariant-loop-index
invariant-loop-index l =
    l.inside ++ map (changed_inside_at l.sessions l.changes l.earlier l.previous) (range_with_len l.index (length l.changes - l.index)) ≡ changed_inside l.sessions l.changes l.earlier l.previous
