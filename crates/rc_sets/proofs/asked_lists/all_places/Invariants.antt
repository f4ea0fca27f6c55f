use Rattle.std.proofs.Common.{◌≡◌, ◌++◌, ◌-◌, Some, length, map}
use Rattle.std.specs.List.{flat_map, range_with_len}
use Rattle.rc_sets.specs.AskedLists.{list_at}
use Rattle.rc_sets.specs.LinesQuery.{access_lists_at}
use Rattle.rc_sets.proofs.asked_lists.all_places.Given as goal

-- the lists so far, and then those of the routers that are left, are all of them
abbrev pub invariant-loop-router : goal.invariant-loop-router
invariant-loop-router l =
    map (list_at l.network) l.places.items ++ map Some (flat_map (access_lists_at l.network) (range_with_len l.router (length l.network.routers - l.router)))
    ≡ map Some (flat_map (access_lists_at l.network) (range_with_len 0 (length l.network.routers)))
