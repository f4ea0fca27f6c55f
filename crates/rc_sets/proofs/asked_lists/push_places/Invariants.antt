use Rattle.std.proofs.Common.{◌≡◌, ◌++◌, Some, map, take}
use Rattle.rc_sets.specs.AskedLists.{list_at}
use Rattle.rc_sets.specs.LinesQuery.{access_lists_at}
use Rattle.rc_sets.proofs.asked_lists.push_places.Given as goal

abbrev pub invariant-loop-list : goal.invariant-loop-list
invariant-loop-list l = map (list_at l.network) l.places.items ≡ map (list_at l.network) l.fn.places.items ++ map Some (take l.list (access_lists_at l.network l.router))
