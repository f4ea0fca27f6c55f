use Rattle.std.proofs.Common.{◌≡◌, drop, map}
use Rattle.std.specs.List.{fold}
use Rattle.std.specs.BTreeSet.{keys, insert_key}
use Rattle.std.specs.Ordering.{nat_cmp}
use Rattle.rc_base.specs.Lists.{in_order}
use Rattle.rc_link_state.specs.Asked.{end_area}
use Rattle.rc_link_state.proofs.areas.areas_of_ends.Given as goal

abbrev pub invariant-loop-end : goal.invariant-loop-end
invariant-loop-end l = fold (insert_key nat_cmp) (keys l.areas) (map end_area (drop l.end-index l.ends)) ≡ in_order nat_cmp (map end_area l.ends)
