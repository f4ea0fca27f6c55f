use Rattle.std.proofs.Common.{◌≡◌}
use Rattle.std.specs.List.{find}
use Rattle.rc_policy.specs.Policy.{matches_entry}
use Rattle.rc_policy.proofs.route_maps.deciding.Given as goal

-- the entries that are left decide
abbrev pub invariant-loop-entry : goal.invariant-loop-entry
invariant-loop-entry l = find (matches_entry l.lists l.attrs) l.entry-iterator ≡ find (matches_entry l.lists l.attrs) l.map.entries
