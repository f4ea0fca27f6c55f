use Rattle.std.proofs.Common.{◌≡◌, ◌++◌, drop}
use Rattle.std.specs.List.{filter_map}
use Rattle.rc_bgp.specs.Originating.{by_network, paths_for}
use Rattle.rc_bgp.proofs.originating.paths_for.Given as goal

abbrev pub invariant-loop-prefix : goal.invariant-loop-prefix
invariant-loop-prefix l = record {
  made : l.paths ++ filter_map (by_network l.router l.table) (drop l.prefix-index l.prefixes) ≡ paths_for l.router l.table l.prefixes;
  finder : l.finder ≡ l.table;
}
