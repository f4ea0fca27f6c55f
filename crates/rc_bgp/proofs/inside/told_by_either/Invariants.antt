use Rattle.std.proofs.Common.{◌≡◌, ◌++◌, drop}
use Rattle.std.specs.List.{filter}
use Rattle.rc_bgp.specs.Changes.{is_told_by_either}
use Rattle.rc_bgp.proofs.inside.told_by_either.Given as goal

abbrev pub invariant-loop-prefix : goal.invariant-loop-prefix
invariant-loop-prefix l = record {
  kept : l.told ++ filter (is_told_by_either l.old l.new) (drop l.prefix-index l.prefixes) ≡ filter (is_told_by_either l.old l.new) l.prefixes;
  before : l.before ≡ l.old;
  after : l.after ≡ l.new;
}
