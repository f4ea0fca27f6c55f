use Rattle.std.proofs.Common.{◌≡◌, drop}
use Rattle.std.specs.List.{fold}
use Rattle.rc_base.specs.Groups.{with_thing, grouped}
use Rattle.rc_external.specs.ByPrefix.{with_external}
use Rattle.rc_external.specs.Externals.{prefix_of}
use Rattle.rc_external.proofs.grouping.grouped_externals.Given as goal

abbrev pub invariant-loop-external : goal.invariant-loop-external
invariant-loop-external l = fold (with_thing prefix_of with_external) l.rows (drop l.external-index l.sent) ≡ grouped prefix_of with_external l.sent
