use Rattle.std.proofs.Common.{◌≡◌, drop, None}
use Rattle.std.specs.List.{fold}
use Rattle.std.specs.Option.{option_map}
use Rattle.rc_external.specs.ByPrefix.{as_way, then_to}
use Rattle.rc_external.proofs.way.best_external_way.Given as goal

abbrev pub invariant-loop-external : goal.invariant-loop-external
invariant-loop-external l = fold (then_to l.paths) (option_map as_way l.best) (drop l.external-index l.externals) ≡ fold (then_to l.paths) None l.externals
