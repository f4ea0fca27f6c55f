use Rattle.std.proofs.Common.{◌≡◌, ◌++◌, drop, map}
use Rattle.rc_link_state.specs.Kept.{area_of}
use Rattle.rc_link_state.proofs.table.numbers_of.Given as goal

abbrev pub invariant-loop-walks : goal.invariant-loop-walks
invariant-loop-walks l = l.numbers ++ map area_of (drop l.walks-index l.areas) ≡ map area_of l.areas
