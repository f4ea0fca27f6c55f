use Rattle.std.proofs.Common.{◌≡◌, ◌++◌, drop}
use Rattle.std.specs.List.{flat_map}
use Rattle.rc_link_state.specs.Tables.{hops_over_place}
use Rattle.rc_link_state.proofs.table.AreaWalks.add_hops_over_all.Given as goal

abbrev pub invariant-loop-number : goal.invariant-loop-number
invariant-loop-number l = l.hops ++ flat_map (hops_over_place l.self l.from l.column l.cost) (drop l.number-index l.numbers) ≡ l.initial.hops ++ flat_map (hops_over_place l.self l.from l.column l.cost) l.numbers
