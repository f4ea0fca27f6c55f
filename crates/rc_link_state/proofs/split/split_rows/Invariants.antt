use Rattle.std.proofs.Common.{◌≡◌, ◌++◌}
use Rattle.std.specs.List.{flat_map}
use Rattle.rc_link_state.specs.Split.{listed_row, networks_row}
use Rattle.rc_link_state.proofs.split.split_rows.Given as goal

abbrev pub invariant-loop-segment : goal.invariant-loop-segment
invariant-loop-segment l = record {
  steps : l.made.listed ++ flat_map (listed_row l.links) l.segment-iterator ≡ flat_map (listed_row l.links) l.fn.rows.entries;
  networks : l.made.transits ++ flat_map (networks_row l.links) l.segment-iterator ≡ flat_map (networks_row l.links) l.fn.rows.entries;
}
