use Rattle.std.proofs.Common.{◌≡◌, drop}
use Rattle.std.specs.List.{flat_map, list_any}
use Rattle.rc_reads.specs.Reads.{addresses_of_entry, names_address}
use Rattle.rc_reads.proofs.reading.names_some.Given as goal

-- none so far is named
abbrev pub invariant-loop-index : goal.invariant-loop-index
invariant-loop-index l = list_any (names_address l.net l.router) (flat_map addresses_of_entry l.interfaces) ≡ list_any (names_address l.net l.router) (flat_map addresses_of_entry (drop l.index l.interfaces))
