-- The numbers of statuses. Nothing is decided by them.
use Rattle.std.specs.Prelude.{ℕ}
use Rattle.rc_writing.specs.declared.status.Status.{Status}
use Rattle.rc_writing.specs.declared.status.Status.TheVariants.{Done, Refused, Usage, Repeats, Limit, Nodes, Source, Sink, Memory, NoPlace}

-- the number of a status, with which the program ends
abbrev pub status_code : Status → ℕ
status_code Done = 0
status_code Refused = 1
status_code Usage = 2
status_code Repeats = 3
status_code Limit = 4
status_code Nodes = 5
status_code Source = 6
status_code Sink = 7
status_code Memory = 8
status_code NoPlace = 9
