-- A prefix list without lines and a route map without entries are lawful.
use Rattle.std.proofs.Common.{arith}
use Rattle.std.proofs.lemmas.List.Elements.{All-nil}
use Rattle.rc_config.specs.PrefixList.{no_lines, IsLawfulLine, IsLawfulList}
use Rattle.rc_config.specs.RouteMap.{no_entries, IsLawfulEntry, IsLawfulMap}

pub no_lines_lawful : IsLawfulList no_lines
no_lines_lawful = record { in_order = λ i j d less within. absurd (omega arith); lines = All-nil IsLawfulLine }

pub no_entries_lawful : IsLawfulMap no_entries
no_entries_lawful = record { in_order = λ i j d less within. absurd (omega arith); entries = All-nil IsLawfulEntry }
