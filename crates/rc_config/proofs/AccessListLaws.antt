-- An access list without lines is lawful.
use Rattle.std.proofs.Common.{arith}
use Rattle.std.proofs.lemmas.List.Elements.{All-nil}
use Rattle.rc_config.specs.declared.access_list.AccessListKind.{AccessListKind}
use Rattle.rc_config.specs.AccessList.{no_lines, IsLawfulLine, IsLawfulAccessList}

pub no_lines_lawful : (kind : AccessListKind) → IsLawfulAccessList (no_lines kind)
no_lines_lawful kind = record { in_order = λ i j d less within. absurd (omega arith); lines = All-nil (IsLawfulLine kind) }
