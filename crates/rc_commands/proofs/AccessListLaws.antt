-- Access lists that stay lawful.
use Rattle.rc_config.specs.declared.access_list.AccessList.{AccessList}
use Rattle.rc_config.specs.declared.access_list.AccessListLine.{AccessListLine}
use Rattle.rc_config.specs.AccessList.{sequence_of, with_line, IsLawfulLine, IsLawfulAccessList}
use Rattle.rc_commands.proofs.PlacedLaws.{placed-All, placed_in_order}

pub placed_lawful : (f : AccessList) (l : AccessListLine) → IsLawfulAccessList f → IsLawfulLine f.kind l → IsLawfulAccessList (with_line f l)
placed_lawful f l h line = record { in_order = placed_in_order sequence_of l f.lines h.in_order; lines = placed-All sequence_of (IsLawfulLine f.kind) l f.lines line h.lines }
