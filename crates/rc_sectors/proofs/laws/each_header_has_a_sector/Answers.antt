use Rattle.rc_sectors.proofs.PartingLaws.{each_has}
use Rattle.rc_sectors.proofs.laws.each_header_has_a_sector.Goals as goal

pub returns : goal.returns
returns c = each_has
