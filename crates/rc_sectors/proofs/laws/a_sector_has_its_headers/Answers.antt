use Rattle.rc_sectors.proofs.SectorLaws.{within-value}
use Rattle.rc_sectors.proofs.laws.a_sector_has_its_headers.Goals as goal

pub returns : goal.returns
returns c = within-value
