use Rattle.rc_lines.proofs.ShortLaws as law
use Rattle.rc_lines.proofs.banner.short_banners.Goals as goal

pub returns : goal.returns
returns c = law.short_banners
