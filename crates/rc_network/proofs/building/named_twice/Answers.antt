use Rattle.rc_network.proofs.TwiceLaws as law
use Rattle.rc_network.proofs.building.named_twice.Goals as goal

pub returns : goal.returns
returns c = law.named_twice
