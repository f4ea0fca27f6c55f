use Rattle.rc_network.proofs.OneNetwork as law
use Rattle.rc_network.proofs.building.one_network.Goals as goal

pub returns : goal.returns
returns c = law.one_network
