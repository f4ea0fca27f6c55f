use Rattle.rc_loading.proofs.OneNet as law
use Rattle.rc_loading.proofs.loading.one_net.Goals as goal

pub returns : goal.returns
returns c = law.one_net
