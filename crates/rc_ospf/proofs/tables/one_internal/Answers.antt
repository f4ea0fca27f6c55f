use Rattle.rc_ospf.proofs.OneAnswer.{one_internal}
use Rattle.rc_ospf.proofs.tables.one_internal.Goals as goal

pub returns : goal.returns
returns c = one_internal
