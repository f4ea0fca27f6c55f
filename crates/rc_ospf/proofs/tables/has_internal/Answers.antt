use Rattle.rc_ospf.proofs.Existence.{has_internal}
use Rattle.rc_ospf.proofs.tables.has_internal.Goals as goal

pub returns : goal.returns
returns c = has_internal
