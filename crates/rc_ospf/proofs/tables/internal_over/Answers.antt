use Rattle.std.proofs.Common.{sym, subst}
use Rattle.rc_ospf.specs.Stays.{StayFrom}
use Rattle.rc_ospf.proofs.tables.internal_over.Goals as goal

pub members-requires : goal.members-requires
members-requires g c = subst (StayFrom c.args.walks.now 0) (sym c.requires.areas) c.requires.walks.stay
