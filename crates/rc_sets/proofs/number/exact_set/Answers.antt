use Rattle.std.proofs.Common.{sym, subst}
use Rattle.rc_trees.specs.Trees.{HasNodesOf}
use Rattle.rc_nodes.specs.Seats.{SeatKnows}
use Rattle.rc_sets.proofs.LineLaws.{is_exact}
use Rattle.rc_sets.proofs.number.exact_set.Goals as goal

pub masked_set-requires-clause-may : goal.masked_set-requires-clause-may
masked_set-requires-clause-may g c = subst (HasNodesOf c.args.nodes.now.may) (sym (is_exact c.args.last c.args.count c.args.number c.requires.fits)) c.requires.may

pub returns-in-Ok-clause-set : goal.returns-in-Ok-clause-set
returns-in-Ok-clause-set g c = subst (SeatKnows c.masked_set.new.work c.in-Ok.set.index) (is_exact c.args.last c.args.count c.args.number c.requires.fits) c.in-Ok.ensures.set
