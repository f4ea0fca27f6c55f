use Rattle.rc_sets.proofs.LineLaws.{permit_may, deny_may}
use Rattle.rc_sets.proofs.access_list.with_line.Goals as goal

pub or-requires-clause-may : goal.or-requires-clause-may
or-requires-clause-may g c = permit_may c.args.nodes.now c.args.work.now c.args.action c.args.matched.index c.args.set.index c.in-Permit.is c.requires.may

pub minus-requires-clause-may : goal.minus-requires-clause-may
minus-requires-clause-may g c = deny_may c.args.nodes.now c.args.work.now c.args.action c.args.matched.index c.args.set.index c.in-Deny.is c.requires.may
