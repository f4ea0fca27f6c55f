use Rattle.rc_router_sets.proofs.GroupLaws.{everything, no_line}
use Rattle.rc_sets.specs.AccessLists.{group_set}
use Rattle.rc_router_sets.proofs.groups.list_set.Goals as goal

pub returns-then-is_empty-clause-set : goal.returns-then-is_empty-clause-set
returns-then-is_empty-clause-set g c = everything c.args.work.now (group_set c.args.list.now.lines) (no_line c.args.list.now.lines (c.is_empty.ensures.0 c.if-is_empty.true))
