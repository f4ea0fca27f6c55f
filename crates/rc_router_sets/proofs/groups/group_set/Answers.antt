use Rattle.std.proofs.Common.{sym, ap, ◌∙◌}
use Rattle.std.specs.Option.{option_copied}
use Rattle.rc_router_sets.proofs.GroupLaws.{everything, no_group, no_list}
use Rattle.rc_sets.specs.AccessLists.{passing_set}
use Rattle.rc_router_sets.proofs.groups.group_set.Goals as goal

pub returns-in_default-clause-set : goal.returns-in_default-clause-set
returns-in_default-clause-set g c = everything c.args.work.now (passing_set c.args.lists.now (option_copied c.args.group)) (no_group c.args.lists.now (option_copied c.args.group) (ap option_copied c.in_default.is))

pub returns-in_default-get-clause-set : goal.returns-in_default-get-clause-set
returns-in_default-get-clause-set g c =
    everything c.args.work.now (passing_set c.args.lists.now (option_copied c.args.group))
    (no_list c.args.lists.now (option_copied c.args.group) c.in-Some.name.now (ap option_copied c.in-Some.is) (sym c.get.ensures ∙ ap option_copied c.in_default-get.is))
