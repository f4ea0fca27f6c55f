use Rattle.std.proofs.Common.{sym, ap, ◌∙◌}
use Rattle.std.specs.Option.{option_copied}
use Rattle.rc_router_sets.proofs.GroupLaws.{everything, no_interface, no_router, none_there, one_there}
use Rattle.rc_router_sets.proofs.JoinLaws.{known_like}
use Rattle.rc_sets.specs.AccessLists.{passing_set}
use Rattle.rc_router_sets.specs.Sent.{passing_at}
use Rattle.rc_router_sets.proofs.groups.interface_group_set.Goals as goal

pub returns-in_default-clause-set : goal.returns-in_default-clause-set
returns-in_default-clause-set g c =
    everything c.args.work.now (passing_at c.args.net.now c.args.direction c.args.interface.now)
    (no_router c.args.net.now c.args.direction c.args.interface.now (sym c.router_at.ensures ∙ ap option_copied c.in_default.is))

pub returns-in_default-at-clause-set : goal.returns-in_default-at-clause-set
returns-in_default-at-clause-set g c =
    everything c.args.work.now (passing_at c.args.net.now c.args.direction c.args.interface.now)
    (no_interface c.args.net.now c.args.direction c.args.interface.now (none_there c.args.net.now c.args.interface.now c.in-Some.router.now c.in-Some.ensures c.in_default-at.ensures))

pub returns-clause-set : goal.returns-clause-set
returns-clause-set g c =
    let net = c.args.net.now in
    let i = c.args.interface.now in
    let lists = c.in-Some.router.now.lists.access_lists in
    known_like c.group_set.new.work c.group_set.result (passing_set lists (option_copied c.group.result)) (passing_at net c.args.direction i)
    (one_there net c.args.direction i c.in-Some.router.now _ _ (option_copied c.group.result) c.in-Some.ensures c.in-Some-at.ensures c.group.ensures) c.group_set.ensures.set
