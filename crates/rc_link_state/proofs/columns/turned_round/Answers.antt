use Rattle.std.proofs.Common.{◌≡◌, length, arith}
use Rattle.rc_link_state.proofs.InwardLaws.{ends_are, are_ready}
use Rattle.rc_link_state.proofs.columns.turned_round.Goals as goal

pub groups_of-requires : goal.groups_of-requires
groups_of-requires c = ends_are c.args.routers c.args.steps.now c.args.networks.now c.requires.of c.requires.little c.in_ok-graph.graph c.in_ok-graph.ensures

pub returns-clause-ready : goal.returns-clause-ready
returns-clause-ready c =
    let len : length c.args.wanted.items ≡ c.args.routers = grind arith in
    are_ready c.args.routers c.args.steps.now c.args.networks.now c.requires.of c.requires.little c.in_ok-graph.graph c.in_ok-groups.groups c.args.wanted c.args.few c.requires.few c.in_ok-graph.ensures c.in_ok-groups.ensures len
