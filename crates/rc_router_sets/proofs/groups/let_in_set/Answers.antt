use Rattle.std.proofs.Common.{sym}
use Rattle.rc_config.specs.declared.interface.Direction.TheVariants.{In}
use Rattle.rc_router_sets.proofs.GroupLaws.{everything, in_own, in_entering}
use Rattle.rc_router_sets.proofs.JoinLaws.{known_like, may_like}
use Rattle.rc_router_sets.specs.Sent.{let_in, passing_at}
use Rattle.rc_router_sets.proofs.groups.let_in_set.Goals as goal

pub interface_group_set-requires-clause-may : goal.interface_group_set-requires-clause-may
interface_group_set-requires-clause-may g c = may_like c.args.nodes.now.may (let_in c.args.net.now c.args.position.now) (passing_at c.args.net.now In c.in-Entering.interface) (sym (in_entering c.args.net.now c.args.position.now c.in-Entering.interface c.in-Entering.is)) c.requires.may

pub returns-in-Own-clause-set : goal.returns-in-Own-clause-set
returns-in-Own-clause-set g c = everything c.args.work.now (let_in c.args.net.now c.args.position.now) (in_own c.args.net.now c.args.position.now c.in-Own.field-0 c.in-Own.is)

pub returns-in-Entering-clause-set : goal.returns-in-Entering-clause-set
returns-in-Entering-clause-set g c = known_like c.interface_group_set.new.work c.interface_group_set.result (passing_at c.args.net.now In c.in-Entering.interface) (let_in c.args.net.now c.args.position.now) (in_entering c.args.net.now c.args.position.now c.in-Entering.interface c.in-Entering.is) c.interface_group_set.ensures.set
