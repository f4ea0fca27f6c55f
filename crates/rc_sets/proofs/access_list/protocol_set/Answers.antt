use Rattle.std.proofs.Common.{sym, subst}
use Rattle.rc_base.specs.Header.{last_bit}
use Rattle.rc_base.specs.declared.field.Field.TheVariants.{Proto}
use Rattle.rc_trees.specs.Fields.{exact}
use Rattle.rc_trees.specs.Trees.{HasNodesOf}
use Rattle.rc_sets.proofs.LineLaws.{protocol_may, any_protocol}
use Rattle.rc_sets.proofs.access_list.protocol_set.Goals as goal

pub exact_set-requires-clause-may : goal.exact_set-requires-clause-may
exact_set-requires-clause-may g c = subst (λ n. HasNodesOf c.args.nodes.now.may (exact (last_bit Proto) 8 n)) (sym c.from.ensures) (protocol_may c.args.nodes.now.may c.args.test c.in-Is.number c.in-Is.is c.requires.may)

pub returns-in-Any-clause-set : goal.returns-in-Any-clause-set
returns-in-Any-clause-set g c = any_protocol c.args.work.now c.args.test c.in-Any.is
