use Rattle.std.proofs.Common.{refl, sym, subst}
use Rattle.rc_base.specs.Header.{last_bit}
use Rattle.rc_base.specs.declared.field.Field.TheVariants.{IcmpType}
use Rattle.rc_config.specs.declared.access_list.FurtherTest.TheVariants.{Any, Established}
use Rattle.rc_trees.specs.Fields.{exact}
use Rattle.rc_trees.specs.Trees.{HasNodesOf}
use Rattle.rc_sets.specs.AccessLists.{type_set}
use Rattle.rc_sets.proofs.LineLaws.{type_may, untested}
use Rattle.rc_sets.proofs.further.type_set.Goals as goal

pub exact_set-requires-clause-may : goal.exact_set-requires-clause-may
exact_set-requires-clause-may g c = subst (λ n. HasNodesOf c.args.nodes.now.may (exact (last_bit IcmpType) 8 n)) (sym c.from.ensures) (type_may c.args.nodes.now.may c.args.test c.in-Icmp.icmp_type _ c.in-Icmp.is c.requires.may)

pub returns-in-Any-clause-set : goal.returns-in-Any-clause-set
returns-in-Any-clause-set g c = untested c.args.work.now type_set c.args.test Any c.in-Any.is refl

pub returns-in-Established-clause-set : goal.returns-in-Established-clause-set
returns-in-Established-clause-set g c = untested c.args.work.now type_set c.args.test Established c.in-Established.is refl
