use Rattle.std.proofs.Common.{sym, subst}
use Rattle.rc_base.specs.Header.{last_bit}
use Rattle.rc_base.specs.declared.field.Field.TheVariants.{IcmpCode}
use Rattle.rc_trees.specs.Fields.{exact}
use Rattle.rc_trees.specs.Trees.{HasNodesOf}
use Rattle.rc_sets.proofs.LineLaws.{any_code, code_may}
use Rattle.rc_sets.proofs.further.code_of.Goals as goal

pub exact_set-requires-clause-may : goal.exact_set-requires-clause-may
exact_set-requires-clause-may g c = subst (λ n. HasNodesOf c.args.nodes.now.may (exact (last_bit IcmpCode) 8 n)) (sym c.from.ensures) (code_may c.args.nodes.now.may c.args.code c.in-Some.number c.in-Some.is c.requires.may)

pub returns-in-None-clause-set : goal.returns-in-None-clause-set
returns-in-None-clause-set g c = any_code c.args.work.now c.args.code c.in-None.is
