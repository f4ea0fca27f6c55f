use Rattle.std.proofs.Common.{refl}
use Rattle.rc_config.specs.declared.access_list.FurtherTest.TheVariants.{Any}
use Rattle.rc_sets.specs.AccessLists.{flag_set}
use Rattle.rc_sets.proofs.LineLaws.{flags_may, untested}
use Rattle.rc_sets.proofs.further.flag_set.Goals as goal

pub established-requires-clause-may : goal.established-requires-clause-may
established-requires-clause-may g c = flags_may c.args.nodes.now.may c.args.test c.in-Established.is c.requires.may

pub returns-in-Any-clause-set : goal.returns-in-Any-clause-set
returns-in-Any-clause-set g c = untested c.args.work.now flag_set c.args.test Any c.in-Any.is refl

pub returns-in-Icmp-clause-set : goal.returns-in-Icmp-clause-set
returns-in-Icmp-clause-set g c = untested c.args.work.now flag_set c.args.test _ c.in-Icmp.is refl
