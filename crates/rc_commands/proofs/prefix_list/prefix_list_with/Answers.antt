use Rattle.rc_commands.proofs.PolicyLaws.{list-lawful}
use Rattle.rc_commands.proofs.prefix_list.prefix_list_with.Goals as goal

pub returns-clause-lawful : goal.returns-clause-lawful
returns-clause-lawful c = list-lawful _ c.args.list c.args.line c.placed.ensures.value
