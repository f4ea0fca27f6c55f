use Rattle.rc_commands.proofs.PolicyLaws.{map-opened}
use Rattle.rc_commands.proofs.route_map.route_map_opened.Goals as goal

pub returns-clause-lawful : goal.returns-clause-lawful
returns-clause-lawful c = map-opened _ c.args.map c.args.number c.args.action c.with_opened.ensures
