use Rattle.rc_commands.proofs.PolicyLaws.{map-lined}
use Rattle.rc_commands.proofs.route_map.route_map_with.Goals as goal

pub returns-clause-lawful : goal.returns-clause-lawful
returns-clause-lawful c = map-lined _ c.args.map c.args.number c.args.line c.with_more.ensures
