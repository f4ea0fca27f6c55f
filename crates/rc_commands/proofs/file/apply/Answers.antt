use Rattle.rc_commands.proofs.LawfulLaws.{put-lawful, put-routes, put-lists, put-ospf, put-bgp}
use Rattle.rc_commands.proofs.file.apply.Goals as goal

pub returns-clause-lawful : goal.returns-clause-lawful
returns-clause-lawful c = put-lawful _ c.args.file.now c.put_into.new.file c.args.command c.put_into.ensures

pub returns-clause-routes : goal.returns-clause-routes
returns-clause-routes c = put-routes _ c.args.file.now c.put_into.new.file c.args.command c.put_into.ensures

pub returns-clause-lists : goal.returns-clause-lists
returns-clause-lists c = put-lists _ c.args.file.now c.put_into.new.file c.args.command c.put_into.ensures

pub returns-clause-ospf : goal.returns-clause-ospf
returns-clause-ospf c = put-ospf _ c.args.file.now c.put_into.new.file c.args.command c.put_into.ensures

pub returns-clause-bgp : goal.returns-clause-bgp
returns-clause-bgp c = put-bgp _ c.args.file.now c.put_into.new.file c.args.command c.put_into.ensures
