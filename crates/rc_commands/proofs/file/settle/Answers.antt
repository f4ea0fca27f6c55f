use Rattle.rc_commands.proofs.LawfulLaws.{put-settled}
use Rattle.rc_commands.proofs.file.settle.Goals as goal

pub returns-clause-lawful : goal.returns-clause-lawful
returns-clause-lawful c = put-settled _ c.args.file.now c.settle_bgp.new.file c.settle_bgp.ensures
