use Rattle.rc_network.proofs.BuildLaws.{lawful-finished}
use Rattle.rc_network.proofs.building.build.Goals as goal

pub returns-in-Ok-clause-lawful : goal.returns-in-Ok-clause-lawful
returns-in-Ok-clause-lawful c = lawful-finished c.in-Ok.field-0 c.args.models.items c.put_models.new.self c.finished.result c.requires.few c.requires.lawful c.in-Ok.ensures c.finished.ensures.finished
