use Rattle.std.proofs.Common.{◌∙◌, sym}
use Rattle.rc_network.proofs.BuildLaws.{added-by}
use Rattle.rc_network.proofs.building.Gathered.put_model.Goals as goal

pub returns-clause-adds : goal.returns-clause-adds
returns-clause-adds c =
    added-by c.put_router.result c.args.self.now c.note_undefined.new.self c.put_router.new.routers c.args.file c.args.model c.host_of-host.result c.host_of-host.ensures
    (sym c.has.ensures ∙ c.if-has.false) c.note_undefined.ensures c.put_router.ensures.put c.put_router.ensures.memory
