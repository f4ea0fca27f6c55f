use Rattle.std.proofs.Common.{◌∙◌, ap}
use Rattle.rc_network.specs.Files.{model_of}
use Rattle.rc_loading.proofs.FileFronts.{said_of}
use Rattle.rc_loading.proofs.loading.read_model.Goals as goal

pub returns-in-Ok-parsed-clause-model : goal.returns-in-Ok-parsed-clause-model
returns-in-Ok-parsed-clause-model g c = said_of (g.F.Folder.told c.args.folder.now) c.args.dir.now c.args.name.now c.in-Ok.bytes.items _ (c.in-Ok-parsed.ensures.model ∙ ap (model_of c.args.name.now) c.as_slice.ensures.value) c.in-Ok.ensures.bytes
