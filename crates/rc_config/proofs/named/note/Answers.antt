use Rattle.rc_config.proofs.NamedLaws.{noted}
use Rattle.rc_config.proofs.named.note.Goals as goal

pub returns : goal.returns
returns c = (noted _ c.insert.result _ c.insert.ensures.updates c.insert.ensures.absent c.requires).0
