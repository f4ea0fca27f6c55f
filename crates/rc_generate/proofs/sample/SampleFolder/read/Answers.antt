use Rattle.std.proofs.Common.{◌+◌, ◌∙◌, ap}
use Rattle.rc_generate.specs.Names.{number_in}
use Rattle.rc_generate.proofs.FileLaws.{number_below, read_front}
use Rattle.rc_generate.proofs.sample.SampleFolder.read.Goals as goal

pub configuration-requires-clause-some : goal.configuration-requires-clause-some
configuration-requires-clause-some c =
    number_below c.args.self.now.routers c.args._dir.now c.args.name.now c.args.self.now.few c.requires.there c.number_in.result (c.number_in.ensures ∙ ap number_in c.as_bytes.ensures.value)

pub returns-in-Ok-clause-bytes : goal.returns-in-Ok-clause-bytes
returns-in-Ok-clause-bytes c =
    read_front c.args.self.now.routers c.args._dir.now c.args.name.now c.args.self.now.few c.requires.there c.number_in.result (c.number_in.ensures ∙ ap number_in c.as_bytes.ensures.value) c.front_of.result.items c.in-Ok.text.items (c.args.most + 1) c.in-Ok.ensures c.front_of.ensures
