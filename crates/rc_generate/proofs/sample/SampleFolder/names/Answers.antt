use Rattle.std.proofs.Common.{◌∙◌, sym}
use Rattle.rc_generate.proofs.FileLaws.{listed, unlisted}
use Rattle.rc_generate.proofs.sample.SampleFolder.names.Goals as goal

pub returns-in-Ok-clause-names : goal.returns-in-Ok-clause-names
returns-in-Ok-clause-names c = listed c.args.self.now.routers c.args.dir.now (sym c.is_empty.ensures ∙ c.if-is_empty.true) c.from_vec.result (c.from_vec.ensures ∙ c.in-Ok.ensures)

pub returns-clause-names : goal.returns-clause-names
returns-clause-names c = unlisted c.args.self.now.routers c.args.dir.now (sym c.is_empty.ensures ∙ c.if-is_empty.false) c.new.result c.new.ensures
