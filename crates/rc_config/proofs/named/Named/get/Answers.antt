use Rattle.std.proofs.Common.{sym, ◌∙◌}
use Rattle.rc_config.proofs.NamedLaws.{value_there, none_there}
use Rattle.rc_config.proofs.named.Named.get.Goals as goal

pub returns-in-Some : goal.returns-in-Some
returns-in-Some g c = c.value_at.ensures ∙ value_there c.args.self.now c.args.name.now c.in-Some.place (sym c.in-Some.ensures)

pub returns-in-None : goal.returns-in-None
returns-in-None g c = sym (none_there c.args.self.now c.args.name.now (sym c.in-None.ensures))
