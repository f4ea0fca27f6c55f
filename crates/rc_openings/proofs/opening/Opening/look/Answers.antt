use Rattle.std.proofs.Common.{sym, ◌∙◌}
use Rattle.rc_openings.proofs.PartLemmas.{begins, differs, glance_is}
use Rattle.rc_openings.proofs.opening.Opening.look.Goals as goal

pub returns-clause-begins : goal.returns-clause-begins
returns-clause-begins c = λ h. begins c.args.self.now.text.now c.args.line.now (glance_is 32 c.args.self.now.text.now c.args.line.now ∙ sym c.compared.ensures ∙ h)

pub returns-clause-differs : goal.returns-clause-differs
returns-clause-differs c = λ h. differs c.args.self.now.text.now c.args.line.now (glance_is 32 c.args.self.now.text.now c.args.line.now ∙ sym c.compared.ensures ∙ h)
