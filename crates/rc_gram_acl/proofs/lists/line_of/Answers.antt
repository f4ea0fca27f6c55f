use Rattle.std.proofs.Common.{sym, subst}
use Rattle.rc_config.specs.AccessList.{IsLawfulLine}
use Rattle.rc_gram_acl.proofs.lists.line_of.Goals as goal

pub returns-in-Some-clause-in_range : goal.returns-in-Some-clause-in_range
returns-in-Some-clause-in_range c = subst (IsLawfulLine c.args.kind) (sym c.line.ensures) (c.in-Ok.ensures.lawful _ _ c.in-Some.ensures.within)
