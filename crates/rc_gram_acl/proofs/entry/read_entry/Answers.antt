use Rattle.std.proofs.Common.{sym, subst}
use Rattle.rc_config.specs.AccessList.{IsLawfulLine}
use Rattle.rc_gram_acl.specs.Lines.{line_with}
use Rattle.rc_gram_acl.proofs.entry.read_entry.Goals as goal

pub returns-in-Some-clause-lawful : goal.returns-in-Some-clause-lawful
returns-in-Some-clause-lawful c n action sequence = subst (λ kind. IsLawfulLine kind (line_with n action c.in-Some.tests)) (sym c.in-Standard.is) (c.in-Some.ensures.lawful n action sequence)

pub returns-in-Some-extended-clause-lawful : goal.returns-in-Some-extended-clause-lawful
returns-in-Some-extended-clause-lawful c n action sequence = subst (λ kind. IsLawfulLine kind (line_with n action c.in-Some-extended.tests)) (sym c.in-Extended.is) (c.in-Some-extended.ensures.lawful n action sequence)
