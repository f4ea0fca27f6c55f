use Rattle.std.proofs.Common.{arith, take}
use Rattle.rc_report.proofs.DigitLaws.{last_digit}
use Rattle.rc_report.proofs.digits.write_number.Goals as goal

pub returns-clause-text : goal.returns-clause-text
returns-clause-text c = last_digit c.args.number (take c.args.at c.args.bytes.now) _ _ (omega arith) c.requires.small c.write_below_hundred-last.ensures.text c.write_digit.ensures.text
