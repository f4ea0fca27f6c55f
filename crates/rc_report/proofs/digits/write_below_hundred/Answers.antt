use Rattle.std.proofs.Common.{take}
use Rattle.rc_report.proofs.DigitLaws.{one_digit, two_digits}
use Rattle.rc_report.proofs.digits.write_below_hundred.Goals as goal

pub returns-then-number-lt10-clause-text : goal.returns-then-number-lt10-clause-text
returns-then-number-lt10-clause-text c = one_digit c.args.number (take c.args.at c.args.bytes.now) _ c.if-number-lt10.true c.write_digit.ensures.text

pub returns-clause-text : goal.returns-clause-text
returns-clause-text c = two_digits c.args.number (take c.args.at c.args.bytes.now) _ _ c.if-number-lt10.false c.requires.small c.write_digit-last.ensures.text c.write_digit-2.ensures.text
