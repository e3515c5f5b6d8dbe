use Rattle.std.proofs.Common.{refl}
use Rattle.am_trace_text.proofs.DigitTable.{digit_numbers, some_digit, no_digit}
use Rattle.am_trace_text.proofs.digits.digit_of.Goals as goal

pub returns-then-number-lt16 : goal.returns-then-number-lt16
returns-then-number-lt16 c = some_digit digit_numbers _ c.args.byte refl c.ranges.byte.fits c.if-number-lt16.true

pub returns-else-number-lt16 : goal.returns-else-number-lt16
returns-else-number-lt16 c = no_digit digit_numbers _ c.args.byte refl c.ranges.byte.fits c.if-number-lt16.false
