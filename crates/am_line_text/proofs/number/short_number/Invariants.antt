use Rattle.std.proofs.Common.{◌≡◌, take}
use Rattle.am_line_text.specs.Numbers.{numeral_value}
use Rattle.am_line_text.proofs.number.short_number.Given as goal

abbrev pub invariant-loop-digit : goal.invariant-loop-digit
invariant-loop-digit l = l.number ≡ numeral_value (take l.digit-index l.digits)
