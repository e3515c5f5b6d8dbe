use Rattle.std.proofs.Common.{arith}
use Rattle.am_line_text.proofs.Numerals.{next_digit, stays_short}
use Rattle.am_line_text.proofs.number.short_number.Goals as goal

pub overflow_mul-number : goal.overflow_mul-number
overflow_mul-number c =
    let ds = c.args.digits.now in
    let i = c.loop-digit.digit-index in
    let next = next_digit ds i c.requires.digits c.requires.few c.loop-digit-test.true in
    let short = stays_short ds i c.requires.digits c.requires.few c.loop-digit-test.true in
    grind (arith, next, short, c.loop-digit.invariant)

pub overflow_add-number : goal.overflow_add-number
overflow_add-number c =
    let ds = c.args.digits.now in
    let i = c.loop-digit.digit-index in
    let next = next_digit ds i c.requires.digits c.requires.few c.loop-digit-test.true in
    let short = stays_short ds i c.requires.digits c.requires.few c.loop-digit-test.true in
    grind (arith, next, short, c.loop-digit.invariant, c.from.ensures)

pub loop-digit-preserved : goal.loop-digit-preserved
loop-digit-preserved c =
    let ds = c.args.digits.now in
    let i = c.loop-digit.digit-index in
    let next = next_digit ds i c.requires.digits c.requires.few c.loop-digit-test.true in
    grind (arith, next, c.loop-digit.invariant, c.from.ensures)
