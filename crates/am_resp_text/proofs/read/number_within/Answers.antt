use Rattle.std.proofs.Common.{◌≡◌, ◌<◌, ◌^◌, sym, ap, ◌∙◌, Some, None, Option, arith}
use Rattle.std.specs.Prelude.{IfNone}
use Rattle.am_resp_text.specs.Counts.{text_number}
use Rattle.am_resp_text.proofs.CountReadings.{text_number-numeral, text_number-some}
use Rattle.am_resp_text.proofs.read.number_within.Goals as goal

at_none : {A P : Type 0} (r : Option A) → P → IfNone r P
at_none None p = p
at_none (Some x) p = tt

pub returns-in_err-number-clause-none : goal.returns-in_err-number-clause-none
returns-in_err-number-clause-none c = at_none c.from_residual.result (λ n few is.
    let small : n < 2 ^ 64 = omega (arith, few, c.ranges.most.fits) in
    let read : None ≡ Some n = sym c.in_err-number.was ∙ c.number_of.ensures ∙ ap text_number is ∙
    text_number-numeral n small in
    cc)

pub returns-then-number-most-clause-none : goal.returns-then-number-most-clause-none
returns-then-number-most-clause-none c = λ n few is.
    let small : n < 2 ^ 64 = omega (arith, few, c.ranges.most.fits) in
    let read : Some c.in_ok-number.number ≡ Some n =
    sym c.in_ok-number.was ∙ c.number_of.ensures ∙ ap text_number is ∙ text_number-numeral n small in
    let same : c.in_ok-number.number ≡ n = cc in
    omega (arith, same, few, c.if-number-most.true)

pub returns-clause-some : goal.returns-clause-some
returns-clause-some c = (
  c.if-number-most.false,
  text_number-some c.args.digits.now c.in_ok-number.number
      (sym c.number_of.ensures ∙ c.in_ok-number.was),
)
