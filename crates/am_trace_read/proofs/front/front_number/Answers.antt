use Rattle.std.proofs.Common.{◌≡◌, ◌<◌, ◌+◌, ◌*◌, get_or, sym, ◌∙◌, subst, arith}
use Rattle.am_trace_read.proofs.Fronts.{AreDigits, number_there, one_digit_more, stays_small}
use Rattle.am_trace_read.proofs.front.front_number.Goals.{else-text-eq48-via-then-text-eq48+else-end-gt1}
use Rattle.am_trace_read.proofs.front.front_number.Goals.{else-text-eq48-via-else-text-eq48}
use Rattle.am_trace_read.proofs.front.front_number.Goals as goal

pub overflow_mul-number : goal.overflow_mul-number
overflow_mul-number c =
    let small = stays_small c.args.text.now c.digits.end c.digits.number c.digits-test.true c.if-end-lt-SHORT.true
    (sym c.is_ascii_digit.ensures.value ∙ c.if-is_ascii_digit.true) c.digits.invariant.read in
    record { fits = omega (arith, small) }

pub overflow_add-number : goal.overflow_add-number
overflow_add-number c =
    let small = stays_small c.args.text.now c.digits.end c.digits.number c.digits-test.true c.if-end-lt-SHORT.true
    (sym c.is_ascii_digit.ensures.value ∙ c.if-is_ascii_digit.true) c.digits.invariant.read in
    record { fits = omega (arith, small, c.from.ensures) }

pub digits-preserved : goal.digits-preserved
digits-preserved c =
    let more = one_digit_more c.args.text.now c.digits.end c.digits.number c.digits-test.true c.if-end-lt-SHORT.true
    (sym c.is_ascii_digit.ensures.value ∙ c.if-is_ascii_digit.true) c.digits.invariant.read in
    record {
      read = subst (λ n. AreDigits c.args.text.now (c.digits.end + 1) (10 * c.digits.number + n)) (sym c.from.ensures)
          more;
      within = omega arith;
      few = omega arith;
    }

pub returns : goal.returns
returns c =
    let k = c.words_are_fields.ensures in
    let first : get_or c.args.text.now 0 0 ≡ 48 → 1 < c.digits.end → ⊥ = λ zero more.
    elim c.else-text-eq48.branch [
      | else-text-eq48-via-then-text-eq48+else-end-gt1 w ↦ omega (arith, w.if-end-gt1.false, more)
      | else-text-eq48-via-else-text-eq48 w ↦ w.if-text-eq48.false zero
    ] in
    number_there (record { number = k.number; decimal = k.decimal }) c.args.text.now c.digits.end c.digits.number
    (omega arith) c.digits.invariant.within c.digits.invariant.few first c.digits.invariant.read
