use Rattle.std.proofs.Common.{◌≡◌, ◌-◌, List, ℕ, ◌++◌, length, take, sym, ap, subst, ◌∙◌, arith}
use Rattle.std.proofs.lemmas.List.{length-append}
use Rattle.std.proofs.lemmas.Result.{err_from_is_err_and}
use Rattle.am_resp_text.specs.Requests.{IsCountLine}
use Rattle.am_resp_text.specs.Gaps.{IsGap}
use Rattle.am_resp_text.specs.declared.fault.Gap.{Gap}
use Rattle.am_resp_source.proofs.LineReadings.{taken_of, used_of, behind_taken, all_joined, gap_of_joined}
use Rattle.am_resp_source.proofs.line.Line.read_count.Goals as goal

pub returns-in_err-number-clause-gap : goal.returns-in_err-number-clause-gap
returns-in_err-number-clause-gap c =
    let line = c.args.self.now in
    let piece = c.args.piece.now in
    let joined = c.as_slice.ensures.value ∙ c.self.view_is ∙ c.add.ensures in
    let there = subst (λ (z : List ℕ). IsGap (IsCountLine c.args.mark c.args.most) z c.in_err-number.field-0.0) joined
    c.in_err-number.ensures.gap in
    let p = err_from_is_err_and c.from_residual.result c.from_residual.ensures.1 in
    rw (p.1, p.2) (gap_of_joined line piece c.args.mark c.args.most c.in_err-number.field-0.0 c.ranges.most.fits
    c.len-before.ensures.most there)

pub returns-in_err-number-clause-kept : goal.returns-in_err-number-clause-kept
returns-in_err-number-clause-kept c =
    let line = c.args.self.now in
    let piece = c.args.piece.now in
    let joined = c.as_slice.ensures.value ∙ c.self.view_is ∙ c.add.ensures in
    let there = subst (λ (z : List ℕ). IsGap (IsCountLine c.args.mark c.args.most) z c.in_err-number.field-0.0) joined
    c.in_err-number.ensures.gap in
    let p = err_from_is_err_and c.from_residual.result c.from_residual.ensures.1 in
    rw (p.1, p.2) (λ is. c.add.ensures ∙ all_joined line piece c.args.mark c.args.most c.ranges.most.fits
    c.len-before.ensures.most (subst (λ (g : Gap). IsGap (IsCountLine c.args.mark c.args.most)
    (line ++ take (24 - length line) piece) g) is there))

pub overflow_sub-used-2 : goal.overflow_sub-used-2
overflow_sub-used-2 c =
    let line = c.args.self.now in
    let piece = c.args.piece.now in
    let rest = c.in_ok-number.rest.now in
    let n = c.in_ok-number.number in
    let joined = c.as_slice.ensures.value ∙ c.self.view_is ∙ c.add.ensures in
    let whole = sym joined ∙ c.in_ok-number.ensures.whole in
    let taken = taken_of line piece rest (24 - length line) c.args.mark c.args.most n c.requires.begun whole in
    let used = used_of line piece rest taken.0 (24 - length line) c.args.mark n whole taken.3 in
    let size = c.len.ensures.len ∙ ap length c.add.ensures in
    omega (arith, used, size, c.len-before.ensures.len)

pub returns-clause-taken : goal.returns-clause-taken
returns-clause-taken c =
    let line = c.args.self.now in
    let piece = c.args.piece.now in
    let rest = c.in_ok-number.rest.now in
    let n = c.in_ok-number.number in
    let joined = c.as_slice.ensures.value ∙ c.self.view_is ∙ c.add.ensures in
    let whole = sym joined ∙ c.in_ok-number.ensures.whole in
    let taken = taken_of line piece rest (24 - length line) c.args.mark c.args.most n c.requires.begun whole in
    let used = used_of line piece rest taken.0 (24 - length line) c.args.mark n whole taken.3 in
    let size = c.len.ensures.len ∙ ap length c.add.ensures in
    let k : c.len.result - length rest - c.len-before.result ≡ length taken.0 =
    omega (arith, used, size, c.len-before.ensures.len) in (
      taken.0,
      taken.2 ∙ ap (λ (z : List ℕ). taken.0 ++ z) (sym (behind_taken taken.0 taken.1 piece _ taken.2 k)),
      taken.3,
    )

pub returns-clause-less : goal.returns-clause-less
returns-clause-less c =
    let line = c.args.self.now in
    let piece = c.args.piece.now in
    let rest = c.in_ok-number.rest.now in
    let n = c.in_ok-number.number in
    let joined = c.as_slice.ensures.value ∙ c.self.view_is ∙ c.add.ensures in
    let whole = sym joined ∙ c.in_ok-number.ensures.whole in
    let taken = taken_of line piece rest (24 - length line) c.args.mark c.args.most n c.requires.begun whole in
    let used = used_of line piece rest taken.0 (24 - length line) c.args.mark n whole taken.3 in
    let size = c.len.ensures.len ∙ ap length c.add.ensures in
    let k : c.len.result - length rest - c.len-before.result ≡ length taken.0 =
    omega (arith, used, size, c.len-before.ensures.len) in
    let behind = ap length (behind_taken taken.0 taken.1 piece _ taken.2 k) in
    let all = ap length taken.2 ∙ length-append taken.0 taken.1 in
    let some = taken.4 in
    omega (arith, behind, all, some)
