use Rattle.std.proofs.Common.{◌≡◌, ◌++◌, List, ℕ, length, drop, sym, ap, ◌∙◌, arith}
use Rattle.std.proofs.lemmas.Result.{err_from_is_err_and}
use Rattle.std.proofs.lemmas.List.{take-append-drop}
use Rattle.am_resp_text.proofs.WordReadings.{gap_of_length, gap_of_bytes, gap_of_word_end}
use Rattle.am_resp_text.proofs.read.read_word.Goals as goal

pub returns-in_err-len-clause-gap : goal.returns-in_err-len-clause-gap
returns-in_err-len-clause-gap c =
    let p = err_from_is_err_and c.from_residual.result c.from_residual.ensures.1 in
    rw (p.1, p.2) (gap_of_length c.args.bytes.now c.in_err-len.field-0.0 c.in_err-len.ensures.gap)

pub returns-then-behind-len-clause-gap : goal.returns-then-behind-len-clause-gap
returns-then-behind-len-clause-gap c =
    gap_of_bytes c.args.bytes.now c.in_ok-len.behind.now c.in_ok-len.len c.in_ok-len.ensures.whole
    c.in_ok-len.ensures.few
    c.if-behind-len.true

pub returns-in_err-rest-clause-gap : goal.returns-in_err-rest-clause-gap
returns-in_err-rest-clause-gap c =
    let behind = c.in_ok-len.behind.now in
    let len = c.in_ok-len.len in
    let word = c.split_at.result.0.now in
    let parts = sym (take-append-drop len behind) ∙ ap (λ (z : List ℕ). z ++ drop len behind)
    (sym c.split_at.ensures.front) ∙
    ap (λ (z : List ℕ). word ++ z) (sym c.split_at.ensures.back) in
    let size : length word ≡ len = omega (arith, c.split_at.ensures.front_len, c.if-behind-len.false) in
    let p = err_from_is_err_and c.from_residual-in_err-rest.result c.from_residual-in_err-rest.ensures.1 in
    rw (p.1, p.2) (gap_of_word_end c.args.bytes.now behind word c.split_at.result.1.now len c.in_err-rest.field-0.0
    c.in_ok-len.ensures.whole size parts c.in_ok-len.ensures.few c.in_err-rest.ensures.gap)
