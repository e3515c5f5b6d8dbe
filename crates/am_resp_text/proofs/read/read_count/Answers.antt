use Rattle.std.proofs.lemmas.Result.{err_from_is_err_and}
use Rattle.am_resp_text.proofs.CountReadings.{gap_of_mark, mark_alone, no_number, gap_of_end, is_nil, is_some_byte}
use Rattle.am_resp_text.proofs.read.read_count.Goals as goal

pub returns-in_err-behind-clause-gap : goal.returns-in_err-behind-clause-gap
returns-in_err-behind-clause-gap c =
    let p = err_from_is_err_and c.from_residual.result c.from_residual.ensures.1 in
    rw (p.1, p.2) (gap_of_mark c.args.bytes.now c.args.mark c.args.most c.in_err-behind.field-0.0
    c.in_err-behind.ensures.gap)

pub returns-then-is_empty-clause-gap : goal.returns-then-is_empty-clause-gap
returns-then-is_empty-clause-gap c =
    let behind = c.in_ok-behind.behind.now in
    mark_alone c.args.bytes.now behind c.args.mark c.args.most c.in_ok-behind.ensures.whole
    (is_nil behind c.if-is_empty.ensures)

pub returns-in_default-clause-gap : goal.returns-in_default-clause-gap
returns-in_default-clause-gap c =
    let behind = c.in_ok-behind.behind.now in
    no_number c.args.bytes.now behind c.split_at_cr.result.0.now c.split_at_cr.result.1.now c.args.mark
    c.args.most c.in_ok-behind.ensures.whole (is_some_byte behind c.if-is_empty.ensures) c.split_at_cr.ensures.whole
    c.split_at_cr.ensures.front c.split_at_cr.ensures.behind c.in_default.ensures.none

pub returns-in_err-rest-clause-gap : goal.returns-in_err-rest-clause-gap
returns-in_err-rest-clause-gap c =
    let p = err_from_is_err_and c.from_residual-in_err-rest.result c.from_residual-in_err-rest.ensures.1 in
    rw (p.1, p.2) (gap_of_end c.args.bytes.now c.in_ok-behind.behind.now c.split_at_cr.result.0.now
    c.split_at_cr.result.1.now c.args.mark c.args.most c.in-Some.number c.in_err-rest.field-0.0
    c.in_ok-behind.ensures.whole c.split_at_cr.ensures.whole c.in-Some.ensures.some.1 c.in-Some.ensures.some.0
    c.split_at_cr.ensures.behind c.in_err-rest.ensures.gap)
