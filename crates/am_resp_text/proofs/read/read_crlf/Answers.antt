use Rattle.std.proofs.lemmas.Result.{err_from_is_err_and}
use Rattle.am_resp_text.proofs.CountReadings.{gap_of_cr, gap_of_lf}
use Rattle.am_resp_text.proofs.read.read_crlf.Goals as goal

pub returns-in_err-behind-clause-gap : goal.returns-in_err-behind-clause-gap
returns-in_err-behind-clause-gap c =
    let p = err_from_is_err_and c.from_residual.result c.from_residual.ensures.1 in
    rw (p.1, p.2) (gap_of_cr c.args.bytes.now c.in_err-behind.field-0.0 c.in_err-behind.ensures.gap)

pub returns-in_err-rest-clause-gap : goal.returns-in_err-rest-clause-gap
returns-in_err-rest-clause-gap c =
    let p = err_from_is_err_and c.from_residual-in_err-rest.result c.from_residual-in_err-rest.ensures.1 in
    rw (p.1, p.2) (gap_of_lf c.args.bytes.now c.in_ok-behind.behind.now c.in_err-rest.field-0.0
    c.in_ok-behind.ensures.whole c.in_err-rest.ensures.gap)
