use Rattle.std.proofs.lemmas.Result.{err_from_is_err_and}
use Rattle.am_resp_text.specs.Requests.{IsRequestText}
use Rattle.am_resp_text.proofs.RequestReadings.{gap_of_count, fault_from_gap, fault_of_words}
use Rattle.am_resp_text.proofs.read.read_request.Goals as goal

pub returns-in_err-count-clause-fault : goal.returns-in_err-count-clause-fault
returns-in_err-count-clause-fault c =
    let bytes = c.args.bytes.now in
    let gap = c.in_err-count.field-0.0 in
    let p = err_from_is_err_and c.from_residual.result c.from_residual.ensures.1 in
    rw (p.1, p.2) (fault_from_gap IsRequestText bytes gap (gap_of_count bytes gap c.in_err-count.ensures.gap))

pub returns-in_err-words-clause-fault : goal.returns-in_err-words-clause-fault
returns-in_err-words-clause-fault c =
    let p = err_from_is_err_and c.from_residual-in_err-words.result c.from_residual-in_err-words.ensures.1 in
    rw (p.1, p.2) (fault_of_words c.args.bytes.now c.in_ok-count.behind.now c.in_ok-count.count c.in_err-words.field-0.0
    c.in_ok-count.ensures.whole c.in_ok-count.ensures.few c.in_err-words.ensures.fault)
