use Rattle.std.proofs.lemmas.Result.{IfOk-weaker}
use Rattle.am_program_start.proofs.CommandLemmas.{arg_added}
use Rattle.am_program_options.proofs.amserve.listen.Goals as goal

pub returns : goal.returns
returns c =
    let with_stop = arg_added c.in_ok-listen_common.field-0 c.in_ok-arg.field-0 c.flag.result _ _
    c.in_ok-listen_common.ensures c.flag.ensures c.in_ok-arg.ensures in
    let with_hold = arg_added c.in_ok-arg.field-0 c.in_ok-arg-2.field-0 c.number.result _ _ with_stop
    c.number.ensures c.in_ok-arg-2.ensures in
    let with_stay = arg_added c.in_ok-arg-2.field-0 c.in_ok-arg-3.field-0 c.flag-2.result _ _ with_hold
    c.flag-2.ensures c.in_ok-arg-3.ensures in
    let with_grace = arg_added c.in_ok-arg-3.field-0 c.in_ok-arg-4.field-0 c.number-2.result _ _ with_stay
    c.number-2.ensures c.in_ok-arg-4.ensures in
    let with_idle = arg_added c.in_ok-arg-4.field-0 c.in_ok-arg-5.field-0 c.number-3.result _ _ with_grace
    c.number-3.ensures c.in_ok-arg-5.ensures in
    let with_lapse = arg_added c.in_ok-arg-5.field-0 c.in_ok-arg-6.field-0 c.number-4.result _ _ with_idle
    c.number-4.ensures c.in_ok-arg-6.ensures in
    let with_idle_seat = arg_added c.in_ok-arg-6.field-0 c.in_ok-arg-7.field-0 c.number-5.result _ _ with_lapse
    c.number-5.ensures c.in_ok-arg-7.ensures in
    let with_runs = arg_added c.in_ok-arg-7.field-0 c.in_ok-arg-8.field-0 c.number-6.result _ _ with_idle_seat
    c.number-6.ensures c.in_ok-arg-8.ensures in
    IfOk-weaker c.arg-9.result _ _
    (λ command adds. arg_added c.in_ok-arg-8.field-0 command c.flag-3.result _ _ with_runs c.flag-3.ensures adds)
    c.arg-9.ensures
