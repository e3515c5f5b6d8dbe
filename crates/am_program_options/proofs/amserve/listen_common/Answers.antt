use Rattle.std.proofs.Common.{◌∙◌, codes, rules}
use Rattle.std.proofs.lemmas.Result.{IfOk-weaker}
use Rattle.clap.specs.Words.{new_app}
use Rattle.am_program_start.specs.Arguments.{IsCommand}
use Rattle.am_program_start.proofs.CommandLemmas.{arg_added}
use Rattle.am_program_options.proofs.amserve.listen_common.Goals as goal

pub returns : goal.returns
returns c =
    let created : IsCommand (new_app (codes "listen")) c.about.result =
    (search rules, (λ i. (c.about.ensures i).has_globals) ∙ c.new.ensures.local) in
    let with_port = arg_added c.about.result c.in_ok-arg.field-0 c.number.result _ _ created c.number.ensures
    c.in_ok-arg.ensures in
    let with_socket = arg_added c.in_ok-arg.field-0 c.in_ok-arg-2.field-0 c.option.result _ _ with_port
    c.option.ensures c.in_ok-arg-2.ensures in
    let with_sessions = arg_added c.in_ok-arg-2.field-0 c.in_ok-arg-3.field-0 c.number-2.result _ _ with_socket
    c.number-2.ensures c.in_ok-arg-3.ensures in
    let with_workers = arg_added c.in_ok-arg-3.field-0 c.in_ok-arg-4.field-0 c.number-3.result _ _ with_sessions
    c.number-3.ensures c.in_ok-arg-4.ensures in
    IfOk-weaker c.arg-5.result _ _
    (λ command adds. arg_added c.in_ok-arg-4.field-0 command c.option-2.result _ _ with_workers c.option-2.ensures adds)
    c.arg-5.ensures
