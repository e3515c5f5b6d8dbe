use Rattle.std.proofs.Common.{◌≡◌, ◌∙◌, codes, rules, true, false}
use Rattle.std.proofs.lemmas.Result.{IfOk-weaker}
use Rattle.clap.specs.Words.{new_app, new_rule, rule_of}
use Rattle.am_program_start.specs.Arguments.{IsCommand}
use Rattle.am_program_start.proofs.CommandLemmas.{arg_added}
use Rattle.am_program_start.proofs.amaudit.amaudit.Goals as goal

pub returns : goal.returns
returns c =
    let plain = new_app (codes "amaudit") in
    let created : IsCommand (record plain { top = record plain.top { has_version = true } }) c.version.result = (
      search rules,
      (λ i. (c.version.ensures i).has_globals) ∙ (λ i. (c.about.ensures i).has_globals) ∙
          c.new-2.ensures.local,
    ) in
    let file : (rule_of c.help-file.result ≡ record (new_rule (codes "file")) { value_names = 1 })
    × (c.help-file.result.global ≡ false) = (search rules, search rules) in
    let with_file = arg_added c.version.result c.in_ok-arg.field-0 c.help-file.result _ _ created file
    c.in_ok-arg.ensures in
    let with_records = arg_added c.in_ok-arg.field-0 c.in_ok-arg-2.field-0 c.flag.result _ _ with_file c.flag.ensures
    c.in_ok-arg-2.ensures in
    IfOk-weaker c.arg-3.result _ _
    (λ command adds. (arg_added c.in_ok-arg-2.field-0 command c.flag-2.result _ _ with_records c.flag-2.ensures
    adds).0)
    c.arg-3.ensures
