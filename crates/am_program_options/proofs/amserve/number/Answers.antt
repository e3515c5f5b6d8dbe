use Rattle.std.proofs.Common.{◌≡◌, ◌∙◌, Some, ap, not, is_some, rules}
use Rattle.clap.specs.Words.{Rule, rule_of}
use Rattle.clap.specs.declared.builder.arg.Arg.{Arg}
use Rattle.clap.specs.declared.builder.value_parser.ValueParser.TheVariants.{Unsigned}
use Rattle.am_program_options.specs.Options.{number_rule}
use Rattle.am_program_options.proofs.amserve.number.Goals as goal

pub returns : goal.returns
returns c =
    let parsed : c.value_parser-2.result.value_parser ≡ Some (Unsigned c.args.setting.least c.args.setting.most) =
    search rules in
    let wanted : c.is_none.result ≡ not (is_some c.args.setting.default) = search rules in
    let built = c.required.ensures ∙ ap (λ (a : Arg). record a { required = c.is_none.result })
    c.value_parser-2.ensures.others in (
      ap rule_of built ∙ (λ i. record (rule_of c.option.result) { parser = parsed i; required = wanted i })
          ∙ ap (λ (r : Rule). number_rule r c.args.setting) c.option.ensures.0,
      ap (λ (a : Arg). a.global) built ∙ c.option.ensures.1,
    )
