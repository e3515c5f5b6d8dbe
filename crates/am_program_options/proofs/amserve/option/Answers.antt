use Rattle.std.proofs.Common.{◌∙◌, Some, ap}
use Rattle.clap.specs.Words.{Rule, rule_of}
use Rattle.clap.specs.declared.builder.arg.Arg.{Arg}
use Rattle.clap.specs.declared.builder.texts.Texts.TheVariants.{One}
use Rattle.am_program_options.proofs.amserve.option.Goals as goal

pub returns : goal.returns
returns c =
    let named = c.value_name.ensures ∙ ap (λ (a : Arg). record a { val_names = One c.args.value }) c.long.ensures in
    let built = c.help.ensures ∙ ap (λ (a : Arg). record a { help = Some c.args.help }) named in (
      ap rule_of built ∙ ap (λ (r : Rule). record r { long = Some c.args.name.now; value_names = 1 })
          c.new.ensures.rule,
      ap (λ (a : Arg). a.global) built ∙ c.new.ensures.optional.1,
    )
