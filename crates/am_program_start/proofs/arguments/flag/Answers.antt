use Rattle.std.proofs.Common.{◌∙◌, Some, ap}
use Rattle.clap.specs.Words.{Rule, rule_of}
use Rattle.clap.specs.declared.builder.arg.Arg.{Arg}
use Rattle.clap.specs.declared.builder.action.ArgAction.TheVariants.{SetTrue}
use Rattle.am_program_start.proofs.arguments.flag.Goals as goal

pub returns : goal.returns
returns c =
    let built = c.action.ensures ∙ ap (λ (a : Arg). record a { action = Some SetTrue })
    (c.help.ensures ∙ ap (λ (a : Arg). record a { help = Some c.args.help }) c.long.ensures) in (
      ap rule_of built ∙ ap (λ (r : Rule). record r { long = Some c.args.name.now; action = Some SetTrue })
          c.new.ensures.rule,
      ap (λ (a : Arg). a.global) built ∙ c.new.ensures.optional.1,
    )
