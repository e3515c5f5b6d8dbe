use Rattle.std.proofs.Common.{◌≡◌, [], rules}
use Rattle.std.proofs.lemmas.Result.{IfOk-weaker}
use Rattle.clap.specs.Words.{app_of}
use Rattle.am_program_options.specs.Options.{alone_app, amserve_shape, listen_app}
use Rattle.am_program_options.proofs.OptionsLemmas.{subcommand_added}
use Rattle.am_program_options.proofs.amserve.amserve.Goals as goal

pub returns : goal.returns
returns c =
    let created : app_of c.subcommand_required.result ≡ record { top = amserve_shape; subs = [] } = search rules in
    let with_alone = subcommand_added c.subcommand_required.result c.in_ok-alone.field-0 c.in_ok-subcommand.field-0 _
    alone_app created c.in_ok-alone.ensures c.in_ok-subcommand.ensures in
    IfOk-weaker c.subcommand-2.result _ _
    (λ command adds. subcommand_added c.in_ok-subcommand.field-0 c.in_ok-listen.field-0 command _ listen_app with_alone
    c.in_ok-listen.ensures adds) c.subcommand-2.ensures
