use Rattle.std.proofs.Common.{rules}
use Rattle.am_program_options.proofs.OptionsLemmas.{none_given}
use Rattle.am_program_options.proofs.amserve.number_if_given.Goals as goal

pub returns-in-None-number_of : goal.returns-in-None-number_of
returns-in-None-number_of c =
    none_given c.args.setting _ c.in-Some.text.now (search rules) c.in-None-number_of.ensures
