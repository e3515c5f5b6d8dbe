use Rattle.am_program_start.proofs.CommandLemmas.{refused_by_clap}
use Rattle.am_program_options.proofs.OptionsLemmas.{accepted, refused_as_nothing, amserve_free}
use Rattle.am_program_options.specs.Options.{Names, amserve_app}
use Rattle.am_program_options.proofs.amserve.options.Goals as goal

pub returns-in-Some-clause-accepted : goal.returns-in-Some-clause-accepted
returns-in-Some-clause-accepted g c =
    accepted _ c.in-Ok.matches _ c.in-Some.options c.in_ok-amserve.ensures c.in-Ok.ensures.matches c.in-Ok.ensures.kinds
    c.in-Some.ensures

pub returns-in-Ok-clause-refused : goal.returns-in-Ok-clause-refused
returns-in-Ok-clause-refused g c =
    refused_as_nothing _ c.in-Ok.matches _ c.in_ok-amserve.ensures c.in-Ok.ensures.matches c.in-Ok.ensures.kinds
    c.in-None.ensures

pub returns-clause-refused : goal.returns-clause-refused
returns-clause-refused g c =
    refused_by_clap Names amserve_app _ amserve_free c.in-Err.error _ c.fault_of.result c.in_ok-amserve.ensures
    c.in-Err.ensures.kinds c.fault_of.ensures
