use Rattle.am_program_start.proofs.CommandLemmas.{refused_by_clap, amaudit_free, names_audited}
use Rattle.am_program_start.specs.AuditCommand.{NamesAudited, amaudit_app}
use Rattle.am_program_start.proofs.amaudit.audited.Goals as goal

pub returns-in-Ok-clause-accepted : goal.returns-in-Ok-clause-accepted
returns-in-Ok-clause-accepted g c =
    names_audited _ c.in-Ok.matches _ _ c.in_ok-amaudit.ensures c.in-Ok.ensures.matches c.in-Ok.ensures.kinds
    c.audited_in.ensures

pub returns-in-Err-clause-refused : goal.returns-in-Err-clause-refused
returns-in-Err-clause-refused g c =
    refused_by_clap NamesAudited amaudit_app _ amaudit_free c.in-Err.error _ c.fault_of.result c.in_ok-amaudit.ensures
    c.in-Err.ensures.kinds c.fault_of.ensures
