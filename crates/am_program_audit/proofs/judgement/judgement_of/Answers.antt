use Rattle.std.proofs.Common.{subst}
use Rattle.am_audit.specs.declared.fault.Fault.{Fault}
use Rattle.am_trace_text.specs.Headers.{most_runs_of}
use Rattle.am_audit.specs.Faults.{IsTrueFault}
use Rattle.am_program_audit.proofs.judgement.judgement_of.Goals as goal

pub returns-in-Wrong-clause-told : goal.returns-in-Wrong-clause-told
returns-in-Wrong-clause-told c = λ text trace it wrong. (
  trace,
  it,
  subst (λ (f : Fault). IsTrueFault (most_runs_of it.header) trace f) c.in-Wrong.is wrong,
)
