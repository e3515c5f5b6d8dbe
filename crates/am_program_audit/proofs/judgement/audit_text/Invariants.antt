use Rattle.std.proofs.Common.{length}
use Rattle.am_program_audit.proofs.TextAudits.{IsReadTo}
use Rattle.am_program_audit.proofs.judgement.audit_text.Given as goal

abbrev pub invariant-lines : goal.invariant-lines
invariant-lines l = IsReadTo l.text l.header l.rest l.line l.audit

abbrev pub decreases-lines : goal.decreases-lines
decreases-lines l = length l.rest
