-- Where a session stands between two lines.
use Rattle.std.specs.Prelude.{ℕ, [], Option, None, refl}
use Rattle.std.specs.Coded.{Coded, code_by, coded×, coded_ℕ, coded_option}
use Rattle.am_record.specs.Sessions.{active_after}
use Rattle.am_record.specs.Records.{Records, records_code}
use Rattle.am_record.specs.declared.step.Reply.{Reply}
use Rattle.am_record.specs.declared.step.Reply.TheVariants.{Committed, Aborted}

-- the transaction that is active in it, and the records that wait for its next load
pub record SessionState : Type 0 where
  pub active : Option ℕ
  pub staged : Records

abbrev pub session_code : Coded SessionState
session_code = code_by (Option ℕ × Records) (coded× (coded_option coded_ℕ) records_code) (λ s. (s.active, s.staged))
    (λ p. record { active = p.0; staged = p.1 }) (λ _. refl)

abbrev pub at_start : SessionState
at_start = record { active = None; staged = [] }

-- what waits ends with its transaction
abbrev pub staged_after : Records → Reply → Records
staged_after staged (Committed number) = []
staged_after staged Aborted = []
staged_after staged _ = staged

abbrev pub session_after : SessionState → Reply → SessionState
session_after s reply = record { active = active_after s.active reply; staged = staged_after s.staged reply }
