-- Where an audit stands after the events that it has judged.
use Rattle.std.specs.Prelude.{◌≡◌, ℕ, ◌+◌, ◌<◌, ◌^◌, length, Option, Some, None}
use Rattle.am_law_serial.specs.Trace.{Trace}
use Rattle.am_law_serial.specs.Legal.{IsLegal}
use Rattle.am_audit.specs.Faults.{IsTrueFault}
use Rattle.am_audit.specs.Progress.{HasChecked, progress_of}
use Rattle.am_audit.specs.declared.fault.Fault.{Fault}
use Rattle.am_audit.specs.declared.checker.Checker.{Checker}
use Rattle.am_audit.specs.declared.trace_audit.Audit.{Audit}

-- the events are legal and the audit stands after them, or they have the fault
abbrev pub IsSoFar : Option Fault → Checker → Trace → Type 0
IsSoFar None checker seen = HasChecked checker (progress_of seen) × IsLegal checker.most_runs seen
IsSoFar (Some fault) checker seen = IsTrueFault checker.most_runs seen fault

-- they are those of a store that makes so many runs at most
pub record HasJudged (most_runs : ℕ) (a : Audit) (seen : Trace) : Type 0 where
  pub most : a.checker.most_runs ≡ most_runs
  pub count : a.seen ≡ length seen
  pub so_far : IsSoFar a.fault a.checker seen

-- it can go on
pub record CanJudge (a : Audit) : Type 0 where
  pub most_runs : ℕ
  pub seen : Trace
  pub judged : HasJudged most_runs a seen
  pub room : length seen + 2 < 2 ^ 63
