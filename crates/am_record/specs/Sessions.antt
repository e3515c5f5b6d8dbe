-- What one session's steps are, by the transaction that it has active.
use Rattle.std.specs.Prelude.{◌≡◌, ℕ, Option, Some, None}
use Rattle.am_record.specs.declared.step.Step.{Step}
use Rattle.am_record.specs.declared.step.Step.TheVariants.{Begin, Do, Commit, Abort, Merge, Clean}
use Rattle.am_record.specs.declared.step.Reply.{Reply}
use Rattle.am_record.specs.declared.step.Reply.TheVariants.{Begun, Committed, Aborted}

-- a Begin where no transaction is active, and what is done in one of the active one alone
abbrev pub IsAllowed : Option ℕ → Step → Type 0
IsAllowed active Begin = active ≡ None
IsAllowed active (Do tx op) = active ≡ Some tx
IsAllowed active (Commit tx) = active ≡ Some tx
IsAllowed active (Abort tx) = active ≡ Some tx
IsAllowed active (Merge limit) = Unit {0}
IsAllowed active (Clean range limit) = Unit {0}

-- which transaction is active after a reply
abbrev pub active_after : Option ℕ → Reply → Option ℕ
active_after active (Begun tx) = Some tx
active_after active (Committed number) = None
active_after active Aborted = None
active_after active _ = active
