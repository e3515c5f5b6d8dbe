-- The refusals among replies.
use Rattle.std.specs.Prelude.{Bool, true, false}
use Rattle.am_record.specs.declared.step.Refusal.{Refusal}
use Rattle.am_record.specs.declared.step.Refusal.TheVariants.{NoSuchTx, TooManyOps, NotRising, BadLimit, TooManyRuns}
use Rattle.am_record.specs.declared.step.Refusal.TheVariants.{Busy}
use Rattle.am_record.specs.declared.step.Reply.{Reply}
use Rattle.am_record.specs.declared.step.Reply.TheVariants.{Refused}

-- whether the refusal is one of those that are tested before the lock is asked for
abbrev pub is_early : Refusal → Bool
is_early NoSuchTx = true
is_early TooManyOps = true
is_early NotRising = true
is_early BadLimit = true
is_early TooManyRuns = true
is_early why = false

-- whether the reply is such a refusal
abbrev pub early_of : Reply → Bool
early_of (Refused why) = is_early why
early_of reply = false

abbrev pub busy_of : Reply → Bool
busy_of (Refused (Busy h)) = true
busy_of reply = false

abbrev pub refused_of : Reply → Bool
refused_of (Refused why) = true
refused_of reply = false
