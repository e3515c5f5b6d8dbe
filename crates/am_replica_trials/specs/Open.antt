-- A trial that is open in a store.
use Rattle.std.specs.Prelude.{List, MatchOption}
use Rattle.am_record.specs.Plain.{PlainMap}
use Rattle.am_record.specs.declared.step.Op.{Op}
use Rattle.am_record.specs.declared.step.Reply.{Reply}
use Rattle.am_replica.specs.Told.{IsTrialOpen}
use Rattle.am_replica_trials.specs.Trials.{kept_in}
use Rattle.am_replica_trials.specs.declared.open.OpenTrial.{OpenTrial}

-- no transaction is active in the store, or the active one was answered the operations of the trial's lines
abbrev pub StandsBy : {R : Type 0} → Type 0 → (List Op → PlainMap → Type 0) → (R → List Reply → Type 0) → PlainMap →
    OpenTrial R → Type 0
StandsBy idle inside holds m trial =
    MatchOption trial.digest idle (λ digest. IsTrialOpen inside (holds digest) (kept_in trial.lines.items) m)
