-- What one step, and many, do to a store.
use Rattle.std.specs.Prelude.{◌≡◌, ◌≤◌, length, List, [], ◌∷◌, ◌++◌, true}
use Rattle.am_record.specs.Limits.{max_limit}
use Rattle.am_record.specs.declared.step.Refusal.TheVariants.{NoMemory}
use Rattle.am_record.specs.declared.step.Op.TheVariants.{Scan, ScanBack, DeleteRange}
use Rattle.am_record.specs.declared.step.Step.{Step}
use Rattle.am_record.specs.declared.step.Step.TheVariants.{Do, Merge, Clean}
use Rattle.am_record.specs.declared.step.Reply.{Reply}
use Rattle.am_record.specs.declared.step.Reply.TheVariants.{Rows, Deleted, Moved, Refused}
use Rattle.am_law_serial.specs.Trace.{Trace}
use Rattle.am_law_sound.specs.Right.{IsSoundStore}
use Rattle.am_index.specs.Content.{content}
use Rattle.am_law_sound.specs.StoreState.{StoreState, MayAnswer, state_after}
use Rattle.am_law_sound.specs.StateOf.{IsStateOf, events}
use Rattle.am_store.specs.Memory.{may_want_memory}

-- the trace is sound, and the store is where it leaves it
pub record IsSoundAt (trace : Trace) (p : StoreState) : Type 0 where
  pub at : IsStateOf trace p
  pub sound : IsSoundStore p.most_runs trace

-- wherever the store stood before, it stands there with these steps and replies added, and makes as many runs at most
pub record Extends (old : StoreState) (more : Trace) (new : StoreState) : Type 0 where
  pub most : new.most_runs ≡ old.most_runs
  pub on : (trace : Trace) → IsStateOf trace old → IsSoundAt (trace ++ more) new

-- no more rows and no more deleted records than asked for, and no more moves than may be made at once
abbrev pub IsWithin : Step → Reply → Type 0
IsWithin (Do t (Scan range max)) (Rows rows) = length rows ≤ max
IsWithin (Do t (ScanBack range max)) (Rows rows) = length rows ≤ max
IsWithin (Do t (DeleteRange range max)) (Deleted n) = n ≤ max
IsWithin (Merge limit) (Moved n run) = n ≤ max_limit
IsWithin _ _ = Unit {0}

-- a Merge or a Clean leaves the content as it was
abbrev pub KeepsContent : StoreState → Step → StoreState → Type 0
KeepsContent old (Merge limit) new = content new.entries ≡ content old.entries
KeepsContent old (Clean range limit) new = content new.entries ≡ content old.entries
KeepsContent old _ new = Unit {0}

-- One step, by what the store keeps before it: the reply is one that the step may have, the store is what such a step
-- leaves, memory is refused only to a step that may want it, and a Merge or a Clean keeps the content.
pub record IsOwed (old : StoreState) (step : Step) (reply : Reply) (new : StoreState) : Type 0 where
  pub says : MayAnswer old step reply
  pub leaves : new ≡ state_after old step reply
  pub memory : reply ≡ Refused NoMemory → may_want_memory old step ≡ true
  pub content : KeepsContent old step new
  pub within : IsWithin step reply

-- such steps one after another
abbrev pub TakesEach : StoreState → Trace → StoreState → Type 0
TakesEach old [] new = new ≡ old
TakesEach old (e ∷ more) new = (next : StoreState) × IsOwed old e.0 e.1 next × TakesEach next more new

-- the steps were taken one after another, each with its reply, which stands after the replies before
pub record HasRun (old : StoreState) (steps : List Step) (before : List Reply) (new : StoreState)
    (after : List Reply) : Type 0 where
  pub replies : List Reply
  pub appended : after ≡ before ++ replies
  pub each : length replies ≡ length steps
  pub takes : TakesEach old (events steps replies) new
  pub goes : Extends old (events steps replies) new
