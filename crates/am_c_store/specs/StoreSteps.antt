-- What a call does to the store behind a handle, by the contract of the store's own `step`.
use Rattle.std.specs.Prelude.{◌≡◌, ℕ, List, [], ◌∷◌, Option, None, Some, Result, Ok, Err}
use Rattle.am_record.specs.Limits.{last_run}
use Rattle.am_record.specs.declared.step.Refusal.{Refusal}
use Rattle.am_record.specs.declared.step.Step.{Step}
use Rattle.am_record.specs.declared.step.Reply.{Reply}
use Rattle.am_record.specs.declared.step.Reply.TheVariants.{Refused}
use Rattle.am_law_sound.specs.StoreState.{StoreState, empty_state}
use Rattle.am_store.specs.StoreSteps.{IsSoundAt, Extends, IsOwed}
use Rattle.am_c_steps.specs.declared.bringing.Bringing.{Bringing}
use Rattle.am_c_steps.specs.declared.status.Status.{Status}
use Rattle.am_c_steps.specs.declared.status.Status.TheVariants.{Fine, NoStore, IsOpen, NoMemory}
use Rattle.am_c_steps.specs.declared.text.Record.{Record}
use Rattle.am_c_steps.specs.Statuses.{status_code}
use Rattle.am_c_steps.specs.AskedSteps.{AreRecordsAsked}

-- the store took the step, and replied: by what the store owes for each step, so that nothing of that is lost here
pub record Takes (old : StoreState) (step : Step) (reply : Reply) (new : StoreState) : Type 0 where
  pub owed : IsOwed old step reply new
  pub goes : Extends old ((step, reply) ∷ []) new
  pub refused : (why : Refusal) → reply ≡ Refused why → new ≡ old

pub record RepliesToStep (old : StoreState) (step : Step) (answer : Result Reply Status)
    (held : Option StoreState) : Type 0 where
  pub reply : Reply
  pub new : StoreState
  pub replied : answer ≡ Ok reply
  pub stands : held ≡ Some new
  pub takes : Takes old step reply new

-- without a store, or where what is asked for is no step, nothing is done; else the store takes the step
abbrev pub Answers : Option StoreState → Result Step Status → Result Reply Status → Option StoreState → Type 0
Answers None asked answer held = (answer ≡ Err NoStore) × (held ≡ None)
Answers (Some p) (Err why) answer held = (answer ≡ Err why) × (held ≡ Some p)
Answers (Some p) (Ok step) answer held = RepliesToStep p step answer held

-- the store was asked, and what C has of its answer is so
pub record Tells (old : Option StoreState) (asked : Result Step Status) (new : Option StoreState)
    (So : Result Reply Status → Type 0) : Type 0 where
  pub answer : Result Reply Status
  pub answers : Answers old asked answer new
  pub so : So answer

-- the same of records that come in: what is asked of the store is made of them
pub record TellsRecords (old : Option StoreState) (tx : ℕ) (bringing : Bringing) (records : List Record)
    (new : Option StoreState) (So : Result Reply Status → Type 0) : Type 0 where
  pub asked : Result Step Status
  pub made : AreRecordsAsked tx bringing records asked
  pub tells : Tells old asked new So

-- no step was taken yet
pub record IsNew (p : StoreState) : Type 0 where
  pub empty : p ≡ empty_state last_run
  pub stands : IsSoundAt [] p

-- a store is opened where there is none, or memory is refused; where there is one, it stays
abbrev pub Opens : Option StoreState → ℕ → Option StoreState → Type 0
Opens (Some p) told held = (told ≡ status_code IsOpen) × (held ≡ Some p)
Opens None told (Some p) = (told ≡ status_code Fine) × IsNew p
Opens None told None = told ≡ status_code NoMemory

abbrev pub Closes : Option StoreState → ℕ → Type 0
Closes (Some p) told = told ≡ status_code Fine
Closes None told = told ≡ status_code NoStore

-- the number is told, where there is a store
abbrev pub IsNumberTold : (StoreState → ℕ) → Option StoreState → ℕ → ℕ → Type 0
IsNumberTold count (Some p) told n = (told ≡ status_code Fine) × (n ≡ count p)
IsNumberTold count None told n = (told ≡ status_code NoStore) × (n ≡ 0)
