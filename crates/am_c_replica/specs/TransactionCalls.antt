-- What a call does to a transaction and to the replica that it is tried on, by the contract of the desk's own call.
use Rattle.std.specs.Prelude.{◌≡◌, ℕ, [], Option, None, Some, Result, Ok, Err}
use Rattle.am_c_steps.specs.declared.status.Status.{Status}
use Rattle.am_c_steps.specs.declared.status.Status.TheVariants as is
use Rattle.am_c_steps.specs.Statuses.{status_code}
use Rattle.am_replica_desk.specs.Calls.{PutsBlock}
use Rattle.am_replica_desk.specs.Desks.{DeskState, answers_digest}
use Rattle.am_replica_desk.specs.declared.fault.Fault.{Fault}
use Rattle.am_replica_desk.specs.declared.fault.Fault.TheVariants.{Ended}
use Rattle.am_replica_trials.specs.Trials.{TrialState, HasLines, first_trial}
use Rattle.am_c_replica.specs.ReplicaCalls.{DoesCall, end_status}

-- it has no lines, and was told nothing
pub record HasNoLines (t : TrialState) : Type 0 where
  pub exact : t ≡ first_trial answers_digest
  pub lines : HasLines [] t

-- whether there is a transaction
abbrev pub transaction_status : Option TrialState → Status
transaction_status None = is.NoTx
transaction_status (Some t) = is.Fine

-- a transaction is begun where there is none, or memory is refused; where there is one, it stays
abbrev pub BeginsTransaction : Option TrialState → ℕ → Option TrialState → Type 0
BeginsTransaction (Some t) told held = (told ≡ status_code is.IsOpen) × (held ≡ Some t)
BeginsTransaction None told (Some t) = (told ≡ status_code is.Fine) × HasNoLines t
BeginsTransaction None told None = told ≡ status_code is.NoMemory

-- it goes on, unless the replica ended
abbrev pub going_on : Result (Unit {0}) Fault → TrialState → Option TrialState
going_on (Ok done) t = Some t
going_on (Err Ended) t = None
going_on (Err why) t = Some t

-- a line, or some, led both from there to here, and C is told how that ended
pub record IsTriedSo (Takes : DeskState → TrialState → Result (Unit {0}) Fault → DeskState → TrialState → Type 0)
    (d : DeskState) (t : TrialState) (told : ℕ) (held : Option DeskState) (left : Option TrialState) : Type 0 where
  pub ended : Result (Unit {0}) Fault
  pub desk : DeskState
  pub transaction : TrialState
  pub takes : Takes d t ended desk transaction
  pub stands : held ≡ Some desk
  pub goes_on : left ≡ going_on ended transaction
  pub tells : told ≡ status_code (end_status ended)

-- without a replica, or without a transaction, nothing is done; else a line, or some, are tried
abbrev pub TriesLines : (DeskState → TrialState → Result (Unit {0}) Fault → DeskState → TrialState → Type 0) →
    Option DeskState → Option TrialState → ℕ → Option DeskState → Option TrialState → Type 0
TriesLines Takes None t told held left = (told ≡ status_code is.NoStore) × (held ≡ None) × (left ≡ t)
TriesLines Takes (Some d) None told held left = (told ≡ status_code is.NoTx) × (held ≡ Some d) × (left ≡ None)
TriesLines Takes (Some d) (Some t) told held left = IsTriedSo Takes d t told held left

-- without a replica, or without a transaction, nothing is done; else the transaction is a block, and gone
abbrev pub MakesBlock : Option DeskState → Option TrialState → ℕ → Option DeskState → Option TrialState → Type 0
MakesBlock None t told held left = (told ≡ status_code is.NoStore) × (held ≡ None) × (left ≡ t)
MakesBlock (Some d) None told held left = (told ≡ status_code is.NoTx) × (held ≡ Some d) × (left ≡ None)
MakesBlock (Some d) (Some t) told held left = DoesCall (PutsBlock t) (Some d) told held × (left ≡ None)
