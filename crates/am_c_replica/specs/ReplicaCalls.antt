-- What a call does to the replica behind a handle, by the contract of the desk's own call.
use Rattle.std.specs.Prelude.{◌≡◌, ℕ, List, [], take, drop, length, Option, None, Some, Result, Ok, Err}
use Rattle.am_c_steps.specs.declared.status.Status.{Status}
use Rattle.am_c_steps.specs.declared.status.Status.TheVariants as is
use Rattle.am_c_steps.specs.Statuses.{status_code}
use Rattle.am_replica_desk.specs.Desks.{DeskState, first_desk, commits_at}
use Rattle.am_replica_desk.specs.declared.fault.Fault.{Fault}
use Rattle.am_replica_desk.specs.declared.fault.Fault.TheVariants.{Ended, NoEntry, OtherLine, Staged}

-- the status of a call that ended so
abbrev pub end_status : Result (Unit {0}) Fault → Status
end_status (Ok done) = is.Fine
end_status (Err Ended) = is.NoMemory
end_status (Err NoEntry) = is.NoEntry
end_status (Err OtherLine) = is.BadLine
end_status (Err Staged) = is.Staged

-- whether there is a replica
abbrev pub replica_status : Option DeskState → Status
replica_status None = is.NoStore
replica_status (Some d) = is.Fine

-- a replica is opened where there is none, or memory is refused; where there is one, it stays
abbrev pub OpensReplica : Option DeskState → ℕ → Option DeskState → Type 0
OpensReplica (Some d) told held = (told ≡ status_code is.IsOpen) × (held ≡ Some d)
OpensReplica None told (Some d) = (told ≡ status_code is.Fine) × (d ≡ first_desk)
OpensReplica None told None = told ≡ status_code is.NoMemory

-- the call led the replica from there to here, and C is told how it ended
pub record EndsSo (Call : DeskState → Result (Unit {0}) Fault → DeskState → Type 0) (old : DeskState) (told : ℕ)
    (held : Option DeskState) : Type 0 where
  pub ended : Result (Unit {0}) Fault
  pub new : DeskState
  pub calls : Call old ended new
  pub stands : held ≡ Some new
  pub tells : told ≡ status_code (end_status ended)

-- without a replica nothing is done; else it takes the call
abbrev pub DoesCall : (DeskState → Result (Unit {0}) Fault → DeskState → Type 0) → Option DeskState → ℕ →
    Option DeskState → Type 0
DoesCall Call None told held = (told ≡ status_code is.NoStore) × (held ≡ None)
DoesCall Call (Some d) told held = EndsSo Call d told held

-- how long the answer to the last call is
abbrev pub answer_len : Option DeskState → ℕ
answer_len None = 0
answer_len (Some d) = length d.answer

-- its bytes from a place on, as many as there is room for
abbrev pub answer_part : Option DeskState → ℕ → ℕ → List ℕ
answer_part None from room = []
answer_part (Some d) from room = take room (drop from d.answer)

-- the number is told, unless the replica ended
abbrev pub IsCountTold : Option ℕ → ℕ → ℕ → Type 0
IsCountTold (Some commits) told n = (told ≡ status_code is.Fine) × (n ≡ commits)
IsCountTold None told n = (told ≡ status_code is.NoMemory) × (n ≡ 0)

-- the same, where there is a replica
abbrev pub AreCommitsTold : Option DeskState → ℕ → ℕ → Type 0
AreCommitsTold (Some d) told n = IsCountTold (commits_at d) told n
AreCommitsTold None told n = (told ≡ status_code is.NoStore) × (n ≡ 0)
