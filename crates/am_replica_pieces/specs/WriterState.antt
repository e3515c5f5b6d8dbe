-- Where the writer of an entry stands.
use Rattle.std.specs.Prelude.{ℕ, Bool}
use Rattle.am_replica_log.specs.declared.event.Name.{Name}

-- the generation that it puts under, the number of the part that it puts now, and whether the log told of the entry
pub record WriterState : Type 0 where
  pub name : Name
  pub generation : ℕ
  pub next : ℕ
  pub is_seen : Bool
