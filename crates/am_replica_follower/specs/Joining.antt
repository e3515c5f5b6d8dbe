-- A replica that begins by a snapshot.
use Rattle.std.specs.Prelude.{◌≡◌, ◌+◌, ◌<◌, ℕ, List, ◌++◌}
use Rattle.am_record.specs.declared.step.Reply.{Reply}
use Rattle.am_replica_log.specs.declared.event.Floor.{Floor}
use Rattle.am_replica_log.specs.History.{History, counted_entries, revision_of, generation, first_behind, open_pieces}
use Rattle.am_replica_log.specs.History.{floor as floor_of}
use Rattle.am_replica_log.specs.LogState.{LogState}
use Rattle.am_replica_log.specs.Readers.{IsAt}
use Rattle.am_replica.specs.Ordered.{Sum, Ordered, after_blocks}
use Rattle.am_replica.specs.declared.block.Block.{Block}
use Rattle.am_replica_follower.specs.Following.{AreOfAll}

-- the floor names a snapshot that was taken where this had been done, up to the revision: an entry had followed the
-- floor before, and none was moved since
pub record IsLeftAt (floor : Floor) (revision : ℕ) (taken : History) : Type 0 where
  pub since : floor.since ≡ floor_of taken
  pub next : floor.snapshot.generation ≡ generation taken + 1
  pub up_to : revision ≡ revision_of taken
  pub may : floor_of taken < revision

-- A follower that began by a snapshot, and where its replica stands: there, where the blocks of all entries lead that
-- counted until the snapshot was taken. It has read the log from where the snapshot says up to a place before that.
pub record Joins (digest : List Reply → Sum) (start : Ordered) (taken history : History) (log : LogState) (known : ℕ)
    (at : Ordered) : Type 0 where
  pub rest : History
  pub read : History
  pub before : History
  pub is_front : taken ≡ rest ++ history
  pub read_on : history ≡ read ++ before
  pub begun : revision_of before ≡ first_behind (revision_of taken) (open_pieces taken)
  pub reads : IsAt (revision_of before) log history
  pub up_to : known ≡ revision_of taken
  pub blocks : List Block
  pub of : AreOfAll digest (counted_entries taken) blocks
  pub leads : at ≡ after_blocks digest blocks start
