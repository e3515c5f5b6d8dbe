-- Who holds what, by a table of locks.
use Rattle.std.specs.Prelude.{ℕ, List, Option}
use Rattle.am_record.specs.OrderedKey.{OrderedKey}
use Rattle.am_record.specs.Owners.{holder_among}
use Rattle.am_store_locks.specs.OwnerLocks.{OwnerLocks}

-- the owner that holds an exclusive lock on the key, of which there is one at most
abbrev pub holder_of : List OwnerLocks → OrderedKey → Option ℕ
holder_of table = holder_among (λ (h : OwnerLocks). h.owner) (λ (h : OwnerLocks). h.locks) table
