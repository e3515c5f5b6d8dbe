-- The lock that each operation asks for, and the locks that a transaction holds by its operations.
use Rattle.std.specs.Prelude.{List, [], ◌∷◌, Bool, false, ◌&&◌, Option, Some, None}
use Rattle.std.specs.List.{list_any}
use Rattle.am_record.specs.OrderedKey.{OrderedKey, key_least}
use Rattle.am_record.specs.Interval.{Interval, within, point}
use Rattle.am_record.specs.Records.{Records}
use Rattle.am_record.specs.Locks.{is_exclusive, conflicts, with_lock}
use Rattle.am_record.specs.declared.lock.Mode.TheVariants.{Shared, Exclusive}
use Rattle.am_record.specs.declared.lock.Lock.{Lock}
use Rattle.am_record.specs.declared.step.Op.{Op}
use Rattle.am_record.specs.declared.step.Op.TheVariants.{Get, Scan, ScanBack, Insert, Replace, Set, Delete}
use Rattle.am_record.specs.declared.step.Op.TheVariants.{DeleteRange, Load, Put, Lock as TakeLock, Mark, Back}

abbrev pub last_key : OrderedKey → Records → OrderedKey
last_key k [] = k
last_key k (r ∷ rs) = last_key r.0 rs

-- from the first key to the last. A load or a put of no records is refused before it asks for a lock
abbrev pub span : Records → Interval
span [] = point key_least
span (r ∷ rs) = record { lo = r.0; hi = last_key r.0 rs }

-- a shared lock to read, an exclusive one to write; Mark and Back ask for none
abbrev pub lock_of : Op → Option Lock
lock_of (Get k) = Some (record { mode = Shared; range = point k })
lock_of (Scan range max) = Some (record { mode = Shared; range = range })
lock_of (ScanBack range max) = Some (record { mode = Shared; range = range })
lock_of (Insert k v) = Some (record { mode = Exclusive; range = point k })
lock_of (Replace k v) = Some (record { mode = Exclusive; range = point k })
lock_of (Set k v) = Some (record { mode = Exclusive; range = point k })
lock_of (Delete k) = Some (record { mode = Exclusive; range = point k })
lock_of (DeleteRange range max) = Some (record { mode = Exclusive; range = range })
lock_of (Load records) = Some (record { mode = Exclusive; range = span records })
lock_of (Put records) = Some (record { mode = Exclusive; range = span records })
lock_of (TakeLock lock) = Some lock
lock_of Mark = None
lock_of Back = None

-- a transaction's locks after it was granted what it asked for
abbrev pub with_asked : List Lock → Option Lock → List Lock
with_asked own None = own
with_asked own (Some asked) = with_lock own asked

-- whether what is asked for conflicts with one of another's locks
abbrev pub clashes : Option Lock → List Lock → Bool
clashes None held = false
clashes (Some asked) held = list_any (conflicts asked) held

-- the locks of a transaction that held these and did the operations
abbrev pub locks_from : List Lock → List Op → List Lock
locks_from own [] = own
locks_from own (op ∷ ops) = locks_from (with_asked own (lock_of op)) ops

-- the locks of a transaction that did the operations
abbrev pub locks_of : List Op → List Lock
locks_of ops = locks_from [] ops

-- whether the lock has the key; whether it has it exclusively
abbrev pub has_key : OrderedKey → Lock → Bool
has_key q l = within l.range q

abbrev pub owns_key : OrderedKey → Lock → Bool
owns_key q l = is_exclusive l.mode && within l.range q

-- the same of some lock among these
abbrev pub holds : List Lock → OrderedKey → Bool
holds locks q = list_any (has_key q) locks

abbrev pub owns : List Lock → OrderedKey → Bool
owns locks q = list_any (owns_key q) locks
