-- Which steps may be refused for want of memory.
use Rattle.std.specs.Prelude.{nat_le, length, List, Bool, true, false, not, ◌&&◌, ◌||◌, Option, Some, None}
use Rattle.am_record.specs.Locks.{is_covered}
use Rattle.am_record.specs.Asks.{lock_of}
use Rattle.am_record.specs.declared.lock.Lock.{Lock}
use Rattle.am_record.specs.declared.step.Op.{Op}
use Rattle.am_record.specs.declared.step.Step.{Step}
use Rattle.am_record.specs.declared.step.Step.TheVariants.{Do, Merge}
use Rattle.am_law_sound.specs.StoreState.{Active, StoreState, in_table}
use Rattle.am_store_operations.specs.Memory.{wants_room}

-- the lock would be added to eight or more: eight stand in the table itself
abbrev pub adds_ninth_lock : List Lock → Option Lock → Bool
adds_ninth_lock own None = false
adds_ninth_lock own (Some asked) = not (is_covered own asked) && nat_le 8 (length own)

-- whether the operation of that transaction may want memory: for its lock, or for what it does
abbrev pub may_want_room : StoreState → Active → Op → Bool
may_want_room p x op = adds_ninth_lock x.locks (lock_of op) || wants_room op p.entries x.notes x.marks

-- whether the step may be refused for want of memory: a Begin, a Commit, an Abort, a Clean and a Back never are
abbrev pub may_want_memory : StoreState → Step → Bool
may_want_memory p (Do t op) = may_want_room p (in_table p.active t) op
may_want_memory p (Merge limit) = true
may_want_memory p _ = false
