-- Which ghost a worker cleans from, what it cleans, and where it goes on.
use Rattle.std.specs.Prelude.{◌≡◌, ◌⊎◌, ℕ, ◌+◌, ◌*◌, ◌-◌, nat_le, nat_lt, min, List, length, Bool, false}
use Rattle.std.specs.Prelude.{Option, Some, None, if◌then◌else◌, ◌||◌, ◌&&◌}
use Rattle.std.specs.Option.{option_or}
use Rattle.am_record.specs.OrderedKey.{OrderedKey, key_least}
use Rattle.am_record.specs.Interval.{Interval, IsFrom, key_le, key_greatest}
use Rattle.am_record.specs.declared.entry.Entry.{Entry}
use Rattle.am_record.specs.declared.step.Reply.{Reply}
use Rattle.am_record.specs.declared.step.Reply.TheVariants.{Cleaned}
use Rattle.am_record.specs.declared.step.Step.TheVariants.{Clean}
use Rattle.am_index.specs.Entries.{next_ghost}
use Rattle.am_index_parts.specs.Catalogs.{left_in, live_in}
use Rattle.am_law_serial.specs.Trace.{Trace}
use Rattle.am_law_sound.specs.StoreState.{StoreState}
use Rattle.am_store.specs.StoreSteps.{IsSoundAt}
use Rattle.am_latch_engine.specs.Traces.{EngineState}
use Rattle.am_latch.specs.Ties.{IsEngineOf, HasReceiptsIn}
use Rattle.am_latch.specs.Receipts.{SeatState, HasReceiptOf}
use Rattle.am_serve_workers.specs.declared.clean_turn.Place.{Place}

-- at least one entry of 1,024 is a ghost
abbrev pub has_many_ghosts : List Entry → Bool
has_many_ghosts es = nat_le (length es) (1024 * (length es - live_in es))

-- where ghosts are many: the first from that partition and key on, or else the first of all
abbrev pub ghost_to_clean : List Entry → ℕ → OrderedKey → Option Entry
ghost_to_clean es part key =
    if has_many_ghosts es then option_or (next_ghost es part key) (next_ghost es 0 key_least) else None

-- Where to go on after a Clean from the entry's key on: where it cleaned fewer than 64, at the next partition, since
-- all ghosts left there are locked; else at the entry itself.
abbrev pub place_behind : Entry → Reply → Place
place_behind e (Cleaned n) =
    if nat_lt n 64 then record { part = min 4294967295 (e.part + 1); key = key_least }
    else record { part = e.part; key = e.key }
place_behind e _ = record { part = e.part; key = e.key }

-- whether a run has entries, which may be asked for and then merged
abbrev pub has_runs : List Entry → Bool
has_runs es = nat_lt (left_in 0 es) (length es)

-- whether something may be to do before a run is loaded: a run has entries, or there are ghosts, and many
abbrev pub has_work : List Entry → Bool
has_work es = has_runs es || (nat_lt 0 (length es - live_in es) && has_many_ghosts es)

-- it is the ghost to clean, from a place on, in the store to which the trace leads, and whether there is work in it
pub record IsSeen (from : Place) (trace : Trace) (ghost : Option Entry) (works : Bool) : Type 0 where
  pub store : StoreState
  pub stands : IsSoundAt trace store
  pub next : ghost ≡ ghost_to_clean store.entries from.part from.key
  pub work : works ≡ has_work store.entries

-- whether runs have entries in the store to which the trace leads
pub record AreRunsSeen (trace : Trace) (works : Bool) : Type 0 where
  pub store : StoreState
  pub stands : IsSoundAt trace store
  pub work : works ≡ has_runs store.entries

-- a look for one of the seats of a latch, of which there are so many, saw whether runs have entries
abbrev pub SawRuns : ℕ → SeatState → Bool → Type 0
SawRuns seats s works = (engine : EngineState) × IsEngineOf seats engine × HasReceiptsIn engine s ×
    AreRunsSeen engine.trace works

-- a look for one of the seats of a latch, of which there are so many, found this ghost to clean from a place on
pub record Found (seats : ℕ) (from : Place) (s : SeatState) (works : Bool) (ghost : Option Entry) : Type 0 where
  pub engine : EngineState
  pub of : IsEngineOf seats engine
  pub own : HasReceiptsIn engine s
  pub seen : IsSeen from engine.trace ghost works

-- the ghost that was found, and all ghosts from its key on, 64 at most, were to be cleaned
pub record CleanedFrom (seats : ℕ) (from : Place) (s : SeatState) (works : Bool) (reply : Reply) (to : Place)
    (t : SeatState) : Type 0 where
  pub ghost : Entry
  pub found : Found seats from s works (Some ghost)
  pub range : Interval
  pub all : IsFrom ghost.key range
  pub called : HasReceiptOf s (Clean range 64) reply t
  pub behind : to ≡ place_behind ghost reply

-- there was no ghost to clean, or no range begins at its key, and nothing changed
pub record CleanedNone (seats : ℕ) (from : Place) (s : SeatState) (works : Bool) (to : Place) (t : SeatState) :
    Type 0 where
  pub ghost : Option Entry
  pub found : Found seats from s works ghost
  pub none : (ghost ≡ None) ⊎ ((e : Entry) × (ghost ≡ Some e) × (key_le e.key key_greatest ≡ false))
  pub same : t ≡ s
  pub there : to ≡ from

-- from one place to the other, by whether there was work and the reply of the Clean, where a step was taken
abbrev pub HasCleaned : ℕ → Place → SeatState → Bool → Option Reply → Place → SeatState → Type 0
HasCleaned seats from s works (Some reply) to t = CleanedFrom seats from s works reply to t
HasCleaned seats from s works None to t = CleanedNone seats from s works to t
