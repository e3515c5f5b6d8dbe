-- Which range a worker reads that nobody asked for, how it reads it, and where it goes on.
use Rattle.std.specs.Prelude.{◌≡◌, ◌⊎◌, ℕ, ◌<◌, ◌==◌, nat_lt, List, Bool, true, false, Option, Some, None}
use Rattle.std.specs.Prelude.{is_some, not}
use Rattle.am_record.specs.OrderedKey.{OrderedKey, key_least}
use Rattle.am_record.specs.Interval.{Interval, IsFrom, key_le, key_greatest}
use Rattle.am_record.specs.declared.entry.Entry.{Entry}
use Rattle.am_record.specs.declared.step.Op.TheVariants.{Scan}
use Rattle.am_record.specs.declared.step.Step.{Step}
use Rattle.am_record.specs.declared.step.Step.TheVariants.{Begin, Do, Commit, Abort}
use Rattle.am_record.specs.declared.step.Reply.{Reply}
use Rattle.am_record.specs.declared.step.Reply.TheVariants.{Begun, Rows}
use Rattle.am_index_parts.specs.Catalogs.{HasRuns}
use Rattle.am_law_serial.specs.Trace.{Trace}
use Rattle.am_law_sound.specs.StoreState.{StoreState}
use Rattle.am_store.specs.StoreSteps.{IsSoundAt}
use Rattle.am_store_merge.specs.Fronts.{IsNextInRuns}
use Rattle.am_latch_engine.specs.Traces.{EngineState}
use Rattle.am_latch_engine.specs.Changes.{is_stored}
use Rattle.am_latch.specs.Holds.{IsCalledOn}
use Rattle.am_latch.specs.Ties.{EndsTx, IsEngineOf, HasReceiptsIn, open_of}
use Rattle.am_latch.specs.Receipts.{SeatState, HasReceiptOf, moved_in}
use Rattle.am_serve_connections.specs.declared.turns.Outlook.{Outlook}
use Rattle.am_serve_connections.specs.declared.turns.Outlook.TheVariants.{More, Held}
use Rattle.am_serve_workers.specs.declared.read_turn.ReadPlace.{ReadPlace}

-- the next piece of what runs have from the key on; none where no range begins there
abbrev pub IsNextFrom : List Entry → OrderedKey → Option Interval → Type 0
IsNextFrom es key next = ((range : Interval) × IsFrom key range × IsNextInRuns es range next) ⊎
    ((key_le key key_greatest ≡ false) × (next ≡ None))

-- the one that was found, or else the next from the least key on
abbrev pub IsElse : List Entry → Option Interval → Option Interval → Type 0
IsElse es (Some range) next = next ≡ Some range
IsElse es None next = IsNextFrom es key_least next

-- where runs are too many, the next piece from the key on, or else from the least one on; and else none
abbrev pub IsPieceWhere : Bool → List Entry → OrderedKey → Option Interval → Type 0
IsPieceWhere true es key next = (here : Option Interval) × IsNextFrom es key here × IsElse es here next
IsPieceWhere false es key next = next ≡ None

-- it is the range to read that nobody asked for, from a key on, where more runs than so many have entries
pub record IsPiece (es : List Entry) (runs : ℕ) (key : OrderedKey) (piece : Option Interval) : Type 0 where
  pub count : ℕ
  pub counted : HasRuns es count
  pub next : IsPieceWhere (nat_lt runs count) es key piece

-- the same in the store to which the trace leads
pub record IsPieceSeen (runs : ℕ) (key : OrderedKey) (trace : Trace) (piece : Option Interval) : Type 0 where
  pub store : StoreState
  pub stands : IsSoundAt trace store
  pub next : IsPiece store.entries runs key piece

-- a look for one of the seats of a latch, of which there are so many, found this range to read
abbrev pub FoundPiece : ℕ → ℕ → OrderedKey → SeatState → Option Interval → Type 0
FoundPiece seats runs key s next = (engine : EngineState) × IsEngineOf seats engine × HasReceiptsIn engine s ×
    IsPieceSeen runs key engine.trace next

-- whether a scan was answered
abbrev pub is_read : Reply → Bool
is_read (Rows rows) = true
is_read _ = false

-- the end of a transaction that is to read: it commits, where its scan was answered
abbrev pub end_after : ℕ → Bool → Step
end_after tx true = Commit tx
end_after tx false = Abort tx

-- a scan for one record of the range, and the end of its transaction, by who held the latch before
pub record Scans (range : Interval) (tx : ℕ) (held : Option Trace) (s : SeatState) (reads : Bool) (t : SeatState) :
    Type 0 where
  pub reply : Reply
  pub between : Option Trace
  pub middle : SeatState
  pub scanned : HasReceiptOf s (Do tx (Scan range 1)) reply middle
  pub scanned_there : IsCalledOn held s (Do tx (Scan range 1)) reply between middle
  pub answer : reads ≡ is_read reply
  pub end_reply : Reply
  pub later : Option Trace
  pub ended : EndsTx (end_after tx reads) end_reply
  pub stored : is_stored end_reply ≡ true
  pub ended_there : IsCalledOn between middle (end_after tx reads) end_reply later t

-- nothing was read, and there is no transaction
pub record ReadNothing (s : SeatState) (reads : Bool) (t : SeatState) : Type 0 where
  pub none : reads ≡ false
  pub same : t ≡ s

abbrev pub ThenScans : Reply → Interval → Option Trace → SeatState → Bool → SeatState → Type 0
ThenScans (Begun tx) range held s reads t = Scans range tx held s reads t
ThenScans reply range held s reads t = ReadNothing s reads t

-- one record of the range was read in a transaction of its own, whose steps were taken under one hold of the latch: so
-- they stand in the trace one right after another
pub record ReadsRange (range : Interval) (s : SeatState) (reads : Bool) (t : SeatState) : Type 0 where
  pub reply : Reply
  pub held : Option Trace
  pub begun : SeatState
  pub begins : HasReceiptOf s Begin reply begun
  pub begins_there : IsCalledOn None s Begin reply held begun
  pub scans : ThenScans reply range held begun reads t

-- More is left where the range was read, unless nothing was moved since the read before. Then others hold it, or merge.
abbrev pub read_outlook : Bool → Bool → Outlook
read_outlook true true = More
read_outlook _ _ = Held

-- where a worker goes on to read: where the range ends; and how many entries it had moved
abbrev pub read_behind : Interval → ℕ → ReadPlace
read_behind range moved = record { key = range.hi; moved = moved }

-- a range was found and read, or it was tried
pub record ReadSome (seats runs : ℕ) (from : ReadPlace) (s : SeatState) (outlook : Outlook) (to : ReadPlace)
    (t : SeatState) : Type 0 where
  pub unasked : 0 < runs
  pub idle : open_of s.receipts ≡ None
  pub range : Interval
  pub found : FoundPiece seats runs from.key s (Some range)
  pub reads : Bool
  pub read : ReadsRange range s reads t
  pub seen : outlook ≡ read_outlook reads (not (from.moved == moved_in s.receipts))
  pub behind : to ≡ read_behind range (moved_in s.receipts)

-- nothing was to read, by a worker that never reads, or with a transaction that is open in its seat, or that found none
pub record ReadNone (seats runs : ℕ) (from : ReadPlace) (s : SeatState) (to : ReadPlace) (t : SeatState) :
    Type 0 where
  pub none : (runs ≡ 0) ⊎ ((is_some (open_of s.receipts) ≡ true) ⊎ FoundPiece seats runs from.key s None)
  pub there : to ≡ from
  pub same : t ≡ s

abbrev pub HasRead : ℕ → ℕ → ReadPlace → SeatState → Option Outlook → ReadPlace → SeatState → Type 0
HasRead seats runs from s (Some outlook) to t = ReadSome seats runs from s outlook to t
HasRead seats runs from s None to t = ReadNone seats runs from s to t
