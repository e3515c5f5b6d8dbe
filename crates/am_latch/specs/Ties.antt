-- The transaction of each seat, and how the seats' transactions are those that are active.
use Rattle.std.specs.Prelude.{◌≡◌, ◌<◌, ◌≤◌, ℕ, ◌+◌, ◌==◌, List, [], ◌∷◌, ◌++◌, true, Option, Some, None}
use Rattle.std.specs.Prelude.{if◌then◌else◌, slice_get}
use Rattle.std.specs.Int.{next_multiple_of}
use Rattle.am_record.specs.declared.step.Step.{Step}
use Rattle.am_record.specs.declared.step.Step.TheVariants.{Begin, Do, Commit, Abort, Merge, Clean}
use Rattle.am_record.specs.declared.step.Reply.{Reply}
use Rattle.am_latch_engine.specs.declared.change.Change.TheVariants.{Ends}
use Rattle.am_latch_engine.specs.Changes.{change, end_of, open_after, has, active_in_trace}
use Rattle.am_latch_ties.specs.declared.receipt.Receipt.{Receipt}
use Rattle.am_latch_ties.specs.declared.call_id.CallId.{CallId}
use Rattle.am_latch_ties.specs.CallLogs.{CallLog}
use Rattle.am_latch_engine.specs.Traces.{EngineState, log_of, AreMadeBelow}
use Rattle.am_latch_ties.specs.Receipts.{receipts_of}
use Rattle.am_latch.specs.Receipts.{SeatState}

abbrev pub open_from : Option ℕ → List Receipt → Option ℕ
open_from o [] = o
open_from o (r ∷ rs) = open_from (open_after o (change r.step r.reply)) rs

-- the open transaction of a seat with these receipts
abbrev pub open_of : List Receipt → Option ℕ
open_of rs = open_from None rs

-- a Commit was answered Committed, an Abort Aborted
abbrev pub EndsTx : Step → Reply → Type 0
EndsTx st r = (t : ℕ) → end_of st ≡ Some t → change st r ≡ Ends t

-- what is open in a seat is active, no two seats have one transaction, and each that is active is some seat's
pub record AreTied (o : ℕ → Option ℕ) (ts : List ℕ) : Type 0 where
  pub active : (k t : ℕ) → o k ≡ Some t → has t ts ≡ true
  pub apart : (k l t : ℕ) → o k ≡ Some t → o l ≡ Some t → k ≡ l
  pub owned : (t : ℕ) → has t ts ≡ true → (k : ℕ) × (o k ≡ Some t)

abbrev pub open_in : CallLog → ℕ → Option ℕ
open_in e k = open_of (receipts_of k e)

abbrev pub IsTied : CallLog → Type 0
IsTied e = AreTied (open_in e) (active_in_trace e.trace)

-- how many of these calls are that seat's
abbrev pub calls_of : ℕ → List CallId → ℕ
calls_of k [] = 0
calls_of k (m ∷ ms) = (if m.seat == k then 1 else 0) + calls_of k ms

-- after the calls before, each of these has as its number how many of its seat are before it: a seat's are 0, 1, 2, ..
abbrev pub AreNumbered : List CallId → List CallId → Type 0
AreNumbered before [] = Unit {0}
AreNumbered before (m ∷ ms) = (m.call ≡ calls_of m.seat before) × AreNumbered (before ++ m ∷ []) ms

-- each call was made by one of the n seats of a latch, with the number that its receipt has, and what is open in them
-- is what is active
abbrev pub IsEngineOf : ℕ → EngineState → Type 0
IsEngineOf n e = AreMadeBelow n e.calls × AreNumbered [] e.calls × IsTied (log_of e)

-- the seat has the receipts of its calls that the engine stores
abbrev pub HasReceiptsIn : EngineState → SeatState → Type 0
HasReceiptsIn e s = s.receipts ≡ receipts_of s.number (log_of e)

-- what is open in the seats is what is active, each in one seat
pub record SeatsAreTied (seats : List SeatState) (ts : List ℕ) : Type 0 where
  pub active : (i t : ℕ) (s : SeatState) → slice_get seats i ≡ Some s → open_of s.receipts ≡ Some t → has t ts ≡ true
  pub apart : (i j t : ℕ) (s u : SeatState) → slice_get seats i ≡ Some s → slice_get seats j ≡ Some u →
      open_of s.receipts ≡ Some t → open_of u.receipts ≡ Some t → i ≡ j
  pub owned : (t : ℕ) → has t ts ≡ true → (i : ℕ) × (s : SeatState) × (slice_get seats i ≡ Some s) ×
      (open_of s.receipts ≡ Some t)

-- how many receipts need room: that of the end of an open transaction too
abbrev pub receipts_with : Option ℕ → ℕ
receipts_with (Some t) = 2
receipts_with None = 1

abbrev pub receipts_needed : Option ℕ → Step → ℕ
receipts_needed o Begin = 2
receipts_needed o (Commit t) = 1
receipts_needed o (Abort t) = 1
receipts_needed o (Do t op) = receipts_with o
receipts_needed o (Merge limit) = receipts_with o
receipts_needed o (Clean range limit) = receipts_with o

-- for how many receipts room is kept: for that of the end of an open transaction
abbrev pub receipts_kept : Option ℕ → ℕ
receipts_kept (Some t) = 1
receipts_kept None = 0

-- room for receipts is got by 64 at a time: for so many there is room where n of them want it
abbrev pub receipt_room : ℕ → ℕ
receipt_room n = next_multiple_of n 64

-- so many receipts, with room for one more while a transaction is open
abbrev pub HasRoomForReceipt : Option ℕ → ℕ → ℕ → Type 0
HasRoomForReceipt None len cap = len ≤ 1000001
HasRoomForReceipt (Some t) len cap = (len < cap) × (len ≤ 1000000)
