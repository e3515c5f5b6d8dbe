-- What a step with its reply does to the transactions, and which are active after a trace.
use Rattle.std.specs.Prelude.{◌≡◌, ℕ, ◌≤◌, nat_le, List, [], ◌∷◌, ◌++◌, length, map, Bool, true, false}
use Rattle.std.specs.Prelude.{if◌then◌else◌, Option, Some, None}
use Rattle.am_record.specs.Limits.{max_limit, max_rows}
use Rattle.am_record.specs.ByNumber.{has_number, without_number}
use Rattle.am_record.specs.declared.step.Op.TheVariants.{Scan, ScanBack}
use Rattle.am_record.specs.declared.step.Step.{Step}
use Rattle.am_record.specs.declared.step.Step.TheVariants.{Begin, Do, Commit, Abort}
use Rattle.am_record.specs.declared.step.Refusal.TheVariants.{NoMemory, SeatFull}
use Rattle.am_record.specs.declared.step.Reply.{Reply}
use Rattle.am_record.specs.declared.step.Reply.TheVariants.{Begun, Rows, Committed, Aborted, Moved, Refused}
use Rattle.am_law_serial.specs.Trace.{Trace, Effect}
use Rattle.am_law_serial.specs.Trace as effect
use Rattle.am_law_sound.specs.StoreState.{Active, StoreState}
use Rattle.am_store.specs.StoreSteps.{IsSoundAt}
use Rattle.am_latch_engine.specs.declared.change.Change.{Change}
use Rattle.am_latch_engine.specs.declared.change.Change.TheVariants.{Begins, Ends, Nothing}

-- what an effect does to the transactions that are active
abbrev pub change_of : Effect → Change
change_of (effect.Begins t) = Begins t
change_of (effect.Commits t) = Ends t
change_of (effect.Aborts t) = Ends t
change_of _ = Nothing

abbrev pub change : Step → Reply → Change
change st r = change_of (effect.effect st r)

-- the transaction that the step is to end
abbrev pub end_of : Step → Option ℕ
end_of (Commit t) = Some t
end_of (Abort t) = Some t
end_of _ = None

abbrev pub is_begin : Step → Bool
is_begin Begin = true
is_begin _ = false

abbrev pub is_refused : Reply → Bool
is_refused (Refused why) = true
is_refused _ = false

-- no step was taken at these two, so they don't stand in the trace
abbrev pub is_stored : Reply → Bool
is_stored (Refused NoMemory) = false
is_stored (Refused SeatFull) = false
is_stored _ = true

-- how many rows the reply to a step may have
abbrev pub room_of : Step → ℕ
room_of (Do t (Scan range max)) = if nat_le max max_rows then max else 0
room_of (Do t (ScanBack range max)) = if nat_le max max_rows then max else 0
room_of _ = 0

abbrev pub count_rows : Reply → ℕ
count_rows (Rows rows) = length rows
count_rows _ = 0

-- how many entries the reply says were moved
abbrev pub moves_in : Reply → ℕ
moves_in (Moved n run) = n
moves_in _ = 0

abbrev pub has : ℕ → List ℕ → Bool
has t ts = has_number (λ u. u) ts t

-- the active transactions after that
abbrev pub numbers_with : List ℕ → Change → List ℕ
numbers_with ts (Begins t) = ts ++ t ∷ []
numbers_with ts (Ends t) = without_number (λ u. u) t ts
numbers_with ts Nothing = ts

abbrev pub active_from : List ℕ → Trace → List ℕ
active_from ts [] = ts
active_from ts (e ∷ trace) = active_from (numbers_with ts (change e.0 e.1)) trace

abbrev pub active_in_trace : Trace → List ℕ
active_in_trace trace = active_from [] trace

-- the transaction of a seat, after a call of its own
abbrev pub open_after : Option ℕ → Change → Option ℕ
open_after o (Begins t) = Some t
open_after o (Ends t) = None
open_after o Nothing = o

-- the active transactions of a store
abbrev pub numbers_active : StoreState → List ℕ
numbers_active p = map (λ (x : Active). x.number) p.active

-- the trace is sound, the store is where it leaves it, and has its active transactions
pub record HasTrace (trace : Trace) (p : StoreState) : Type 0 where
  pub stands : IsSoundAt trace p
  pub active : numbers_active p ≡ active_in_trace trace

-- The pair may follow where these transactions are active: one that begins is not active yet, and one that ends is.
-- A step that is to end one ends it, or is refused; refused only where it is not active
pub record MayFollow (ts : List ℕ) (st : Step) (r : Reply) : Type 0 where
  pub begins : (t : ℕ) → change st r ≡ Begins t → has t ts ≡ false
  pub ends : (t : ℕ) → change st r ≡ Ends t → has t ts ≡ true
  pub ended : (t : ℕ) → end_of st ≡ Some t → has t ts ≡ true → change st r ≡ Ends t
  pub unknown : (t : ℕ) → end_of st ≡ Some t → has t ts ≡ false → is_refused r ≡ true

-- Begun answers a Begin, Committed a Commit, and Aborted an Abort.
abbrev pub IsReplyTo : Step → Reply → Type 0
IsReplyTo st (Begun t) = st ≡ Begin
IsReplyTo st (Committed c) = (t : ℕ) × (st ≡ Commit t)
IsReplyTo st Aborted = (t : ℕ) × (st ≡ Abort t)
IsReplyTo st _ = Unit {0}

-- what a reply may answer, how long it may be, and how much a merge may move
pub record IsBoundedReply (st : Step) (r : Reply) : Type 0 where
  pub fits : IsReplyTo st r
  pub rows : count_rows r ≤ room_of st
  pub moves : moves_in r ≤ max_limit

-- what a step owes: the trace goes on, and a refused step leaves the store where it was
pub record GoesOnWith (trace : Trace) (st : Step) (r : Reply) (p : StoreState) : Type 0 where
  pub here : HasTrace (trace ++ (st, r) ∷ []) p
  pub refused : is_refused r ≡ true → HasTrace trace p
  pub answers : MayFollow (active_in_trace trace) st r
