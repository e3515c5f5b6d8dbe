-- Calls by who has the latch from one to the next: they stand in the trace one right after another.
use Rattle.std.specs.Prelude.{◌≡◌, ◌++◌, [], ◌∷◌, length, MatchBool, Option, Some, None}
use Rattle.am_record.specs.declared.step.Step.{Step}
use Rattle.am_record.specs.declared.step.Reply.{Reply}
use Rattle.am_law_serial.specs.Trace.{Trace}
use Rattle.am_latch_ties.specs.Receipts.{receipt}
use Rattle.am_latch_engine.specs.Changes.{is_stored}
use Rattle.am_latch.specs.Receipts.{SeatState, seat_state}

-- the trace of a latch as a call finds it: that which the call before left, where the latch is held since then
abbrev pub IsTraceFound : Option Trace → Trace → Type 0
IsTraceFound (Some trace) found = found ≡ trace
IsTraceFound None found = Unit {0}

-- the call's pair follows what it found, and its receipt says that it stands there
abbrev pub StandsNext : Option Trace → SeatState → Step → Reply → Option Trace → SeatState → Type 0
StandsNext held s st r held' t = (found : Trace) × IsTraceFound held found × (held' ≡ Some (found ++ (st, r) ∷ [])) ×
    (t ≡ seat_state s.number (s.receipts ++ receipt s.number (length s.receipts) st r (length found) ∷ []) s.let_go)

-- where the latch is held it stays so, and its trace as it is
abbrev pub StaysHeld : Option Trace → Option Trace → Type 0
StaysHeld (Some trace) held' = held' ≡ Some trace
StaysHeld None held' = Unit {0}

-- what a call does by whether it is stored, from one hold of the latch, or none, to another
abbrev pub IsCalledOn : Option Trace → SeatState → Step → Reply → Option Trace → SeatState → Type 0
IsCalledOn held s st r held' t = MatchBool (is_stored r) (StandsNext held s st r held' t) (StaysHeld held held')
