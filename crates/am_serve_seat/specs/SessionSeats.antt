-- A session's seats, and what it does with them.
use Rattle.std.specs.Prelude.{◌≡◌, ◌≢◌, ◌≤◌, ◌<◌, ◌==◌, ◌⊎◌, ℕ, List, ◌∷◌, [], ◌++◌, Bool, Option, max, map, filter}
use Rattle.std.specs.Prelude.{MatchBool, length}
use Rattle.am_record.specs.Limits.{max_runs}
use Rattle.am_record.specs.declared.step.Step.{Step}
use Rattle.am_record.specs.declared.step.Reply.{Reply}
use Rattle.am_record.specs.declared.step.Reply.TheVariants.{Committed, Refused}
use Rattle.am_record.specs.declared.step.Refusal.TheVariants.{NoMemory}
use Rattle.am_law_serial.specs.Trace.{Trace}
use Rattle.am_latch_ties.specs.declared.receipt.Receipt.{Receipt}
use Rattle.am_latch_engine.specs.Changes.{is_stored}
use Rattle.am_latch.specs.Receipts.{SeatState, HasReceiptOf}
use Rattle.am_latch.specs.Ties.{open_of}
use Rattle.am_latch.specs.Wants.{CallMayWant}
use Rattle.am_latch_counters.specs.Counters.{CounterHistory, most_draws}
use Rattle.am_line_dialogue.specs.Backends.{BackendMeaning}
use Rattle.am_serve_seat.specs.ToldSessions.{TellsServed}
use Rattle.am_line_dialogue.specs.declared.response.EndAnswer.{EndAnswer}
use Rattle.am_line_dialogue.specs.declared.response.EndAnswer.TheVariants.{EndsItself}

pub record SessionSeatState : Type 0 where
  pub seat : SeatState
  pub counter_seat : CounterHistory
  pub number : ℕ

-- the transaction that is open in the seat
abbrev pub open_at : SessionSeatState → Option ℕ
open_at p = open_of p.seat.receipts

-- a commit's number is published
abbrev pub published : CounterHistory → Reply → CounterHistory
published counter_seat (Committed c) = record counter_seat { published = max counter_seat.published c }
published counter_seat reply = counter_seat

-- its receipts are the same, some of which may have been let go
pub record HasSameReceipts (s t : SeatState) : Type 0 where
  pub number : t.number ≡ s.number
  pub receipts : t.receipts ≡ s.receipts

-- the seat, which may have let receipts go, has one of the call, memory is refused only to one that may want it at a
-- latch with some number of seats whose store makes so many runs at most, and a commit is published
pub record MakesCall (most_runs : ℕ) (old : SessionSeatState) (step : Step) (reply : Reply)
    (new : SessionSeatState) : Type 0 where
  pub free : SeatState
  pub freed : HasSameReceipts old.seat free
  pub called : HasReceiptOf free step reply new.seat
  pub memory : reply ≡ Refused NoMemory → (seats : ℕ) × CallMayWant seats most_runs free step
  pub counter_seat : new.counter_seat ≡ published old.counter_seat reply
  pub number : new.number ≡ old.number

-- the number that was drawn, and what the counters show: no less than this session saw or published
pub record ShowsCounts (old : SessionSeatState) (number commits : ℕ) (new : SessionSeatState) : Type 0 where
  pub drawn : number ≡ old.number
  pub saw : new ≡ record old { counter_seat = record old.counter_seat { saw = commits } }
  pub later : (old.counter_seat.saw ≤ commits) × (old.counter_seat.published ≤ commits)

-- END of its own number ends the session itself, and that of no other does
abbrev pub EndsOwn : SessionSeatState → ℕ → EndAnswer → Type 0
EndsOwn p session answer = MatchBool (session == p.number) (answer ≡ EndsItself) (answer ≢ EndsItself)

-- Who would hold may hear anything: that is for the turnstile. Which sessions are served is for the connections. When a
-- transaction lapses is for the clock. It does so only at a server that stays, which alone makes so many runs.
abbrev pub seat_meaning : ℕ → BackendMeaning SessionSeatState
seat_meaning most_runs = record {
  active = open_at;
  steps = MakesCall most_runs;
  shows = ShowsCounts;
  holds = λ p millis answer. Unit {0};
  tells = λ p which told. TellsServed which told;
  ends = EndsOwn;
  lapses = max_runs < most_runs;
}

-- the number is drawn, unless 2 ^ 50 were
abbrev pub HasDrawn : SessionSeatState → Bool → SessionSeatState → Type 0
HasDrawn old drew new = MatchBool drew
    (new ≡ record old {
      counter_seat = record old.counter_seat { drawn = old.counter_seat.drawn ++ new.number ∷ [] };
      number = new.number;
    })
    ((length old.counter_seat.drawn ≡ most_draws) × (new ≡ old))

-- the steps and replies of receipts
abbrev pub taken : List Receipt → Trace
taken receipts = map (λ (r : Receipt). (r.step, r.reply)) receipts

-- the events that stand in the trace of the latch: all but those that were refused memory or for a full seat
abbrev pub stored_events : Trace → Trace
stored_events events = filter (λ (e : Step × Reply). is_stored e.1) events

-- What was published by the seat is 0, or the number of a commit of which its seat has the receipt. So the watch,
-- which is the greatest published number, is such a number: and each receipt's pair stands in the trace of its latch.
abbrev pub IsPublishedByReceipt : SessionSeatState → Type 0
IsPublishedByReceipt p =
    (p.counter_seat.published ≡ 0)
    ⊎ ((before after : Trace) × (step : Step)
    × (taken p.seat.receipts ≡ before ++ (step, Committed p.counter_seat.published) ∷ after))

-- the session's number is the newest that was drawn
abbrev pub IsNumbered : SessionSeatState → Type 0
IsNumbered p = (before : List ℕ) × (p.counter_seat.drawn ≡ before ++ p.number ∷ [])

-- The seat has a receipt of each event that is stored, in their order, and what is published is one of them.
pub record HasReceipts (old : SessionSeatState) (events : Trace) (new : SessionSeatState) : Type 0 where
  pub seat : new.seat.number ≡ old.seat.number
  pub receipts : taken new.seat.receipts ≡ taken old.seat.receipts ++ stored_events events
  pub published : IsPublishedByReceipt old → IsPublishedByReceipt new
