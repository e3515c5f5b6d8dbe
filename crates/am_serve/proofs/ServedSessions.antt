-- Whatever its end, a session keeps its seat.
use Rattle.std.proofs.Common.{ℕ, List, [], ◌∷◌, ◌++◌, Option, Some, None, ap, sym, subst, inl, inr}
use Rattle.am_law_serial.specs.Trace.{Trace}
use Rattle.am_line_dialogue.specs.Exchanges.{Exchange}
use Rattle.am_line_dialogue.specs.Conversation.{AnswersAll}
use Rattle.am_line_session.specs.ServedSessions.{Served}
use Rattle.am_line_session.specs.declared.end.End.{End}
use Rattle.am_line_session.specs.declared.end.End.TheVariants.{Quit, EndedItself, EndedByAnother, EndOfInput}
use Rattle.am_line_session.specs.declared.end.End.TheVariants.{ReadFailed, WriteFailed, NoMemory}
use Rattle.am_serve_seat.specs.SessionSeats.{SessionSeatState, seat_meaning, HasReceipts, IsPublishedByReceipt}
use Rattle.am_serve.specs.ServerTraces.{HasSameSeat, WasServed}

module _ {S K : Type 0} (most_runs : ℕ) (comes : S → List ℕ → Type 0) (holds : K → Option (List ℕ))
    (parts : SessionSeatState → K → K →
    Type 0) (s : S) (k : K) (b : SessionSeatState) (s' : S) (k' : K) (b' : SessionSeatState) where
  pub was_served : (end : End) → Served comes holds parts (seat_meaning most_runs) 0 s k b s' k' b' end →
      WasServed most_runs b b'
  was_served Quit h = inr (h.exchanges, None, h.events, h.does)
  was_served EndedItself h = inr (h.exchanges ++ h.last ∷ [], None, h.events, h.does)
  was_served EndedByAnother h = inr (h.exchanges, None, h.events, h.does)
  was_served EndOfInput h = inr (h.exchanges, None, h.events, h.does)
  was_served ReadFailed h = inr (h.exchanges, None, h.events, h.does)
  was_served WriteFailed (inl h) = inr (h.exchanges, Some h.last, h.events, h.does)
  was_served WriteFailed (inr h) = inr (h.1.exchanges, None, h.1.events, h.1.does)
  was_served NoMemory h = inl h.same

module _ (most_runs : ℕ) (b b' : SessionSeatState)
    (receipts : (auto : ℕ) (old new : SessionSeatState) (exchanges : List Exchange) (torn : Option Exchange)
    (events : Trace) → AnswersAll (seat_meaning most_runs) auto old exchanges torn events new →
    HasReceipts old events new) where
  pub has_published : WasServed most_runs b b' → IsPublishedByReceipt b → IsPublishedByReceipt b'
  has_published (inl same) is = subst IsPublishedByReceipt (sym same) is
  has_published (inr h) is = (receipts 0 b b' h.0 h.1 h.2 h.3).published is

  pub has_same_seat : WasServed most_runs b b' → HasSameSeat b b'
  has_same_seat (inl same) = ap (λ (p : SessionSeatState). p.seat.number) same
  has_same_seat (inr h) = (receipts 0 b b' h.0 h.1 h.2 h.3).seat
