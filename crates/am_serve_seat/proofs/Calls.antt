-- What is open in a seat after a call.
use Rattle.std.proofs.Common.{◌≡◌, ℕ, List, [], ◌∷◌, ◌++◌, Bool, true, false, Option, Some, None, length, refl, sym, ap}
use Rattle.std.proofs.Common.{subst}
use Rattle.std.proofs.Common.{◌∙◌, ◌-◌, arith, length-append}
use Rattle.std.specs.Prelude.{MatchBool, slice_get}
use Rattle.std.proofs.lemmas.Option.{slice_get-get_or}
use Rattle.std.proofs.Math.Seq.{get_or-append_seam}
use Rattle.am_record.specs.Sessions.{active_after}
use Rattle.am_record.specs.declared.step.Step.{Step}
use Rattle.am_record.specs.declared.step.Step.TheVariants.{Begin, Abort}
use Rattle.am_record.specs.declared.step.Reply.{Reply}
use Rattle.am_record.specs.declared.step.Reply.TheVariants.{Begun, Committed, Aborted, Refused}
use Rattle.am_latch_ties.specs.declared.receipt.Receipt.{Receipt}
use Rattle.am_latch_engine.specs.declared.change.Change.TheVariants.{Ends}
use Rattle.am_latch_engine.specs.Changes.{change, open_after, is_stored, IsReplyTo, IsBoundedReply}
use Rattle.am_latch_ties.specs.Receipts.{receipt}
use Rattle.am_latch.specs.Receipts.{SeatState, GetsReceipt, HasReceiptOf}
use Rattle.am_latch.specs.Wants.{CallMayWant}
use Rattle.am_record.specs.declared.step.Refusal.TheVariants.{NoMemory}
use Rattle.am_latch.specs.Ties.{open_from, open_of, EndsTx as IsEnded}
use Rattle.am_line_dialogue.specs.Actions.{EndsAbort}
use Rattle.am_serve_seat.specs.SessionSeats.{SessionSeatState, HasSameReceipts, MakesCall, published}

open_behind : (o : Option ℕ) (rs : List Receipt) (r : Receipt) → open_from o (rs ++ r ∷ []) ≡ open_after
    (open_from o rs) (change r.step r.reply)
open_behind o [] r = refl
open_behind o (q ∷ rs) r = open_behind (open_after o (change q.step q.reply)) rs r

-- what is open after a reply is what the reply says
opened_by : (o : Option ℕ) (st : Step) (r : Reply) → IsReplyTo st r → open_after o (change st r) ≡ active_after o r
opened_by o st (Begun t') f = ap (λ (s : Step). open_after o (change s (Begun t'))) f
opened_by o st (Committed c') f = ap (λ (s : Step). open_after o (change s (Committed c'))) f.1
opened_by o st Aborted f = ap (λ (s : Step). open_after o (change s Aborted)) f.1
opened_by o Begin reply f = refl
opened_by o step reply f = refl

unstored : (o : Option ℕ) (r : Reply) → is_stored r ≡ false → active_after o r ≡ o
unstored o (Refused why') e = refl
unstored o reply e = absurd (cc)

behind : (s s' : SeatState) (st : Step) (r : Reply) (b : Bool) → is_stored r ≡ b → IsReplyTo st r →
    MatchBool b (GetsReceipt s st r s') (s' ≡ s) → open_of s'.receipts ≡ active_after (open_of s.receipts) r
behind s s' st r true e f h =
    ap (λ (x : SeatState). open_of x.receipts) h.1 ∙
    open_behind None s.receipts (receipt s.number (length s.receipts) st r h.0) ∙ opened_by (open_of s.receipts) st r
    f
behind s s' st r false e f h = ap (λ (x : SeatState). open_of x.receipts) h ∙ sym (unstored (open_of s.receipts) r e)

pub active_behind : (s s' : SeatState) (st : Step) (r : Reply) → IsBoundedReply st r → HasReceiptOf s st r s' →
    open_of s'.receipts ≡ active_after (open_of s.receipts) r
active_behind s s' st r b h = behind s s' st r (is_stored r) refl b.fits h

abort_ends : (t : ℕ) (r : Reply) → change (Abort t) r ≡ Ends t → r ≡ Aborted
abort_ends t Aborted e = refl
abort_ends t reply e = absurd (cc)

pub aborts : (st : Step) (r : Reply) → IsEnded st r → EndsAbort st r
aborts (Abort t) r h = abort_ends t r (h t refl)
aborts step r h = tt

-- the last receipt after a commit is of it
last_one : (rs : List Receipt) (r : Receipt) → slice_get (rs ++ r ∷ []) (length (rs ++ r ∷ []) - 1) ≡ Some r
last_one rs r =
    ap (λ (n : ℕ). slice_get (rs ++ r ∷ []) n) (omega (arith, length-append rs (r ∷ []))) ∙
    slice_get-get_or (rs ++ r ∷ []) (length rs) r (omega (arith, length-append rs (r ∷ [])))
    ∙ ap Some (get_or-append_seam rs r [] r)

-- a seat that may have let receipts go, and then made the call, by how it is seen
pub makes_call : (seats most_runs : ℕ) (old shown new : SessionSeatState) (free : SeatState) (step : Step)
    (reply : Reply) →
    shown ≡ old → HasSameReceipts shown.seat free → HasReceiptOf free step reply new.seat →
    (reply ≡ Refused NoMemory → CallMayWant seats most_runs free step) → new.counter_seat ≡ published shown.counter_seat
    reply →
    new.number ≡ shown.number → MakesCall most_runs old step reply new
makes_call seats most_runs old shown new free step reply e freed called memory counted numbered =
    subst (λ (p : SessionSeatState). MakesCall most_runs p step reply new) e
    (record {
      free = free;
      freed = freed;
      called = called;
      memory = λ refused. (seats, memory refused);
      counter_seat = counted;
      number = numbered;
    })
