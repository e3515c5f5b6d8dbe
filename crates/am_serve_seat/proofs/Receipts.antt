-- A session's receipts, event by event.
use Rattle.std.proofs.Common.{◌≡◌, ℕ, List, [], ◌∷◌, ◌++◌, Bool, true, false, length, refl, sym, ap}
use Rattle.std.proofs.Common.{subst, ◌∙◌, append_assoc, inl, inr, ⊎_elim, arith}
use Rattle.std.specs.Prelude.{MatchBool, cond, ◌⊎◌, max, nat_le}
use Rattle.std.proofs.lemmas.Bool.{leb-true, leb-false}
use Rattle.std.proofs.lemmas.List.{append-nil, map-append}
use Rattle.std.proofs.lemmas.List.Elements.{filter-append}
use Rattle.am_record.specs.declared.step.Step.{Step}
use Rattle.am_record.specs.declared.step.Reply.{Reply}
use Rattle.am_record.specs.declared.step.Reply.TheVariants.{Committed}
use Rattle.am_law_serial.specs.Trace.{Trace}
use Rattle.am_latch_ties.specs.declared.receipt.Receipt.{Receipt}
use Rattle.am_latch_engine.specs.Changes.{is_stored}
use Rattle.am_latch_ties.specs.Receipts.{receipt}
use Rattle.am_latch.specs.Receipts.{SeatState, GetsReceipt}
use Rattle.am_line_dialogue.proofs.Conversations.{HoldsOfSteps}
use Rattle.am_serve_seat.specs.SessionSeats.{SessionSeatState, published, MakesCall, seat_meaning, HasReceipts, taken}
use Rattle.am_serve_seat.specs.SessionSeats.{stored_events}
use Rattle.am_latch_counters.specs.Counters.{CounterHistory}

-- ---- what is published

abbrev IsPair : Trace → ℕ → Type 0
IsPair pairs number = (number ≡ 0) ⊎ ((before after : Trace) × (step : Step) ×
    (pairs ≡ before ++ (step, Committed number) ∷ after))

more_pairs : (pairs more : Trace) (number : ℕ) → IsPair pairs number → IsPair (pairs ++ more) number
more_pairs pairs more number (inl z) = inl z
more_pairs pairs more number (inr h) = inr (
  h.0,
  h.1 ++ more,
  h.2,
  ap (λ (t : Trace). t ++ more) h.3 ∙
      append_assoc h.0 ((h.2, Committed number) ∷ h.1) more,
)

last_pair : (pairs : Trace) (step : Step) (number : ℕ) → IsPair (pairs ++ (step, Committed number) ∷ []) number
last_pair pairs step number = inr (pairs, [], step, refl)

greater : (a b : ℕ) → (max a b ≡ a) ⊎ (max a b ≡ b)
greater a b = by_order (nat_le b a) refl
  where
    by_order : (c : Bool) → nat_le b a ≡ c → (max a b ≡ a) ⊎ (max a b ≡ b)
    by_order true e = inl (omega (arith, leb-true b a e))
    by_order false e = inr (omega (arith, leb-false b a e))

publishes : (counter_seat : CounterHistory) (pairs : Trace) (step : Step) (r : Reply) →
    IsPair pairs counter_seat.published →
    IsPair (pairs ++ cond (is_stored r) ((step, r) ∷ []) []) (published counter_seat r).published
publishes counter_seat pairs step (Committed c) is =
    ⊎_elim
    (λ older. subst (IsPair (pairs ++ (step, Committed c) ∷ [])) (sym older)
    (more_pairs pairs ((step, Committed c) ∷ []) counter_seat.published is))
    (λ newer. subst (IsPair (pairs ++ (step, Committed c) ∷ [])) (sym newer) (last_pair pairs step c))
    (greater counter_seat.published c)
publishes counter_seat pairs step r is = more_pairs pairs (cond (is_stored r) ((step, r) ∷ []) [])
    counter_seat.published is

-- ---- receipts

-- so does a state that is the same but for the counters
like : (old new : SessionSeatState) → new.seat ≡ old.seat → new.counter_seat.published ≡ old.counter_seat.published →
    HasReceipts old [] new
like old new e p = record {
  published = λ is. subst (λ (z : SeatState × ℕ). IsPair (taken z.0.receipts) z.1) (λ i. (sym e i, sym p i)) is;
  seat = ap (λ (s : SeatState). s.number) e;
  receipts = ap (λ (s : SeatState). taken s.receipts) e ∙ sym (append-nil (taken old.seat.receipts));
}

joined : (a b c : SessionSeatState) (es fs : Trace) → HasReceipts a es b → HasReceipts b fs c →
    HasReceipts a (es ++ fs) c
joined a b c es fs h k = record {
  published = λ is. k.published (h.published is);
  seat = k.seat ∙ h.seat;
  receipts =
      k.receipts ∙ ap (λ (t : Trace). t ++ stored_events fs) h.receipts ∙ append_assoc (taken a.seat.receipts)
      (stored_events es) (stored_events fs)
      ∙ ap (λ (t : Trace). taken a.seat.receipts ++ t)
      (sym (filter-append (λ (e : Step × Reply). is_stored e.1) es fs));
}

-- the receipts after a call, whether it is stored or not
behind : (s s' : SeatState) (st : Step) (r : Reply) (b : Bool) → MatchBool b (GetsReceipt s st r s') (s' ≡ s)
    → (s'.number ≡ s.number) × (taken s'.receipts ≡ taken s.receipts ++ cond b ((st, r) ∷ []) [])
behind s s' st r true h = (
  ap (λ (x : SeatState). x.number) h.1,
  ap (λ (x : SeatState). taken x.receipts) h.1 ∙
      map-append (λ (x : Receipt). (x.step, x.reply)) s.receipts (receipt s.number (length s.receipts) st r h.0 ∷ []),
)
behind s s' st r false h = (
  ap (λ (x : SeatState). x.number) h,
  ap (λ (x : SeatState). taken x.receipts) h ∙
      sym (append-nil (taken s.receipts)),
)

went : (most_runs : ℕ) (old new : SessionSeatState) (st : Step) (r : Reply) → MakesCall most_runs old st r new →
    HasReceipts old ((st, r) ∷ []) new
went most_runs old new st r h =
    let b = behind h.free new.seat st r (is_stored r) h.called in
    let there = b.1 ∙ ap (λ (rs : List Receipt). taken rs ++ cond (is_stored r) ((st, r) ∷ []) []) h.freed.receipts in
    record {
      seat = b.0 ∙ h.freed.number;
      receipts = there;
      published = λ is. subst (λ (z : Trace × ℕ). IsPair z.0 z.1) (λ i. (sym there i, (sym h.counter_seat i).published))
          (publishes old.counter_seat (taken old.seat.receipts) st r is);
    }

pub receipts_go : (most_runs : ℕ) → HoldsOfSteps (seat_meaning most_runs) HasReceipts
receipts_go most_runs = record {
  stays = λ s. like s s refl refl;
  steps = went most_runs;
  shows = λ old new number commits h. like old new (ap (λ (p : SessionSeatState). p.seat) h.saw)
      (ap (λ (p : SessionSeatState). p.counter_seat.published) h.saw);
  joins = joined;
}
