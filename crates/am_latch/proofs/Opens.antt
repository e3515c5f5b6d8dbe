-- Where all seats are there, what is open in them is what is active.
use Rattle.std.proofs.Common.{◌≡◌, ℕ, suc, ◌<◌, ◌≤◌, ◌==◌, Bool, true, false, if◌then◌else◌, List, [], ◌∷◌, length}
use Rattle.std.proofs.Common.{Some, None, refl, sym, ap, ◌∙◌, subst, arith, ne_eqb}
use Rattle.std.specs.Prelude.{slice_get}
use Rattle.std.proofs.lemmas.Option.{slice_get_within}
use Rattle.am_record.specs.declared.step.Step.{Step}
use Rattle.am_record.specs.declared.step.Reply.{Reply}
use Rattle.am_latch_engine.specs.Changes.{active_in_trace}
use Rattle.am_latch_ties.specs.declared.receipt.Receipt.{Receipt}
use Rattle.am_latch_ties.specs.declared.call_id.CallId.{CallId}
use Rattle.am_latch_ties.specs.CallLogs.{CallLog}
use Rattle.am_latch_engine.specs.Traces.{AreMadeBelow}
use Rattle.am_latch_ties.specs.Receipts.{receipt, receipts_from}
use Rattle.am_latch.specs.Receipts.{SeatState, AreAllSeats, HaveReceiptsIn}
use Rattle.am_latch.specs.Ties.{open_of, open_in, IsTied, SeatsAreTied}
use Rattle.am_latch.proofs.SeatReceipts.{there_is}

passed : (b : Bool) (x : Receipt) (xs ys : List Receipt) → b ≡ false → ys ≡ [] → (if b then x ∷ xs else ys) ≡ []
passed true x xs ys e h = absurd (cc)
passed false x xs ys e h = h

none_above : (n k position call : ℕ) (ps : List (Step × Reply)) (ms : List CallId) → n ≤ k → AreMadeBelow n ms →
    receipts_from k position call ps ms ≡ []
none_above n k position call [] ms le h = refl
none_above n k position call (p ∷ ps) [] le h = refl
none_above n k position call (p ∷ ps) (m ∷ ms) le h = passed (m.seat == k) (receipt k call p.0 p.1 position) _ _
    (ne_eqb m.seat k (omega (arith, h.0))) (none_above n k (suc position) call ps ms le h.1)

open_below : (n k t : ℕ) (e : CallLog) → AreMadeBelow n e.calls → open_in e k ≡ Some t → n ≤ k → ⊥
open_below n k t e below is le =
    let nothing : open_in e k ≡ None = ap open_of (none_above n k 0 0 e.trace e.calls le below) in
    let same : None ≡ Some t = sym nothing ∙ is in cc

pub open_is : (e : CallLog) (n : ℕ) (seats : List SeatState) → AreMadeBelow n e.calls → AreAllSeats n seats →
    HaveReceiptsIn e seats (length seats) → IsTied e → SeatsAreTied seats (active_in_trace e.trace)
open_is e n seats below all known tied = record {
  active = λ i t s at is. tied.active s.number t (sym (receipts i s at) ∙ is);
  apart = λ i j t s u at bt is js. let same : s.number ≡ u.number =
      tied.apart s.number u.number t (sym (receipts i s at) ∙ is)
      (sym (receipts j u bt) ∙ js) in sym (number i s at) ∙ same ∙ number j u bt;
  owned = λ t h. let o = tied.owned t h in
      let no_more : n ≤ o.0 → ⊥ = open_below n o.0 t e below o.1 in
      let low : o.0 < length seats = omega (arith, all.0, no_more) in
      let s = there_is seats o.0 low in
      let is : s.0.number ≡ o.0 = number o.0 s.0 s.1 in
      (o.0, s.0, s.1, receipts o.0 s.0 s.1 ∙ ap (open_in e) is ∙ o.1);
}
  where
    receipts : (i : ℕ) (s : SeatState) → slice_get seats i ≡ Some s → open_of s.receipts ≡ open_in e s.number
    receipts i s at = ap open_of (known i s (slice_get_within seats i s at) at)

    number : (i : ℕ) (s : SeatState) → slice_get seats i ≡ Some s → s.number ≡ i
    number i s at = all.1 i s (subst (λ (z : ℕ). i < z) all.0 (slice_get_within seats i s at)) at
