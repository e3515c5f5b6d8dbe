use Rattle.std.proofs.Common.{rules, ap, sym, ◌≡◌, ◌∙◌, subst, length, true≢false, ℕ, List, take, drop, ◌++◌}
use Rattle.am_law_serial.specs.Trace.{Trace}
use Rattle.am_law_serial.specs.Legal.{IsLegal}
use Rattle.am_store.specs.StoreSteps.{IsSoundAt}
use Rattle.am_law_sound.specs.Right.{IsSoundStore}
use Rattle.am_latch_ties.specs.CallLogs.{CallLog}
use Rattle.am_latch_engine.specs.Traces.{log_of}
use Rattle.am_latch.specs.Receipts.{SeatState, AreAllSeats, HaveReceiptsIn, AreReceiptsOf, NumberedBelow}
use Rattle.am_latch_ties.specs.Views.{log_in}
use Rattle.am_latch.proofs.SeatReceipts.{kept, whole_again}
use Rattle.am_latch_engine.specs.Changes.{active_in_trace}
use Rattle.am_latch.specs.Ties.{SeatsAreTied}
use Rattle.am_latch.proofs.Opens.{open_is}
use Rattle.am_latch_ties.specs.HandOutRule.{handed_in}
use Rattle.am_latch.proofs.EngineAndToken.{only}
use Rattle.am_latch.proofs.latch_end.close.Given.{Over}
use Rattle.am_latch.proofs.latch_end.close.Goals as goal
use Rattle.am_latch.proofs.latch_end.close.Goals.{then-len-count-via-then-len-count}
use Rattle.am_latch.proofs.latch_end.close.Goals.{then-len-count-via-else-len-count+then-not-in_order}

-- what was taken is what was handed out, and what is kept stands after it
whole_trace : (g : Over) (c : goal.After-drop-table g) →
    c.args.taker ++ c.into_parts-trace.result.0.items ≡ c.engine.inside.engine.trace
whole_trace g c =
    let handed_token = only _ _ (sym c.into_seat.ensures.2 ∙ c.engine.invariant.handed) in
    let took : c.args.taker ≡ c.engine.inside.engine.handed.trace = sym c.taker.view_is ∙ c.hand_over.ensures.agree ∙
    ap handed_in handed_token in
    ap (λ (l : Trace). l ++ c.into_parts-trace.result.0.items) took ∙ c.into_parts-trace.ensures.trace

pub returns-clause-kept : goal.returns-clause-kept
returns-clause-kept g c =
    let e = log_of c.engine.inside.engine in
    let trace_token = only _ _ (sym c.into_seat-2.ensures.2 ∙ c.engine.invariant.knows) in
    let old : c.as_mut_slice.result.now ≡ c.args.seats.items = c.as_mut_slice.ensures.value in
    let known : HaveReceiptsIn e c.args.seats.items (length c.args.seats.items) =
    subst (λ (l : List SeatState). HaveReceiptsIn e l (length l)) old
    (subst (λ (d : CallLog). HaveReceiptsIn d c.as_mut_slice.result.now (length c.as_mut_slice.result.now))
    (ap log_in trace_token) c.audit_all.ensures.known) in
    let whole : take c.args.seats.len (c.audit_all.new.seats ++ drop (length c.audit_all.new.seats)
    c.args.seats.items) ≡ c.args.seats.items = whole_again _ _ _ (c.audit_all.ensures.same ∙ old)
    (ap length c.audit_all.ensures.same ∙ c.as_mut_slice.ensures.len) in
    let count : length c.args.seats.items ≡ g.L.LatchName.seats = search rules in
    let all : AreAllSeats g.L.LatchName.seats c.args.seats.items = (
      count,
      subst (NumberedBelow c.args.seats.items) count
          (subst (λ (l : List SeatState). NumberedBelow l (length l)) c.as_slice.ensures.value
          (c.in_order.ensures.0 c.if-not-in_order.false)),
    ) in
    subst (λ (y : List SeatState × Trace). AreReceiptsOf y.0 y.1)
    (λ j. (sym whole j, sym (whole_trace g c) j))
    (kept e g.L.LatchName.seats c.args.seats.items c.into_parts-trace.ensures.even c.engine.invariant.made all known)

pub returns-clause-open_txs : goal.returns-clause-open_txs
returns-clause-open_txs g c =
    let e = log_of c.engine.inside.engine in
    let trace_token = only _ _ (sym c.into_seat-2.ensures.2 ∙ c.engine.invariant.knows) in
    let old : c.as_mut_slice.result.now ≡ c.args.seats.items = c.as_mut_slice.ensures.value in
    let known : HaveReceiptsIn e c.args.seats.items (length c.args.seats.items) =
    subst (λ (l : List SeatState). HaveReceiptsIn e l (length l)) old
    (subst (λ (d : CallLog). HaveReceiptsIn d c.as_mut_slice.result.now (length c.as_mut_slice.result.now))
    (ap log_in trace_token) c.audit_all.ensures.known) in
    let whole : take c.args.seats.len (c.audit_all.new.seats ++ drop (length c.audit_all.new.seats)
    c.args.seats.items) ≡ c.args.seats.items = whole_again _ _ _ (c.audit_all.ensures.same ∙ old)
    (ap length c.audit_all.ensures.same ∙ c.as_mut_slice.ensures.len) in
    let count : length c.args.seats.items ≡ g.L.LatchName.seats = search rules in
    let all : AreAllSeats g.L.LatchName.seats c.args.seats.items = (
      count,
      subst (NumberedBelow c.args.seats.items) count
          (subst (λ (l : List SeatState). NumberedBelow l (length l)) c.as_slice.ensures.value
          (c.in_order.ensures.0 c.if-not-in_order.false)),
    ) in
    subst (λ (y : List SeatState × List ℕ). SeatsAreTied y.0 y.1)
    (λ j. (sym whole j, sym c.into_parts-trace.ensures.active j))
    (open_is e g.L.LatchName.seats c.args.seats.items c.engine.invariant.made all known c.engine.invariant.tied)

pub returns-clause-active : goal.returns-clause-active
returns-clause-active g c = c.into_parts-trace.ensures.active ∙ ap active_in_trace (sym (whole_trace g c))

pub returns-clause-stands : goal.returns-clause-stands
returns-clause-stands g c = subst (λ (l : Trace). IsSoundAt l c.into_parts-trace.result.1) (sym (whole_trace g c))
    c.into_parts-trace.ensures.stands

pub returns-clause-sound : goal.returns-clause-sound
returns-clause-sound g c = subst (IsSoundStore g.L.LatchName.most_runs) (sym (whole_trace g c))
    (subst (λ (n : ℕ). IsSoundStore n c.engine.inside.engine.trace)
    (c.into_parts-trace.ensures.most ∙ c.engine.invariant.most) c.into_parts-trace.ensures.stands.sound)

pub returns-clause-legal : goal.returns-clause-legal
returns-clause-legal g c = subst (IsLegal g.L.LatchName.most_runs) (sym (whole_trace g c))
    (subst (λ (n : ℕ). IsLegal n c.engine.inside.engine.trace) (c.into_parts-trace.ensures.most ∙
    c.engine.invariant.most)
    (c.sound_traces_are_legal.ensures _ _ c.into_parts-trace.ensures.stands.sound.sound))

pub returns-clause-all : goal.returns-clause-all
returns-clause-all g c =
    let count : length c.args.seats.items ≡ g.L.LatchName.seats = search rules in (
      count,
      subst (NumberedBelow c.args.seats.items) count
          (subst (λ (l : List SeatState). NumberedBelow l (length l)) c.as_slice.ensures.value
          (c.in_order.ensures.0 c.if-not-in_order.false)),
    )

pub returns-then-len-count-clause-all : goal.returns-then-len-count-clause-all
returns-then-len-count-clause-all g c all = elim c.then-len-count.branch as (λ _. ⊥) [
  | then-len-count-via-then-len-count w ↦ search (all, rules)
  | then-len-count-via-else-len-count+then-not-in_order w ↦
      let same = sym w.as_slice.ensures.value in
      let below = subst (λ (y : List SeatState × ℕ). NumberedBelow y.0 y.1)
      (λ i. (same i, (sym all.0 ∙ ap length same) i)) all.1 in
      true≢false (sym (w.in_order.ensures.1 below) ∙ w.if-not-in_order.true)
]
