use Rattle.am_record.specs.Sessions.{IsAllowed}
use Rattle.std.proofs.Common.{rules, ap, sym, subst, ◌≡◌, ◌∙◌, [], ◌∷◌, List, length}
use Rattle.am_latch_ties.specs.declared.receipt.Receipt.{Receipt}
use Rattle.am_latch_ties.specs.CallLogs.{CallLog, log_with}
use Rattle.am_latch_engine.specs.Traces.{log_of, AreMadeBelow}
use Rattle.am_latch_ties.specs.Receipts.{receipts_of}
use Rattle.am_latch.specs.Ties.{open_of, open_in, AreNumbered, IsTied}
use Rattle.am_latch_ties.specs.declared.taker_tie.TakenView.TheVariants.{Handed}
use Rattle.am_latch_ties.specs.Views.{seat_in, log_in}
use Rattle.am_latch_ties.specs.declared.views.View.{View}
use Rattle.am_latch_ties.specs.declared.views.View.TheVariants.{Log}
use Rattle.am_latch.proofs.EngineAndToken.{grown, below-snoc, numbered-snoc, receipts_long, only}
use Rattle.am_latch.proofs.SeatTransactions.{tied_more, ends_active}
use Rattle.am_latch.proofs.CallResults.{is_stored_where}
use Rattle.am_latch.proofs.state.LatchState.call.Goals as goal

pub returns-then-is_none-clause-ended : goal.returns-then-is_none-clause-ended
returns-then-is_none-clause-ended g c =
    let i = c.self.invariant in
    let e = log_of c.self.inside.engine in
    let trace_token = only _ _ (sym c.into_seat-trace_token.ensures.2 ∙ ap (λ b. b.views) c.replace.ensures.value ∙
    i.knows) in
    let known : (seat_in c.args.token.now.me.0).receipts ≡ receipts_of c.args.call_id.seat e =
    c.compare_receipts-trace_token.ensures.known ∙
    (λ j. receipts_of (sym c.requires.token.1 j) (log_in (trace_token j))) in
    let may : IsAllowed (open_in e c.args.call_id.seat) c.args.step =
    subst (λ (rs : List Receipt). IsAllowed (open_of rs) c.args.step) known c.requires.may in
    ends_active e c.args.call_id.seat c.args.step c.step_with-outcome.result.reply i.tied may
    c.step_with-outcome.ensures.answers

pub returns-clause-ended : goal.returns-clause-ended
returns-clause-ended g c =
    let i = c.self.invariant in
    let e = log_of c.self.inside.engine in
    let trace_token = only _ _ (sym c.into_seat-trace_token.ensures.2 ∙ ap (λ b. b.views) c.replace.ensures.value ∙
    i.knows) in
    let known : (seat_in c.args.token.now.me.0).receipts ≡ receipts_of c.args.call_id.seat e =
    c.compare_receipts-trace_token.ensures.known ∙
    (λ j. receipts_of (sym c.requires.token.1 j) (log_in (trace_token j))) in
    let may : IsAllowed (open_in e c.args.call_id.seat) c.args.step =
    subst (λ (rs : List Receipt). IsAllowed (open_of rs) c.args.step) known c.requires.may in
    ends_active e c.args.call_id.seat c.args.step c.step_with-outcome.result.reply i.tied may
    c.step_with-outcome.ensures.answers

pub invariant_of-self-2 : goal.invariant_of-self-2
invariant_of-self-2 g c =
    let i = c.self.invariant in
    let e = log_of c.self.inside.engine in
    let stored = is_stored_where _ _ _ _ _ c.step_with-outcome.ensures.stored c.is_none.ensures c.if-is_none.false in
    let after = grown _ _ _ _ _ stored c.step_with-outcome.ensures.stepped in
    let trace_token = only _ _ (sym c.into_seat-trace_token.ensures.2 ∙ ap (λ b. b.views) c.replace.ensures.value ∙
    i.knows) in
    let again : c.compare_receipts-trace_token.result.me.0 ≡ Log e =
    ap (λ m. m.0) c.compare_receipts-trace_token.ensures.same.3 ∙ trace_token in
    let known : (seat_in c.args.token.now.me.0).receipts ≡ receipts_of c.args.call_id.seat e =
    c.compare_receipts-trace_token.ensures.known ∙
    (λ j. receipts_of (sym c.requires.token.1 j) (log_in (trace_token j))) in
    let may : IsAllowed (open_in e c.args.call_id.seat) c.args.step =
    subst (λ (rs : List Receipt). IsAllowed (open_of rs) c.args.step) known c.requires.may in
    let even : length e.calls ≡ length e.trace = c.kept_calls-calls.ensures.each in
    let newest : c.newest.result.now ≡ (c.args.step, c.step_with-outcome.result.reply) =
    c.newest.ensures e.trace (c.args.step, c.step_with-outcome.result.reply) (ap (λ (d : CallLog). d.trace) after) in
    let entered = ap (λ m. m.0) c.append_call.ensures.trace_token in record {
      most = c.step_with-outcome.ensures.most ∙ i.most;
      table_of = search rules;
      knows = c.into_badge-2.ensures.2 ∙ ap (λ (v : View). v ∷ [])
          (entered ∙ (λ j. Log (log_with (log_in (again j)) c.args.call_id (newest j).0 (newest j).1)) ∙
          ap Log (sym after));
      handed_of = i.handed_of;
      handed = i.handed ∙
          ap (λ (d : CallLog). Handed d.trace ∷ []) (sym c.step_with-outcome.ensures.handed);
      made = subst (λ (d : CallLog). AreMadeBelow g.L.LatchName.seats d.calls) (sym after)
          (below-snoc _ _ _ i.made c.requires.token.2);
      numbered = subst (λ (d : CallLog). AreNumbered [] d.calls) (sym after)
          (numbered-snoc [] e.calls c.args.call_id i.numbered (c.requires.number ∙ ap length known ∙
          receipts_long c.args.call_id.seat 0 0 e.trace e.calls even));
      tied = subst IsTied (sym after) (tied_more e c.args.call_id c.args.step c.step_with-outcome.result.reply even
          i.tied may
          c.step_with-outcome.ensures.answers);
    }
