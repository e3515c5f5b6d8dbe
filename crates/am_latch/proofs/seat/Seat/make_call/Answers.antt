use Rattle.std.proofs.Common.{rules, arith, length, length-append, ap, sym, subst, ◌≡◌, ◌∙◌, ◌+◌, ◌<◌, ℕ, List, [], ◌∷◌}
use Rattle.std.proofs.Common.{◌++◌, ◌≤◌, Option, None, IfSome, vec_len, vec_capacity, refl}
use Rattle.atomic_table.specs.Table.{Me}
use Rattle.am_record.specs.Sessions.{IsAllowed}
use Rattle.am_latch_engine.specs.Changes.{change, end_of, open_after}
use Rattle.am_latch_engine.specs.declared.change.Stored.{Stored}
use Rattle.am_latch_ties.specs.declared.receipt.Receipt.{Receipt}
use Rattle.am_latch_ties.specs.declared.views.View.{View}
use Rattle.am_latch_ties.specs.Receipts.{receipt}
use Rattle.am_latch.specs.Receipts.{SeatState, moved_in, last_commit_of, positions_of, AreBehind}
use Rattle.am_latch_ties.specs.Views.{seat_in, IsSeatView}
use Rattle.am_latch.specs.Ties.{open_of, HasRoomForReceipt, receipts_kept, receipts_needed, receipt_room}
use Rattle.am_latch.proofs.CallResults.{told_of, where_true, received, last_commit-snoc, behind-snoc}
use Rattle.am_latch.proofs.Seats.{room_after, wider, moved_in-snoc}
use Rattle.am_latch.proofs.SeatTransactions.{open_from-snoc}
use Rattle.am_latch.proofs.ReceiptRooms.{enough, fewer, kept_after}
use Rattle.am_latch.proofs.seat.Seat.make_call.Goals as goal

pub returns-clause-called : goal.returns-clause-called
returns-clause-called g c =
    let rs = (seat_in c.self.inside.token.me.0).receipts in
    let told = told_of _ _ _ _ (sym c.call-outcome.ensures.stored ∙ c.in-Some-stored.is) in
    let stored = told.0 in
    let at = ap (λ (x : Stored). x.position) told.1 in
    let more = ap (λ (m : Me ℕ View). (seat_in m.0).receipts) (where_true _ _ _ stored c.call-outcome.ensures.token) ∙
    (λ j. rs ++ receipt (c.self.invariant.seat j) (length rs) c.args.step c.call-outcome.result.reply (sym at j) ∷
    []) in
    received _ _ _ c.in-Some-stored.stored.position rs _ _ _ c.self.view_is stored more

pub invariant_of-self-2 : goal.invariant_of-self-2
invariant_of-self-2 g c =
    let i = c.self.invariant in
    let old = c.self.inside.positions in
    let rs = (seat_in c.self.inside.token.me.0).receipts in
    let st = c.args.step in
    let r = c.call-outcome.result.reply in
    let told = told_of _ _ _ _ (sym c.call-outcome.ensures.stored ∙ c.in-Some-stored.is) in
    let stored = told.0 in
    let x : Receipt = receipt (seat_in c.self.inside.token.me.0).seat (length rs) st r
    c.in-Some-stored.stored.position in
    let me = where_true _ _ _ stored c.call-outcome.ensures.token in
    let at = ap (λ (y : Stored). y.position) told.1 in
    let more : (seat_in c.call-outcome.new.token.me.0).receipts ≡ rs ++ x ∷ [] =
    ap (λ (m : Me ℕ View). (seat_in m.0).receipts) me ∙
    (λ j. rs ++ receipt (seat_in c.self.inside.token.me.0).seat (length rs) st r (sym at j) ∷ []) in
    let was : rs ≡ c.args.self.now.receipts = ap (λ (s : SeatState). s.receipts) c.self.view_is in
    let gone : c.self.inside.let_go ≡ c.args.self.now.let_go = ap (λ (s : SeatState). s.let_go) c.self.view_is in
    let may : IsAllowed c.self.inside.open_now st = subst (λ (o : Option ℕ). IsAllowed o st)
    (ap open_of (sym was) ∙ sym i.open_tx) c.requires.may in
    let few : (end_of st ≡ None) → vec_len old < 1000000 = λ e. let f = c.requires.room e in
    omega (arith, ap (λ (l : List Receipt). length l) was, gone, i.count) in
    let done : c.in-Some-stored.stored.change ≡ change st r = ap (λ (x : Stored). x.change) told.1 in
    let now : c.open_after-self-inside.result ≡ open_after c.self.inside.open_now (change st r) =
    c.open_after-self-inside.ensures ∙ ap (open_after c.self.inside.open_now) done in
    let p = c.push_reserved.ensures in
    let q = c.prepare.ensures in
    let items : c.push_reserved.new.self.items ≡ old.items ++ x.position ∷ [] = p.items ∙
    (λ j. q.same j ++ x.position ∷ []) in
    let moved = moved_in-snoc rs x in
    let needed = vec_len c.prepare.new.positions + receipts_needed c.self.inside.open_now st in
    let got : receipt_room needed ≤ vec_capacity c.prepare.new.positions =
    subst (λ o. IfSome o (λ _. receipt_room needed ≤ vec_capacity c.prepare.new.positions)) c.in-Some.is q.got in
    let fits = enough needed in
    let kept = kept_after c.self.inside.open_now st r may c.call-outcome.ensures.ended in
    let here : HasRoomForReceipt (open_after c.self.inside.open_now (change st r)) (vec_len old + 1)
    (vec_capacity c.prepare.new.positions) = room_after c.self.inside.open_now st r (vec_len old)
    (vec_capacity c.prepare.new.positions) may c.call-outcome.ensures.ended (wider _ _ _ _ i.room q.kept)
    (omega (arith, got, fits, q.long)) few in
    let left : receipt_room (vec_len old + 1 + receipts_kept (open_after c.self.inside.open_now (change st r))) ≤
    vec_capacity c.prepare.new.positions = fewer _ needed _ (omega (arith, kept, q.long)) got in
    let long : length (seat_in c.call-outcome.new.token.me.0).receipts ≡ length rs + 1 =
    ap (λ (l : List Receipt). length l) more ∙ length-append rs (x ∷ []) in record {
      table_of = search rules;
      view = subst (λ (m : Me ℕ View). IsSeatView m.0) (sym me) refl;
      seat = ap (λ (m : Me ℕ View). (seat_in m.0).seat) me ∙ i.seat;
      slots = ap (λ (m : Me ℕ View). m.1) me ∙ i.slots;
      below = i.below;
      held = subst (λ (y : List Receipt × List ℕ). AreBehind c.self.inside.let_go (positions_of y.0) y.1)
          (λ j. (sym more j, sym items j)) (behind-snoc _ rs old.items x i.held);
      count = omega (arith, i.count, long, p.len, q.long);
      open_tx = now ∙ ap (λ (o : Option ℕ). open_after o (change st r)) i.open_tx ∙ sym (open_from-snoc None rs x) ∙
          ap open_of (sym more);
      last = c.commit_by-self-inside.ensures ∙ sym (last_commit-snoc rs x) ∙ ap last_commit_of (sym more);
      room = subst (λ (y : Option ℕ × ℕ × ℕ). HasRoomForReceipt y.0 y.1 y.2)
          (λ j. (sym now j, (ap (λ (n : ℕ). n + 1) (sym q.long) ∙ sym p.len) j, sym p.capacity j)) here;
      got = subst (λ (y : Option ℕ × ℕ × ℕ). receipt_room (y.1 + receipts_kept y.0) ≤ y.2)
          (λ j. (sym now j, (ap (λ (n : ℕ). n + 1) (sym q.long) ∙ sym p.len) j, sym p.capacity j)) left;
      moved = (λ j. i.moved j + c.moved_by.ensures j) ∙ sym moved ∙ ap moved_in (sym more);
      few = omega (arith, i.few, c.call-outcome.ensures.bounded.moves, c.moved_by.ensures, long);
      numbers = i.numbers;
    }
