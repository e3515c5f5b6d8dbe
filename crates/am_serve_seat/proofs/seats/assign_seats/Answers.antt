use Rattle.std.proofs.Common.{rules, ◌≡◌}
use Rattle.std.proofs.lemmas.List.Elements.{All-push}
use Rattle.am_latch_counters.specs.Counters.{CounterHistory}
use Rattle.am_serve_seat.specs.Seats.{HasNewSeat, IsNewSeat}
use Rattle.am_serve_seat.proofs.SeatOrder.{one_placed, place_more, worker_more, none_there}
use Rattle.am_serve_seat.proofs.SeatOrder.{all_init, all_rest, all_first}
use Rattle.am_serve_seat.proofs.seats.assign_seats.Goals as goal

pub loop-seat-preserved-in-loop-seat : goal.loop-seat-preserved-in-loop-seat
loop-seat-preserved-in-loop-seat g c =
    let next = c.in-Some.ensures.steps.0 in
    let new = all_first IsNewSeat _ _ _ next c.loop-seat.invariant.left in record {
      can = tt;
      finite = tt;
      counter_seats = all_init (λ (h : CounterHistory). h.of ≡ c.args.counters.now) _ _ _ c.pop.ensures.items
          c.loop-seat.invariant.counter_seats;
      count = one_placed _ _ _ _ _ _ _ _ c.in_ok-push.ensures.items c.in-Some-pop.is c.pop.ensures.items
          c.loop-seat.invariant.count;
      none = λ lt. search rules;
      sessions = rw c.in_ok-push.ensures.items (rw c.new.ensures
          (All-push HasNewSeat _ _ c.loop-seat.invariant.sessions new));
      workers = search rules;
      left = all_rest IsNewSeat _ _ _ next c.loop-seat.invariant.left;
      seat_numbers =
          rw c.in_ok-push.ensures.items
          (rw c.new.ensures
          (place_more c.loop-seat.session_seats.items _ c.loop-seat.worker_seats.items _ _ c.args.seats.items
          (none_there _ (search rules)) next c.loop-seat.invariant.seat_numbers));
    }

pub loop-seat-preserved : goal.loop-seat-preserved
loop-seat-preserved g c =
    let next = c.in-Some.ensures.steps.0 in
    let new = all_first IsNewSeat _ _ _ next c.loop-seat.invariant.left in record {
      can = tt;
      finite = tt;
      counter_seats = search rules;
      count = search rules;
      none = search rules;
      sessions = search rules;
      workers = rw c.in_ok-push-2.ensures.items (All-push IsNewSeat _ _ c.loop-seat.invariant.workers new);
      left = all_rest IsNewSeat _ _ _ next c.loop-seat.invariant.left;
      seat_numbers = rw c.in_ok-push-2.ensures.items
          (worker_more c.loop-seat.session_seats.items _ c.loop-seat.worker_seats.items _ _ c.args.seats.items next
          c.loop-seat.invariant.seat_numbers);
    }
