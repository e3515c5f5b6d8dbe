use Rattle.std.proofs.Common.{◌≡◌, ◌+◌, ◌<◌, ◌++◌, length, All}
use Rattle.std.specs.Vec.Iter.{into_iter_items}
use Rattle.am_serve_seat.specs.Seats.{HasNewSeat, IsNewSeat, seat_numbers, session_seat_numbers}
use Rattle.am_serve_seat.proofs.seats.assign_seats.Given as goal

abbrev pub invariant-loop-seat : goal.invariant-loop-seat
invariant-loop-seat g l = record {
  can : (goal.iterator-loop-seat g).can_next l.seat-iterator;
  finite : (goal.iterator-loop-seat g).is_finite l.seat-iterator;
  counter_seats : All (λ h. h.of ≡ l.counters) l.counter_seats.items;
  count : length l.session_seats.items + length l.counter_seats.items ≡ length l.fn.counter_seats.items;
  none : 0 < length l.worker_seats.items → length l.counter_seats.items ≡ 0;
  sessions : All HasNewSeat l.session_seats.items;
  workers : All IsNewSeat l.worker_seats.items;
  left : All IsNewSeat (into_iter_items l.seat-iterator);
  seat_numbers : (session_seat_numbers l.session_seats.items ++ seat_numbers l.worker_seats.items) ++
      seat_numbers (into_iter_items l.seat-iterator) ≡ seat_numbers l.fn.seats.items;
}
