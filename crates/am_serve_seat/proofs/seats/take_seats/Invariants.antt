use Rattle.std.proofs.Common.{◌≡◌, ◌++◌, ◌+◌, ◌≤◌, length, vec_len, vec_capacity}
use Rattle.std.specs.Vec.Iter.{into_iter_items}
use Rattle.am_serve_seat.specs.Seats.{latch_seats}
use Rattle.am_serve_seat.proofs.seats.take_seats.Given as goal

abbrev pub invariant-loop-session_seat : goal.invariant-loop-session_seat
invariant-loop-session_seat g l = record {
  can : (goal.iterator-loop-session_seat g).can_next l.session_seat-iterator;
  finite : (goal.iterator-loop-session_seat g).is_finite l.session_seat-iterator;
  seats : l.all.items ++ latch_seats (into_iter_items l.session_seat-iterator) ≡ l.initial.all.items ++
      latch_seats l.fn.session_seats.items;
  len : vec_len l.all + length (into_iter_items l.session_seat-iterator) ≡ vec_len l.initial.all + length
      l.fn.session_seats.items;
  room : vec_len l.all + length (into_iter_items l.session_seat-iterator) ≤ vec_capacity l.all;
  capacity : vec_capacity l.all ≡ vec_capacity l.initial.all;
}
