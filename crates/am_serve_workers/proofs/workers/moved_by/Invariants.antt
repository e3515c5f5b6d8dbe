use Rattle.std.proofs.Common.{◌≡◌, ◌≤◌, ◌*◌, take}
use Rattle.am_serve_workers.specs.Turns.{all_moved}
use Rattle.am_serve_workers.proofs.workers.moved_by.Given as goal

abbrev pub invariant-loop-seat : goal.invariant-loop-seat
invariant-loop-seat g l = record {
  sum : l.moved ≡ all_moved (take l.seat-index l.seats);
  few : l.moved ≤ 9007199254740992 * l.seat-index;
}
