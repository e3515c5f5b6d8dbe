use Rattle.std.proofs.Common.{◌≤◌, length}
use Rattle.am_trace_read.proofs.Digits.{IsRead}
use Rattle.am_trace_read.proofs.shape.bytes_of.Given as goal

abbrev pub invariant-pairs : goal.invariant-pairs
invariant-pairs l = record {
  read : IsRead l.digits l.bytes.items l.rest;
  short : length l.bytes.items ≤ 64;
}

abbrev pub decreases-pairs : goal.decreases-pairs
decreases-pairs l = length l.rest
