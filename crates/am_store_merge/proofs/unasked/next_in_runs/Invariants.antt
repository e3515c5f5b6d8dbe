use Rattle.std.proofs.Common.{◌-◌, ◌^◌, ◌<◌}
use Rattle.am_store_merge.specs.Fronts.{FrontBefore}
use Rattle.am_store_merge.proofs.unasked.next_in_runs.Given as goal

abbrev pub invariant-loop-run : goal.invariant-loop-run
invariant-loop-run g l = record {
  is_run : 0 < l.next;
  before : FrontBefore l.parts.entries l.range l.next l.front;
}

abbrev pub decreases-loop-run : goal.decreases-loop-run
decreases-loop-run g l = 2 ^ 32 - l.next
