use Rattle.std.proofs.Common.{◌≡◌, ◌-◌, take}
use Rattle.am_index.specs.Entries.{all_from}
use Rattle.am_index.specs.Rooms.{KeepRoom}
use Rattle.am_store_merge.specs.LockHolders.{holder_of}
use Rattle.am_store_merge.proofs.MergeSteps.{IsOnTheWay}
use Rattle.am_store_merge.proofs.merge.work_off_run.Given as goal

abbrev pub invariant-loop-moved : goal.invariant-loop-moved
invariant-loop-moved g l = record {
  way : IsOnTheWay l.initial.parts.entries (holder_of l.locks) l.limit l.fn.first.part l.range l.parts.entries l.moved;
  read : l.moved ≡ 0 → l.batch ≡ take 16 (all_from l.parts.entries l.fn.first.part l.range.lo);
  runs : l.parts.runs ≡ l.initial.parts.runs;
  rooms : KeepRoom l.initial.parts.roomy l.parts.roomy l.parts.entries;
}

abbrev pub decreases-loop-moved : goal.decreases-loop-moved
decreases-loop-moved g l = l.limit - l.moved
