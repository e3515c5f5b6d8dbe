use Rattle.std.proofs.Common.{◌≡◌, ◌-◌, List, length}
use Rattle.am_record.specs.declared.entry.Entry.{Entry}
use Rattle.am_store_loads.specs.Walk.{IsWalkFrom}
use Rattle.am_store_loads.proofs.walk.Walk.pass_below.Given as goal

abbrev pub invariant-loop-entry : goal.invariant-loop-entry
invariant-loop-entry l =
    record {
      walk : (es : List Entry) → IsWalkFrom es l.key l.initial.self → IsWalkFrom es l.key l.self;
      part : l.self.part ≡ l.initial.self.part;
      last : l.self.last ≡ l.initial.self.last;
      descents : l.self.descents ≡ l.initial.self.descents;
    }

abbrev pub decreases-loop-entry : goal.decreases-loop-entry
decreases-loop-entry l = length l.self.read - l.self.passed
