use Rattle.std.proofs.Common.{◌≡◌, ◌≤◌, take, map}
use Rattle.am_record.specs.Plain.{PlainMap, fresh}
use Rattle.am_audit_replies.specs.OwnAnswers.{placed_answer, left_by_all}
use Rattle.am_audit_replies.specs.Trials.{above, HasTried}
use Rattle.am_audit_replies.proofs.runs.try_all.Given as goal

abbrev pub invariant-loop-kept : goal.invariant-loop-kept
invariant-loop-kept l = record {
  few : l.marks ≤ l.kept-index;
  tried : (m : PlainMap) → l.fn.committed ≡ above (fresh m) m →
      HasTried l.committed l.marks (left_by_all (take l.kept-index (map placed_answer l.own)) (fresh m)) m;
}
