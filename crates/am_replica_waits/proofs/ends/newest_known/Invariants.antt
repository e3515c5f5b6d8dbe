use Rattle.std.proofs.Common.{◌≡◌, drop}
use Rattle.am_replica_waits.specs.Ends.{newest_known}
use Rattle.am_replica_waits.proofs.ends.newest_known.Given as goal

-- the rest leads from the newest so far to the newest of all
abbrev pub invariant-loop-question : goal.invariant-loop-question
invariant-loop-question l =
    newest_known l.applied l.newest (drop l.question-index l.questions) ≡ newest_known l.applied l.known l.questions
