use Rattle.std.specs.Prelude.{map}
use Rattle.am_audit_replies.specs.OwnAnswers.{placed_answer}
use Rattle.am_audit_replies.proofs.Replays.{IsReplayedTo}
use Rattle.am_audit_replies.proofs.body_replay.replay.Given as goal

abbrev pub invariant-loop-kept : goal.invariant-loop-kept
invariant-loop-kept l = IsReplayedTo (map placed_answer l.own) l.fn.committed l.committed l.kept-index
