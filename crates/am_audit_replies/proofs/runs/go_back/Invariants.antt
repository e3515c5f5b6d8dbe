use Rattle.std.proofs.Common.{◌≡◌, ◌-◌}
use Rattle.am_audit_replies.specs.Trials.{backs}
use Rattle.am_audit_replies.proofs.runs.go_back.Given as goal

abbrev pub invariant-loop : goal.invariant-loop
invariant-loop l = backs (l.marks - l.counter) l.committed ≡ backs l.fn.marks l.fn.committed
