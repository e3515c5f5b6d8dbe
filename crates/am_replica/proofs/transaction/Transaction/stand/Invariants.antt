use Rattle.std.proofs.Common.{take}
use Rattle.am_replica.specs.Bodies.{given}
use Rattle.am_replica.proofs.transaction.Transaction.stand.Given as goal

-- the digest has taken the answers so far
abbrev pub invariant-loop-reply : goal.invariant-loop-reply
invariant-loop-reply g l = g.D.Digest.holds l.running (given (take l.reply-index l.reply-items))
