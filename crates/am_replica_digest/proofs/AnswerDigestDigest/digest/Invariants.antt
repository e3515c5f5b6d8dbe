use Rattle.std.proofs.Common.{take}
use Rattle.sha2.specs.Hashers.{Holds256}
use Rattle.am_replica.specs.Bodies.{given}
use Rattle.am_replica_digest.specs.Texts.{texts_of}
use Rattle.am_replica_digest.proofs.AnswerDigestDigest.digest.Given as goal

-- the texts of the answers so far
abbrev pub invariant-loop-reply : goal.invariant-loop-reply
invariant-loop-reply l = Holds256 l.hasher (texts_of (given (take l.reply-index l.replies)))
