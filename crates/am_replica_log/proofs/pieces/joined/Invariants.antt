use Rattle.std.proofs.Common.{◌≡◌, ◌++◌, drop}
use Rattle.am_replica_log.specs.History.{whole_text}
use Rattle.am_replica_log.proofs.pieces.joined.Given as goal

-- the text so far and what is left of the entry are the whole
abbrev pub invariant-loop-piece : goal.invariant-loop-piece
invariant-loop-piece l = l.text ++ whole_text l.entry (drop l.piece-index l.pieces) ≡ whole_text l.entry l.pieces
