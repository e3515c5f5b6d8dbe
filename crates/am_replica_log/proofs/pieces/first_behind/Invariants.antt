use Rattle.std.proofs.Common.{◌≡◌, drop}
use Rattle.am_replica_log.specs.History.{first_behind}
use Rattle.am_replica_log.proofs.pieces.first_behind.Given as goal

-- the first so far is what is left to begin with
abbrev pub invariant-loop-piece : goal.invariant-loop-piece
invariant-loop-piece l = first_behind l.first (drop l.piece-index l.pieces) ≡ first_behind l.revision l.pieces
