use Rattle.std.proofs.Common.{◌≡◌, ◌≤◌, drop}
use Rattle.am_replica_log.specs.History.{are_in_turn}
use Rattle.am_replica_log.proofs.pieces.are_in_turn.Given as goal

-- what is left decides, and no number is above the place
abbrev pub invariant-loop-piece : goal.invariant-loop-piece
invariant-loop-piece l = record {
  few : l.next ≤ l.piece-index;
  rest : are_in_turn l.next l.entry (drop l.piece-index l.pieces) ≡ are_in_turn 0 l.entry l.pieces;
}
