use Rattle.am_replica_pieces.proofs.Handed.{own_gone, own_left}
use Rattle.am_replica_pieces.proofs.laws.heads_let_go_of_their_own.Goals as goal

pub returns : goal.returns
returns c = record {
  gone = λ name at text pieces. own_gone name pieces;
  others = λ name other at text pieces apart. own_left other name pieces apart;
}
