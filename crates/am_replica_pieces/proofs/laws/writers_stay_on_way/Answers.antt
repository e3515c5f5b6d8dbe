use Rattle.am_replica_pieces.proofs.OnWay.{stays, untold}
use Rattle.am_replica_pieces.proofs.laws.writers_stay_on_way.Goals as goal

pub returns : goal.returns
returns c = record {
  later = λ most text w more since read is. stays most text w more since read is;
  untold = λ most text w change since read none is. untold most text w change since read none is;
}
