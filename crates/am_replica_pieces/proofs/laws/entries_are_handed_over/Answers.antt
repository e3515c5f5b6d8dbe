use Rattle.am_replica_pieces.proofs.Handed.{all_handed, all_told}
use Rattle.am_replica_pieces.proofs.laws.entries_are_handed_over.Goals as goal

pub returns : goal.returns
returns c = record {
  entries = λ most texts history some ok are. all_handed most texts history some ok are;
  told = λ most texts change history some ok are. all_told most texts change history some ok are;
}
