use Rattle.am_replica_follower.proofs.Following.{unseen_keeps}
use Rattle.am_replica_follower.proofs.Joining.{unseen_joins}
use Rattle.am_replica_follower.proofs.laws.unseen_changes_keep.Goals as goal

pub returns : goal.returns
returns c = record {
  follows = λ digest start history change log at unseen follows.
      unseen_keeps digest start history change log at unseen follows;
  joins = λ digest start rest history change log known at unseen joins.
      unseen_joins digest start known at rest history change log unseen joins;
}
