use Rattle.std.proofs.Common.{◌++◌}
use Rattle.am_replica.specs.Ordered.{Ordered}
use Rattle.am_replica_follower.proofs.Joining.{joins_at}
use Rattle.am_replica_follower.proofs.follower.Follower.begin_at.Goals as goal

pub returns-clause-joins : goal.returns-clause-joins
returns-clause-joins g c start read before writer follows left first =
    let at : Ordered = record { map = g.M.Machine.map c.args.machine; commits = c.args.commits } in
    joins_at g.D.Digest.digest_of start at read before writer c.behind.result c.args.floor c.args.revision follows left
    first c.behind.ensures
