use Rattle.am_replica_pieces.proofs.OnWay.{may_put}
use Rattle.am_replica_pieces.proofs.writer.Writer.part.Goals as goal

pub returns-clause-may : goal.returns-clause-may
returns-clause-may c since read ok is unseen =
    may_put c.args.most c.args.text.now c.args.self.now since read c.part_at.result.0 c.part_at.result.1.now ok is
    unseen
