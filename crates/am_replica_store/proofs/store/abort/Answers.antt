use Rattle.am_replica_store.proofs.Alone.{aborts_whole}
use Rattle.am_replica_store.proofs.store.abort.Goals as goal

pub returns : goal.returns
returns c h = aborts_whole c.args.store.now c.args.tx h.0 h.1 h.2 c.step.new.self c.step.result c.step.ensures.says
    c.step.ensures.after c.step.ensures.goes
