use Rattle.am_store.proofs.TransactionEnds.{begun}
use Rattle.am_store.proofs.inner.Inner.begin.Goals as goal

pub returns-in-Some-clause-after : goal.returns-in-Some-clause-after
returns-in-Some-clause-after g c =
    let old = c.args.self.now in
    begun old.most_runs old.parts old.txs old.wishes old.commits c.begin.new.self c.in-Some.tx
    c.active-active.ensures.consistent
    c.in-Some.ensures.number c.in-Some.ensures.after
