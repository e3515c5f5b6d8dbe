use Rattle.am_serve.proofs.StoredTraces.{stored}
use Rattle.am_serve.proofs.server.close_all.Goals as goal

pub returns-clause-stored : goal.returns-clause-stored
returns-clause-stored g c = λ first held. stored g.T.PieceTaker.took g.met.T.PieceTaker.took_both c.args.drain.taker
    first
    c.args.drain.pieces c.args.drain.events g.L.LatchName.most_runs c.args.seats.items c.pass_rest.result held
    c.pass_rest.ensures.closed
