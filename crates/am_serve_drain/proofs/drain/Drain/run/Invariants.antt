use Rattle.am_serve_drain.specs.Pieces.{HasTaken}
use Rattle.am_serve_drain.proofs.drain.Drain.run.Given as goal

abbrev pub invariant-rounds : goal.invariant-rounds
invariant-rounds g l = HasTaken g.T.PieceTaker.took l.fn.self.taker l.fn.self.pieces l.fn.self.events l.drain.taker
    l.drain.pieces l.drain.events
