use Rattle.std.proofs.Common.{arith}
use Rattle.am_serve_drain.proofs.TakenPieces.{taken_none, taken_both, taken_next}
use Rattle.am_serve_drain.proofs.drain.Drain.run.Goals as goal

pub rounds-init : goal.rounds-init
rounds-init g c = taken_none g.T.PieceTaker.took _ _ _ (omega arith) (g.met.T.PieceTaker.took_none _)

pub returns-then-is_last-clause-taken : goal.returns-then-is_last-clause-taken
returns-then-is_last-clause-taken g c = taken_both g.T.PieceTaker.took g.met.T.PieceTaker.took_both _ _ _ _ _ _ _ _ _
    c.rounds.invariant c.take_piece.ensures.taken

pub rounds-preserved-then-is_over : goal.rounds-preserved-then-is_over
rounds-preserved-then-is_over g c = taken_next g.T.PieceTaker.took g.met.T.PieceTaker.took_both _ _ _ _ _ _ _ _ _ _ _ _
    c.rounds.invariant c.take_piece.ensures.taken c.since_stop-since.ensures.kept

pub rounds-preserved : goal.rounds-preserved
rounds-preserved g c = taken_next g.T.PieceTaker.took g.met.T.PieceTaker.took_both _ _ _ _ _ _ _ _ _ _ _ _
    c.rounds.invariant c.take_piece.ensures.taken c.since_stop-since.ensures.kept
