use Rattle.am_serve.proofs.InTurn.{IsKept}
use Rattle.am_serve.proofs.turns.serve_in_turn.Given as goal

abbrev pub invariant-sessions : goal.invariant-sessions
invariant-sessions g l = IsKept g.L.LatchName.most_runs l.turn l.fn.session_seat l.session_seat
