use Rattle.am_serve_workers.specs.Turns.{HasTakenTurns}
use Rattle.am_serve_workers.specs.WorkerTurns.{TakesTurns}
use Rattle.am_serve_workers.proofs.turns.take_turns.Given as goal

abbrev pub invariant-loop-turn : goal.invariant-loop-turn
invariant-loop-turn g l = record {
  turned : HasTakenTurns l.upkeep l.limit l.turn l.initial.seat l.seat;
  on : TakesTurns l.upkeep l.limit g.L.LatchName.seats l.turn l.initial.seat l.places l.seat;
}
