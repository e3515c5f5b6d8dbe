use Rattle.std.proofs.Common.{[]}
use Rattle.am_latch_ties.proofs.taker_tie.hand_over.Given as goal

abbrev pub ghosts-add_taken : goal.ghosts-add_taken
ghosts-add_taken a = record { trace = a.trace.now; calls = [] }
