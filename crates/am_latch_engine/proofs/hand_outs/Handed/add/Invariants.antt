use Rattle.am_latch_engine.proofs.hand_outs.Handed.add.Given as goal

abbrev pub ghosts-add_events : goal.ghosts-add_events
ghosts-add_events a = record { trace = a.trace.now; calls = a.calls.now }
