use Rattle.am_latch_ties.proofs.view_steps.append_call.Given as goal

abbrev pub ghosts-append : goal.ghosts-append
ghosts-append a = record { step = a.step.now; reply = a.reply.now; call_id = a.call_id.now }
