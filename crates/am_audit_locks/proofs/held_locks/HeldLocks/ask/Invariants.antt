use Rattle.am_audit_locks.proofs.held_locks.HeldLocks.ask.Given as goal

abbrev pub ghost-ask : goal.ghost-ask
ghost-ask g a = g.txs
