use Rattle.am_audit_locks.proofs.held_locks.HeldLocks.look.Given as goal

abbrev pub ghost-look : goal.ghost-look
ghost-look g a = g.txs
