use Rattle.am_audit_locks.proofs.lock_requests.look.Given as goal

abbrev pub ghost-ask : goal.ghost-ask
ghost-ask g a = g.txs
