use Rattle.am_audit.proofs.checker.Checker.abort.Given as goal

abbrev pub ghost-may_abort : goal.ghost-may_abort
ghost-may_abort g a = g.here.state
