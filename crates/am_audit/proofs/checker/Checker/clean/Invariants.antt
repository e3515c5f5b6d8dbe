use Rattle.am_audit.proofs.checker.Checker.clean.Given as goal

abbrev pub ghost-may_clean : goal.ghost-may_clean
ghost-may_clean g a = g.here.state
