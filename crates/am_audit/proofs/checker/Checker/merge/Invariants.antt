use Rattle.am_audit.proofs.checker.Checker.merge.Given as goal

abbrev pub ghost-may_merge : goal.ghost-may_merge
ghost-may_merge g a = g.here.state
