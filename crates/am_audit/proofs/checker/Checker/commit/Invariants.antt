use Rattle.am_audit.proofs.checker.Checker.commit.Given as goal

abbrev pub ghost-may_commit : goal.ghost-may_commit
ghost-may_commit g a = g.here.state
