use Rattle.am_audit.proofs.checker.Checker.judge.Given as goal

abbrev pub ghost-begin : goal.ghost-begin
ghost-begin g a = g.here

abbrev pub ghost-operate : goal.ghost-operate
ghost-operate g a = g.here

abbrev pub ghost-commit : goal.ghost-commit
ghost-commit g a = g.here

abbrev pub ghost-abort : goal.ghost-abort
ghost-abort g a = g.here

abbrev pub ghost-merge : goal.ghost-merge
ghost-merge g a = g.here

abbrev pub ghost-clean : goal.ghost-clean
ghost-clean g a = g.here
