use Rattle.am_audit.proofs.checker.Checker.begin.Given as goal

abbrev pub ghost-may_begin : goal.ghost-may_begin
ghost-may_begin g a = g.here.state
