use Rattle.am_audit.proofs.trace_audit.check.Given as goal

abbrev pub ghost-judge_all : goal.ghost-judge_all
ghost-judge_all a = a.self.now.checker.most_runs
