use Rattle.am_audit.proofs.checker.Checker.operate.Given as goal

abbrev pub ghost-refusal : goal.ghost-refusal
ghost-refusal g a = g.here.state

abbrev pub ghost-perform : goal.ghost-perform
ghost-perform g a = (a.self.now.most_runs, g.here)
