use Rattle.am_audit.proofs.checker.Checker.perform.Given as goal

abbrev pub ghost-look : goal.ghost-look
ghost-look g a = g.at.1.state.active

abbrev pub ghost-verdict : goal.ghost-verdict
ghost-verdict g a = (g.at.0, g.at.1.state)

abbrev pub ghost-ask : goal.ghost-ask
ghost-ask g a = g.at.1.state.active
