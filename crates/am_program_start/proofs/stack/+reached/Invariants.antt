use Rattle.am_program_start.proofs.stack.+reached.Given as goal

abbrev pub decreases-reached : goal.decreases-reached
decreases-reached l = l.pages
