use Rattle.am_audit.proofs.OwnMoments.{own_moment}
use Rattle.am_audit.proofs.trace_audit.Audit.judge.Given as goal

abbrev pub ghost-judge : goal.ghost-judge
ghost-judge a = own_moment a.self.now a.position
