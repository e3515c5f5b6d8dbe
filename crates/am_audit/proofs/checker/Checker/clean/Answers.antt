use Rattle.std.proofs.Common.{refl}
use Rattle.std.proofs.lemmas.Bool.{false≢true}
use Rattle.am_audit.proofs.EventSteps.{takes_still}
use Rattle.am_audit.proofs.checker.Checker.clean.Goals as goal

pub returns-clause-takes : goal.returns-clause-takes
returns-clause-takes g c = takes_still c.args.self.now.most_runs c.args.self.now g.here _ c.args.reply.now refl
    (record { formed = (c.if-not-may_clean.ensures c.args.self.now.most_runs).0 refl; busy = tt }) c.requires

pub returns-then-not-may_clean-clause-event_fault : goal.returns-then-not-may_clean-clause-event_fault
returns-then-not-may_clean-clause-event_fault g c = record {
  form = λ may. false≢true ((c.if-not-may_clean.ensures c.args.self.now.most_runs).1 may);
  first = λ early. tt;
}
