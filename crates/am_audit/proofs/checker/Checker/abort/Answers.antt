use Rattle.std.proofs.Common.{refl, sym, ap, ◌∙◌}
use Rattle.std.specs.Prelude.{is_some}
use Rattle.std.proofs.lemmas.Bool.{false≢true}
use Rattle.am_audit.proofs.Bodies.{listed_open, listed_rise, asked_there}
use Rattle.am_audit.proofs.EventSteps.{takes_still, abort_nothing, is_owned, takes_abort}
use Rattle.am_audit.proofs.checker.Checker.abort.Goals as goal

pub may_abort-requires : goal.may_abort-requires
may_abort-requires g c =
    c.is_some.ensures ∙ c.place_of-place.ensures.active
    ∙ listed_open c.args.self.now g.here c.requires _ c.deref.ensures.value c.args.tx

pub end-requires : goal.end-requires
end-requires g c = record {
  owner = is_owned c.args.self.now g.here c.requires c.args.tx
      ∙ sym (sym (ap is_some c.in-Some.is) ∙ c.place_of-place.ensures.active
      ∙ listed_open c.args.self.now g.here c.requires _ c.deref.ensures.value c.args.tx);
  place = asked_there c.args.tx c.deref.ensures.value refl c.place_of-place.ensures.place c.in-Some.is;
  rising = listed_rise c.args.self.now g.here c.requires _ refl;
}

pub returns-in-Some-clause-takes : goal.returns-in-Some-clause-takes
returns-in-Some-clause-takes g c =
    takes_abort c.args.self.now.most_runs c.args.self.now _ g.here c.args.tx c.args.reply.now c.requires
    (sym (sym (ap is_some c.in-Some.is) ∙ c.place_of-place.ensures.active
    ∙ listed_open c.args.self.now g.here c.requires _ c.deref.ensures.value c.args.tx))
    ((c.if-not-may_abort.ensures c.args.self.now.most_runs).0 refl) refl refl refl c.end.ensures.active
    c.end.ensures.locks refl

pub returns-in_default-clause-takes : goal.returns-in_default-clause-takes
returns-in_default-clause-takes g c =
    takes_still c.args.self.now.most_runs _ g.here _ c.args.reply.now
    (abort_nothing c.args.self.now.most_runs g.here.state c.args.tx c.args.reply.now
    (sym (sym (ap is_some c.in_default.is) ∙ c.place_of-place.ensures.active
    ∙ listed_open c.args.self.now g.here c.requires _ c.deref.ensures.value c.args.tx))
    ((c.if-not-may_abort.ensures c.args.self.now.most_runs).0 refl))
    (record { formed = (c.if-not-may_abort.ensures c.args.self.now.most_runs).0 refl; busy = tt }) c.requires

pub returns-then-not-may_abort-clause-event_fault : goal.returns-then-not-may_abort-clause-event_fault
returns-then-not-may_abort-clause-event_fault g c = record {
  form = λ may. false≢true ((c.if-not-may_abort.ensures c.args.self.now.most_runs).1 may);
  first = λ early. tt;
}
