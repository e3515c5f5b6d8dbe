use Rattle.std.proofs.Common.{refl, sym, ap, ◌∙◌}
use Rattle.std.specs.Prelude.{is_some}
use Rattle.std.proofs.lemmas.Bool.{false≢true}
use Rattle.am_audit.proofs.EventSteps.{takes_still}
use Rattle.am_audit.proofs.Bodies.{listed_open, listed_rise, asked_there}
use Rattle.am_audit.proofs.Performs.{commit_nothing, owner_ends, listed_here, replay_flaw, takes_commit}
use Rattle.am_audit.proofs.checker.Checker.commit.Goals as goal

pub may_commit-requires : goal.may_commit-requires
may_commit-requires g c = (
  c.is_some.ensures ∙ c.place_of-place.ensures.active
      ∙ listed_open c.args.self.now g.here c.requires _ c.deref.ensures.value c.args.tx,
  c.requires.commits,
)

pub returns-in_default : goal.returns-in_default
returns-in_default g c = record {
  takes = takes_still c.args.self.now.most_runs _ g.here _ c.args.reply.now
      (commit_nothing c.args.tx c.args.reply.now c.in_default.not-Committed)
      (record { formed = (c.if-not-may_commit.ensures c.args.self.now.most_runs).0 refl; busy = tt }) c.requires;
  event_fault = tt;
  most = refl;
}

pub unreachable-requires : goal.unreachable-requires
unreachable-requires g c =
    listed_here c.args.self.now.most_runs c.args.self.now g.here c.requires c.args.tx c.args.reply.now
    c.in-Committed.commit c.in-Committed.is
    ((c.if-not-may_commit.ensures c.args.self.now.most_runs).0 refl) _ c.deref.ensures.value
    (sym c.place_of-place.ensures.active ∙ ap is_some c.in_default-place.is)

pub returns-in-Err-clause-event_fault : goal.returns-in-Err-clause-event_fault
returns-in-Err-clause-event_fault g c =
    replay_flaw c.args.self.now.most_runs c.args.self.now g.here c.requires c.args.tx c.args.reply.now
    c.in-Committed.commit c.in-Committed.is
    ((c.if-not-may_commit.ensures c.args.self.now.most_runs).0 refl) _ c.deref-2.ensures.value _
    (c.own_answers-own.ensures c.args.tx (asked_there c.args.tx c.deref.ensures.value c.deref-2.ensures.value
    c.place_of-place.ensures.place c.in-Some.is))
    c.in-Err.event_fault c.in-Err.ensures.wrong

pub end-requires : goal.end-requires
end-requires g c = record {
  owner = owner_ends c.args.self.now.most_runs c.args.self.now g.here c.requires c.args.tx c.args.reply.now
      c.in-Committed.commit c.in-Committed.is ((c.if-not-may_commit.ensures c.args.self.now.most_runs).0 refl);
  place = asked_there c.args.tx c.deref.ensures.value refl c.place_of-place.ensures.place c.in-Some.is;
  rising = listed_rise c.args.self.now g.here c.requires _ refl;
}

pub returns-clause-takes : goal.returns-clause-takes
returns-clause-takes g c =
    takes_commit c.args.self.now.most_runs c.args.self.now g.here c.requires c.args.tx c.args.reply.now
    c.in-Committed.commit c.in-Committed.is
    ((c.if-not-may_commit.ensures c.args.self.now.most_runs).0 refl) _ c.deref-2.ensures.value _
    (c.own_answers-own.ensures c.args.tx (asked_there c.args.tx c.deref.ensures.value c.deref-2.ensures.value
    c.place_of-place.ensures.place c.in-Some.is))
    _ c.replay.new.committed c.in_default-replay.ensures.answers c.in_default-replay.ensures.left refl refl refl
    c.end.ensures.active c.end.ensures.locks c.forget_saved.ensures

pub returns-then-not-may_commit-clause-event_fault : goal.returns-then-not-may_commit-clause-event_fault
returns-then-not-may_commit-clause-event_fault g c = record {
  form = λ may. false≢true ((c.if-not-may_commit.ensures c.args.self.now.most_runs).1 may);
  first = λ early. tt;
}
