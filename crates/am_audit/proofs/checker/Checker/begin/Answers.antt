use Rattle.std.proofs.Common.{◌≡◌, [], ◌∷◌, ◌++◌, map, refl, ap, ◌∙◌}
use Rattle.std.proofs.lemmas.Bool.{false≢true}
use Rattle.std.proofs.lemmas.List.{map-append}
use Rattle.am_audit_replies.specs.OwnAnswers.{Listed, listed}
use Rattle.am_audit.proofs.EventSteps.{takes_still, begin_nothing, may_begin_with, has_room, is_new, takes_begin}
use Rattle.am_audit.proofs.checker.Checker.begin.Goals as goal

pub enter-requires-clause-room : goal.enter-requires-clause-room
enter-requires-clause-room g c = has_room c.args.self.now g.here c.requires c.in-Begun.tx
    (may_begin_with c.args.self.now.most_runs g.here.state c.args.reply.now c.in-Begun.tx c.in-Begun.is
    ((c.if-not-may_begin.ensures c.args.self.now.most_runs).0 refl))

pub enter-requires-clause-new : goal.enter-requires-clause-new
enter-requires-clause-new g c = is_new c.args.self.now g.here c.requires c.in-Begun.tx
    (may_begin_with c.args.self.now.most_runs g.here.state c.args.reply.now c.in-Begun.tx c.in-Begun.is
    ((c.if-not-may_begin.ensures c.args.self.now.most_runs).0 refl))

pub returns-in_ok-enter-clause-takes : goal.returns-in_ok-enter-clause-takes
returns-in_ok-enter-clause-takes g c =
    let active : map listed c.push.new.self.items ≡ map listed c.args.self.now.active.items ++
    (c.in-Begun.tx, []) ∷ [] =
    ap (map listed) c.in_ok-push.ensures.items
    ∙ map-append listed c.args.self.now.active.items _
    ∙ ap (λ (x : Listed). map listed c.args.self.now.active.items ++ x ∷ []) c.in_ok-active.ensures in
    takes_begin c.args.self.now g.here c.requires c.in-Begun.tx
    (may_begin_with c.args.self.now.most_runs g.here.state c.args.reply.now c.in-Begun.tx c.in-Begun.is
    ((c.if-not-may_begin.ensures c.args.self.now.most_runs).0 refl))
    c.args.self.now.most_runs _ c.args.reply.now c.in-Begun.is refl refl refl active c.in_ok-enter.ensures refl

pub returns-in_default : goal.returns-in_default
returns-in_default g c = record {
  takes = takes_still c.args.self.now.most_runs _ g.here _ c.args.reply.now
      (begin_nothing c.args.reply.now c.in_default.not-Begun)
      (record { formed = (c.if-not-may_begin.ensures c.args.self.now.most_runs).0 refl; busy = tt }) c.requires;
  event_fault = tt;
  most = refl;
}

pub returns-then-not-may_begin-clause-event_fault : goal.returns-then-not-may_begin-clause-event_fault
returns-then-not-may_begin-clause-event_fault g c = record {
  form = λ may. false≢true ((c.if-not-may_begin.ensures c.args.self.now.most_runs).1 may);
  first = λ early. tt;
}
