use Rattle.std.proofs.Common.{rules, ◌≡◌, take, ◌++◌, ◌∷◌, [], ap, ◌∙◌, subst}
use Rattle.am_record.specs.Events.{Event}
use Rattle.am_audit.specs.AuditStates.{HasJudged}
use Rattle.am_audit.proofs.Checks.{taken}
use Rattle.am_audit.proofs.trace_audit.Audit.judge_all.Goals as goal

pub judge-requires : goal.judge-requires
judge-requires g c = record {
  most_runs = g.most_runs;
  seen = take c.loop-step.step-index c.args.trace.now;
  judged = c.loop-step.invariant;
  room = search rules;
}

pub loop-step-preserved : goal.loop-step-preserved
loop-step-preserved g c =
    let before = take c.loop-step.step-index c.args.trace.now in
    let step = c.in_ok-step.ensures.same in
    let reply = c.in_ok-reply.ensures.same in
    let event : (c.in_ok-step.step, c.in_ok-reply.reply) ≡ c.loop-step-item.result = λ i. (step i, reply i) in
    subst (HasJudged g.most_runs c.judge.new.self) (ap (λ (e : Event). before ++ e ∷ []) event ∙ taken c.args.trace.now
    c.loop-step.step-index c.loop-step-item.result c.loop-step-test.true c.loop-step-item.is)
    (c.judge.ensures g.most_runs before c.loop-step.invariant)
