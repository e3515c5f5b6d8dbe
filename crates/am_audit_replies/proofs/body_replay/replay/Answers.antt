use Rattle.std.proofs.Common.{refl, sym, ◌∙◌}
use Rattle.std.proofs.lemmas.Bool.{false≢true}
use Rattle.am_audit_replies.proofs.Replays.{next_is, one_more, wrong_here}
use Rattle.am_audit_replies.proofs.body_replay.replay.Goals as goal

pub returns-then-not-is_right-clause-wrong : goal.returns-then-not-is_right-clause-wrong
returns-then-not-is_right-clause-wrong c =
    let next = next_is c.args.own.now c.loop-kept.kept-index _ c.loop-kept-test.true c.kept-item.is in
    wrong_here _ _ _ _ _ _ _ _ c.loop-kept.invariant next refl
    (λ e. false≢true (sym c.if-not-is_right.true ∙ c.in_ok-is_right.ensures.answer.1 e))

pub loop-kept-preserved : goal.loop-kept-preserved
loop-kept-preserved c =
    let next = next_is c.args.own.now c.loop-kept.kept-index _ c.loop-kept-test.true c.kept-item.is in
    one_more _ _ _ _ _ _ _ _ _ c.loop-kept.invariant next refl
    (c.in_ok-is_right.ensures.answer.0 c.if-not-is_right.false) c.in_ok-is_right.ensures.after
