use Rattle.std.proofs.Common.{◌≡◌, ℕ, List, Bool, IfOk, OnErr, cond, rules, sym, subst}
use Rattle.am_program_audit.specs.Answers.{text_judged}
use Rattle.am_program_audit.specs.Judgements.{PrintsRecords, SaysJudgement, HasBegunRecords, IsBegun}
use Rattle.am_program_audit.proofs.answer.answer.Goals as goal
use Rattle.am_program_audit.proofs.answer.answer.Goals.{then-asked, else-asked}

pub returns-then-asked-2-clause-answered : goal.returns-then-asked-2-clause-answered
returns-then-asked-2-clause-answered g c =
    let run : c.if-asked.run.now ≡ text_judged c.args.asked.now c.args.text.now =
    elim c.if-asked.branch as (λ _. c.if-asked.run.now ≡ text_judged c.args.asked.now c.args.text.now) [
      | then-asked w ↦ search rules
      | else-asked w ↦ search rules
    ] in
    subst (λ (p : Bool × List ℕ). IfOk c.tell_records.result (λ status. cond p.0
    (PrintsRecords g.K.Sink.holds p.1 c.args.sink.now c.tell_records.new.sink status)
    (SaysJudgement g.K.Sink.holds p.1 c.args.sink.now c.tell_records.new.sink status)))
    (λ i. (sym c.if-asked-2.true i, run i)) c.tell_records.ensures.told

pub returns-then-asked-2-clause-torn : goal.returns-then-asked-2-clause-torn
returns-then-asked-2-clause-torn g c =
    let run : c.if-asked.run.now ≡ text_judged c.args.asked.now c.args.text.now =
    elim c.if-asked.branch as (λ _. c.if-asked.run.now ≡ text_judged c.args.asked.now c.args.text.now) [
      | then-asked w ↦ search rules
      | else-asked w ↦ search rules
    ] in
    subst (λ (p : Bool × List ℕ). OnErr c.tell_records.result (cond p.0
    (HasBegunRecords g.K.Sink.holds p.1 c.args.sink.now c.tell_records.new.sink)
    (IsBegun g.K.Sink.holds p.1 c.args.sink.now c.tell_records.new.sink)))
    (λ i. (sym c.if-asked-2.true i, run i)) c.tell_records.ensures.torn
