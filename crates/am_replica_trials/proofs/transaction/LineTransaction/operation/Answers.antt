use Rattle.std.proofs.Common.{◌≡◌, length, [], ◌∷◌, ◌++◌, ◌+◌, ◌-◌, List, ℕ, false, sym, ap, subst, ◌∙◌}
use Rattle.std.specs.Prelude.{MatchOption, MatchResult}
use Rattle.am_record.specs.declared.step.Op.{Op}
use Rattle.am_replica.specs.Told.{IsTrialOpen, still_stands, behind_lines, untold}
use Rattle.am_replica_blocks.specs.Blocks.{Asks, waiting}
use Rattle.am_replica_trials.specs.Trials.{TrialState, HasLines, whole_op, kept_in}
use Rattle.am_replica_trials.proofs.Answers.{replied}
use Rattle.am_replica_trials.proofs.InOrder.{all_tried, ops_are}
use Rattle.am_replica_trials.proofs.transaction.LineTransaction.operation.Goals as goal

pub returns-in_ok-go_on-in-Ok-clause-answered : goal.returns-in_ok-go_on-in-Ok-clause-answered
returns-in_ok-go_on-in-Ok-clause-answered g c own has =
    let digest = g.D.Digest.digest_of in
    let m = g.M.Machine.map c.args.machine.now in
    let old = c.args.self.now in
    let line = c.args.line.now in
    let new : TrialState = record {
      transaction = c.trial.new.self;
      session = c.take_along.new.session;
      lines = c.put_line.new.lines.items;
      answered = c.self.inside.answered + 1;
      answers_left = c.saturating_sub-self-inside.result;
      is_over = false;
    } in
    let is = c.self.view_is in
    let waits = ap (λ (s : TrialState). s.session) is ∙ has.waits in
    let told = ap (λ (s : TrialState). s.transaction) is in
    let whole : c.in_ok-whole.whole ∷ [] ≡ whole_op own c.args.op =
    ap (λ (op : Op). op ∷ []) (c.in_ok-whole.ensures.asks (waiting [] own) waits) in
    let same = c.in_ok-keep_for.ensures.same in
    replied own old new line has c.requires.one c.requires.room c.requires.not_over digest c.args.op m c.in-Ok.reply
    c.requires.asks
    (sym (λ i. still_stands digest (told i) (whole i) (same i)) ∙ c.in-Ok.ensures.stands)
    (sym (λ i. untold (told i) (whole i) (same i)) ∙ c.in-Ok.ensures.answer)
    (c.in-Ok.ensures.goes_on ∙ (λ i. behind_lines digest (told i) (whole i) (same i)))
    (c.in_ok-whole.ensures.left (waiting [] own) waits)
    (c.in_ok-put_line-in-Ok.ensures ∙ ap (λ (s : TrialState). s.lines ++ (line ++ 10 ∷ [])) is)
    (ap (λ (s : TrialState). s.answered + 1) is) (sym c.requires.not_over) c.requires.answer_room
    (c.saturating_sub-self-inside.ensures
    ∙ ap (λ (s : TrialState). s.answers_left - length c.as_slice-in-Ok.result.now) is
    ∙ ap (λ (text : List ℕ). old.answers_left - length text)
    (c.as_slice-in-Ok.ensures.value ∙ c.in_ok-text-in-Ok.ensures))

-- the lines that it had were in order
pub invariant_of-self-in-Ok : goal.invariant_of-self-in-Ok
invariant_of-self-in-Ok g c still =
    let is = c.self.view_is in
    let mine = c.self.invariant (ap (λ (s : TrialState). s.is_over) is ∙ c.requires.not_over) in
    let replied = returns-in_ok-go_on-in-Ok-clause-answered g c mine.0 (subst (HasLines mine.0) is mine.1.has) in (
      mine.0 ++ Asks replied.op ∷ [],
      all_tried (mine.0 ++ Asks replied.op ∷ []) (record {
        transaction = c.trial.new.self;
        session = c.take_along.new.session;
        lines = c.put_line.new.lines.items;
        answered = c.self.inside.answered + 1;
        answers_left = c.saturating_sub-self-inside.result;
        is_over = false;
      }) (length c.as_slice.result.now) (ap length c.as_slice.ensures.value) replied.has,
    )

-- its lines are the trial's
pub returns-in_ok-go_on-in-Ok-clause-stands : goal.returns-in_ok-go_on-in-Ok-clause-stands
returns-in_ok-go_on-in-Ok-clause-stands g c =
    let is = c.self.view_is in
    let mine = c.self.invariant (ap (λ (s : TrialState). s.is_over) is ∙ c.requires.not_over) in
    let replied = returns-in_ok-go_on-in-Ok-clause-answered g c mine.0 (subst (HasLines mine.0) is mine.1.has) in
    let asked : c.trial.new.self.ops ≡ kept_in c.go_on.new.self.lines.items =
    sym (ops_are (mine.0 ++ Asks replied.op ∷ []) (record {
      transaction = c.trial.new.self;
      session = c.take_along.new.session;
      lines = c.put_line.new.lines.items;
      answered = c.self.inside.answered + 1;
      answers_left = c.saturating_sub-self-inside.result;
      is_over = false;
    }) replied.has)
    ∙ ap kept_in (sym (c.in_ok-go_on-in-Ok.ensures.lines ∙ c.deref-in-Ok.ensures.value)) in
    subst (λ digest. MatchOption digest (g.M.Machine.idle c.trial.new.machine) (λ digest.
    IsTrialOpen (g.M.Machine.inside c.trial.new.machine) (g.D.Digest.holds digest)
    (kept_in c.go_on.new.self.lines.items)
    (g.M.Machine.map c.trial.new.machine))) (sym c.in_ok-go_on-in-Ok.ensures.digest)
    (subst (λ (ops : List Op). MatchOption c.trial.new.started (g.M.Machine.idle c.trial.new.machine) (λ digest.
    IsTrialOpen (g.M.Machine.inside c.trial.new.machine) (g.D.Digest.holds digest) ops
    (g.M.Machine.map c.trial.new.machine))) asked
    (c.in-Ok.ensures.is_open (λ is. subst (λ r. MatchResult r (λ _. Unit {0}) (λ _. ⊥)) is tt)))
