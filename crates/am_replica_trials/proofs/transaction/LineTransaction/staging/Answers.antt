use Rattle.std.proofs.Common.{◌+◌, ◌++◌, ◌∷◌, [], false, sym, ap, subst, ◌∙◌, refl}
use Rattle.am_replica_blocks.specs.Blocks.{Stages, waiting}
use Rattle.am_replica_trials.specs.Trials.{TrialState, HasLines}
use Rattle.am_replica_trials.proofs.Answers.{stages}
use Rattle.am_replica_trials.proofs.InOrder.{tried_before}
use Rattle.am_replica_trials.proofs.transaction.LineTransaction.staging.Goals as goal

pub returns : goal.returns
returns c own has =
    let old = c.args.self.now in
    let line = c.args.line.now in
    let inside = c.self.inside in
    let new : TrialState = record {
      transaction = inside.transaction;
      session = c.stage.new.session;
      lines = c.put_line.new.lines.items;
      answered = inside.answered + 1;
      answers_left = inside.answers_left;
      is_over = false;
    } in
    let is = c.self.view_is in
    let waits = ap (λ (s : TrialState). s.session) is ∙ has.waits in
    stages own old new line has c.requires.one c.requires.room c.requires.not_over c.args.records
    c.in_ok-response.response c.requires.asks (c.in_ok-response.ensures.says (waiting [] own) waits)
    (ap (λ (s : TrialState). s.transaction) is) (c.in_ok-response.ensures.left (waiting [] own) waits)
    (c.in_ok-put_line.ensures ∙ ap (λ (s : TrialState). s.lines ++ (line ++ 10 ∷ [])) is)
    (ap (λ (s : TrialState). s.answered + 1) is) (sym c.requires.not_over)
    (ap (λ (s : TrialState). s.answers_left) is)

pub invariant_of-self-2 : goal.invariant_of-self-2
invariant_of-self-2 c still =
    let inside = c.self.inside in
    let old : TrialState = record {
      transaction = inside.transaction;
      session = inside.session;
      lines = inside.lines.items;
      answered = inside.answered;
      answers_left = inside.answers_left;
      is_over = inside.is_over;
    } in
    let is = c.self.view_is in
    let mine = c.self.invariant (ap (λ (s : TrialState). s.is_over) is ∙ c.requires.not_over) in
    let staged = returns c mine.0 (subst (HasLines mine.0) is mine.1.has) in (
      mine.0 ++ Stages staged.records ∷ [],
      tried_before inside.tried mine.0 (mine.0 ++ Stages staged.records ∷ []) old (record {
        transaction = inside.transaction;
        session = c.stage.new.session;
        lines = c.put_line.new.lines.items;
        answered = inside.answered + 1;
        answers_left = inside.answers_left;
        is_over = false;
      }) (c.args.line.now ++ 10 ∷ []) mine.1 c.in_ok-put_line.ensures refl staged.has,
    )
