use Rattle.std.proofs.Common.{subst, sym, ◌∙◌}
use Rattle.am_replica_lines.specs.Lines.{told_lines}
use Rattle.am_replica_trials.specs.Trials.{HasLines}
use Rattle.am_replica_trials.proofs.Blocks.{asks_all, none_wait, told_first}
use Rattle.am_replica_trials.proofs.transaction.LineTransaction.into_block.Goals as goal

pub returns-clause-read : goal.returns-clause-read
returns-clause-read c own has =
    let inside = c.self.inside in
    asks_all own (record {
      transaction = inside.transaction;
      session = inside.session;
      lines = inside.lines.items;
      answered = inside.answered;
      answers_left = inside.answers_left;
      is_over = inside.is_over;
    }) (told_lines c.in_ok-told.told) (subst (HasLines own) (sym c.self.view_is) has)
    (none_wait own (record {
      transaction = inside.transaction;
      session = inside.session;
      lines = inside.lines.items;
      answered = inside.answered;
      answers_left = inside.answers_left;
      is_over = inside.is_over;
    }) (subst (HasLines own) (sym c.self.view_is) has) (sym c.records_wait.ensures ∙ c.if-records_wait.false))
    (told_first c.in_ok-told.told inside.answered inside.transaction.digest c.in_ok-told.ensures.none
    c.in_ok-told.ensures.some)
