use Rattle.std.proofs.Common.{Err, refl, ap, ◌∙◌}
use Rattle.am_replica_texts.proofs.apply.apply_entry.Goals as goal

pub returns-in-Err-NoEntry-clause-applied : goal.returns-in-Err-NoEntry-clause-applied
returns-in-Err-NoEntry-clause-applied g c = (
  c.read_blocks.ensures.none (c.in-Err-NoEntry.is ∙ ap Err c.in-Err-NoEntry.field-0-is),
  refl,
)
