use Rattle.std.proofs.Common.{rules, ap}
use Rattle.am_latch_ties.proofs.Rules.{ends_minting}
use Rattle.am_latch_ties.proofs.view_steps.end_minting.Goals as goal

pub load-requires : goal.load-requires
load-requires c = (
  search rules,
  search rules,
  ends_minting _ _ c.args.number _ _ (ap (λ m. m.0) c.requires.trace_token),
)
