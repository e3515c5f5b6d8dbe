use Rattle.std.proofs.Common.{rules, ap}
use Rattle.am_latch_ties.proofs.Rules.{mints}
use Rattle.am_latch_ties.proofs.view_steps.mint_seat.Goals as goal

pub split_seat-requires : goal.split_seat-requires
split_seat-requires c = (search rules, search rules, mints _ c.args.number _ (ap (λ m. m.0) c.requires.trace_token))
