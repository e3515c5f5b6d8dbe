use Rattle.std.proofs.Common.{rules, ap, sym, ◌∙◌, subst, []}
use Rattle.am_latch_ties.specs.Views.{seat_in, log_in, KnowsReceipts, seat_part, log_part}
use Rattle.am_latch_ties.proofs.Rules.{joins, joined, splits, compares}
use Rattle.am_latch_ties.proofs.view_steps.compare_receipts.Goals as goal

pub join_seat-requires : goal.join_seat-requires
join_seat-requires c = (
  search rules,
  search rules,
  search rules,
  search rules,
  joins _ _ _ _ c.requires.token c.requires.trace_token.0,
)

pub load-requires : goal.load-requires
load-requires c =
    let j = joined _ _ _ c.requires.token c.requires.trace_token.0 c.join_seat.ensures.2 in
    (search rules, search rules, compares _ _ _ _ _ _ (ap (λ m. m.0) j))

pub split_seat-requires : goal.split_seat-requires
split_seat-requires c =
    let j = joined _ _ _ c.requires.token c.requires.trace_token.0 (c.load.ensures.2.0 ∙ c.join_seat.ensures.2) in
    (search rules, search rules, splits _ _ _ _ (ap (λ m. m.0) j))

pub returns-clause-same : goal.returns-clause-same
returns-clause-same c =
    let j = joined _ _ _ c.requires.token c.requires.trace_token.0 (c.load.ensures.2.0 ∙ c.join_seat.ensures.2) in
    let s = c.split_seat.ensures in (
      search rules,
      s.2 ∙ (λ i. (seat_part (j i).0, (j i).1)) ∙ (λ i. (sym c.requires.token i, c.args.token.now.me.1)),
      search rules,
      s.4 ∙ (λ i. (log_part (j i).0, [])) ∙
          (λ i. (sym c.requires.trace_token.0 i, sym c.requires.trace_token.1 i)),
    )

pub returns-clause-known : goal.returns-clause-known
returns-clause-known c =
    let j = joined _ _ _ c.requires.token c.requires.trace_token.0 c.join_seat.ensures.2 in
    subst (λ m. KnowsReceipts (log_in m.0) (seat_in m.0)) j c.load.ensures.2.1
