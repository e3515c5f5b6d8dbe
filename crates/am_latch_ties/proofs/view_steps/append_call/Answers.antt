use Rattle.std.proofs.Common.{rules, ap, sym, refl, ◌∙◌, subst, []}
use Rattle.am_latch_ties.specs.Views.{IsJointView, view_with_call, seat_in, seat_part, log_part}
use Rattle.am_latch_ties.proofs.Rules.{joins, joined, splits}
use Rattle.am_latch_ties.proofs.view_steps.append_call.Goals as goal

pub join_seat-requires : goal.join_seat-requires
join_seat-requires c = (
  search rules,
  search rules,
  search rules,
  search rules,
  joins _ _ _ _ c.requires.token.0 c.requires.trace_token.0,
)

pub append-requires-clause-token : goal.append-requires-clause-token
append-requires-clause-token c =
    let j = sym (joined _ _ _ c.requires.token.0 c.requires.trace_token.0 c.join_seat.ensures.2) in
    (subst (λ m. IsJointView m.0) j refl, c.requires.token.1 ∙ ap (λ m. (seat_in m.0).seat) j)

pub split_seat-requires : goal.split_seat-requires
split_seat-requires c =
    let j = joined _ _ _ c.requires.token.0 c.requires.trace_token.0 c.join_seat.ensures.2 in
    let a = ap (λ m. m.0) c.append.ensures.token ∙
    ap (λ m. view_with_call c.args.step.now c.args.reply.now c.args.call_id.now m.0) j in
    (search rules, search rules, splits _ _ _ _ a)

pub returns-clause-token : goal.returns-clause-token
returns-clause-token c =
    let j = joined _ _ _ c.requires.token.0 c.requires.trace_token.0 c.join_seat.ensures.2 in
    let a = c.append.ensures.token in
    c.split_seat.ensures.2 ∙ (λ i. (seat_part (a i).0, (a i).1)) ∙
    (λ i. (seat_part (view_with_call c.args.step.now c.args.reply.now c.args.call_id.now (j i).0), (j i).1))

pub returns-clause-trace_token : goal.returns-clause-trace_token
returns-clause-trace_token c =
    let j = joined _ _ _ c.requires.token.0 c.requires.trace_token.0 c.join_seat.ensures.2 in
    let a = c.append.ensures.token in
    c.split_seat.ensures.4 ∙ (λ i. (log_part (a i).0, [])) ∙
    (λ i. (log_part (view_with_call c.args.step.now c.args.reply.now c.args.call_id.now (j i).0), []))
