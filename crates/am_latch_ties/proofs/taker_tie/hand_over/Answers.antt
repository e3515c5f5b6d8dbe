use Rattle.std.proofs.Common.{rules, ap, sym, refl, ◌≡◌, ◌∙◌, subst, []}
use Rattle.am_latch_ties.specs.HandOutRule.{handed_in, taken_in, IsWholeView, taker_part, handed_part, taken_with}
use Rattle.am_latch_ties.proofs.RuleSteps.{joins, joined, splits}
use Rattle.am_latch_ties.proofs.taker_tie.hand_over.Goals as goal

pub join_seat-requires : goal.join_seat-requires
join_seat-requires c = (
  search rules,
  search rules,
  search rules,
  search rules,
  joins _ _ _ _ c.requires.token c.requires.handed_token.0,
)

pub add_taken-requires-clause-token : goal.add_taken-requires-clause-token
add_taken-requires-clause-token c =
    let j = joined _ _ _ c.requires.token c.requires.handed_token.0 c.join_seat.ensures.2 in
    subst (λ m. IsWholeView m.0) (sym j) refl

pub split_seat-requires : goal.split_seat-requires
split_seat-requires c =
    let j = joined _ _ _ c.requires.token c.requires.handed_token.0 c.join_seat.ensures.2 in
    let a = ap (λ m. m.0) c.add_taken.ensures.token ∙ ap (λ m. taken_with c.args.trace.now m.0) j in
    (search rules, search rules, splits _ _ _ _ a)

pub returns-clause-agree : goal.returns-clause-agree
returns-clause-agree c =
    let j = joined _ _ _ c.requires.token c.requires.handed_token.0 c.join_seat.ensures.2 in
    subst (λ m. taken_in m.0 ≡ handed_in m.0) j c.add_taken.ensures.agree

pub returns-clause-token : goal.returns-clause-token
returns-clause-token c =
    let j = joined _ _ _ c.requires.token c.requires.handed_token.0 c.join_seat.ensures.2 in
    let a = c.add_taken.ensures.token in
    c.split_seat.ensures.2 ∙ (λ i. (taker_part (a i).0, (a i).1)) ∙
    (λ i. (taker_part (taken_with c.args.trace.now (j i).0), (j i).1))

pub returns-clause-handed_token : goal.returns-clause-handed_token
returns-clause-handed_token c =
    let j = joined _ _ _ c.requires.token c.requires.handed_token.0 c.join_seat.ensures.2 in
    let a = c.add_taken.ensures.token in
    c.split_seat.ensures.4 ∙ (λ i. (handed_part (a i).0, [])) ∙
    (λ i. (handed_part (taken_with c.args.trace.now (j i).0), []))
