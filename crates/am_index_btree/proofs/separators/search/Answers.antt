use Rattle.std.proofs.Common.{◌+◌, ◌-◌, length, get_or, take, drop, nat_eq, ap, ◌∙◌, subst, arith}
use Rattle.std.proofs.lemmas.List.{get_or_default}
use Rattle.std.specs.List.{prefix_len}
use Rattle.am_record.specs.EntryOrder.{Place}
use Rattle.am_index.proofs.Searches.{whole_rest}
use Rattle.am_index_btree.specs.Separators.{SeparatorsRise, IsReach}
use Rattle.am_index_btree.proofs.Fronts.{reach_whole, their_fronts_rise, both_within, these_rise, reach_by_fronts}
use Rattle.am_index_btree.proofs.separators.search.Goals as goal

pub returns-then-last-front : goal.returns-then-last-front
returns-then-last-front c =
    let p : Place = (c.args.part, c.args.key) in let fs = c.args.fronts.now in
    reach_whole c.fronts_follow_keys.ensures p c.args.separators.now c.requires.rising fs c.requires.fronts
    c.front-front.result c.front-front.ensures (length fs - 1) (get_or fs (length fs - 1) 0)
    (omega (arith, c.if-len-gt0.true)) (get_or_default fs (length fs - 1) 0 (get_or fs (length fs - 1) 0)
    (omega (arith, c.if-len-gt0.true))) c.if-last-front.true

pub overflow_add-lower : goal.overflow_add-lower
overflow_add-lower c =
    let p : Place = (c.args.part, c.args.key) in let n = c.count_lower-lower.result in
    let f = c.front-front.result in let fs = c.args.fronts.now in
    let next = c.count_alike-alike.ensures ∙ ap (prefix_len (λ x. nat_eq x f)) (whole_rest n fs) in
    let both = both_within c.fronts_follow_keys.ensures p c.args.separators.now c.requires.rising fs c.requires.fronts f
    c.front-front.ensures n c.count_alike-alike.result c.count_lower-lower.ensures next in
    omega (arith, both)

pub slice_bounds-reached-end : goal.slice_bounds-reached-end
slice_bounds-reached-end c =
    let p : Place = (c.args.part, c.args.key) in let n = c.count_lower-lower.result in
    let f = c.front-front.result in let fs = c.args.fronts.now in
    let next = c.count_alike-alike.ensures ∙ ap (prefix_len (λ x. nat_eq x f)) (whole_rest n fs) in
    let both = both_within c.fronts_follow_keys.ensures p c.args.separators.now c.requires.rising fs c.requires.fronts f
    c.front-front.ensures n c.count_alike-alike.result c.count_lower-lower.ensures next in
    omega (arith, both)

pub reached-requires-2 : goal.reached-requires-2
reached-requires-2 c =
    let p : Place = (c.args.part, c.args.key) in let n = c.count_lower-lower.result in
    let f = c.front-front.result in let fs = c.args.fronts.now in
    let next = c.count_alike-alike.ensures ∙ ap (prefix_len (λ x. nat_eq x f)) (whole_rest n fs) in
    let m = c.count_alike-alike.result in
    subst (λ k. SeparatorsRise (take k (drop n c.args.separators.now))) {x = m} {y = n + m - n} (omega arith)
    (these_rise c.fronts_follow_keys.ensures p c.args.separators.now c.requires.rising fs c.requires.fronts f
    c.front-front.ensures n m c.count_lower-lower.ensures next)

pub returns : goal.returns
returns c =
    let p : Place = (c.args.part, c.args.key) in let n = c.count_lower-lower.result in
    let f = c.front-front.result in let fs = c.args.fronts.now in
    let next = c.count_alike-alike.ensures ∙ ap (prefix_len (λ x. nat_eq x f)) (whole_rest n fs) in
    let m = c.count_alike-alike.result in
    reach_by_fronts c.fronts_follow_keys.ensures p c.args.separators.now c.requires.rising fs c.requires.fronts f
    c.front-front.ensures n m c.count_lower-lower.ensures next c.reached-2.result
    (subst (λ k. IsReach (take k (drop n c.args.separators.now)) p.0 p.1 c.reached-2.result) {x = n + m - n} {y = m}
    (omega arith) c.reached-2.ensures)

pub count_lower-lower-requires : goal.count_lower-lower-requires
count_lower-lower-requires c = record {
  rising = their_fronts_rise c.fronts_follow_keys.ensures c.args.separators.now c.args.fronts.now c.requires.rising
      c.requires.fronts;
}
