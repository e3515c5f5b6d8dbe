use Rattle.std.proofs.Common.{arith}
use Rattle.am_index_leaf.proofs.Stretches.{all_below, alike_within, stretch_by_fronts}
use Rattle.am_index_leaf.proofs.stretch.stretch.Goals as goal

pub returns-then-last-front : goal.returns-then-last-front
returns-then-last-front c =
    all_below c.fronts_follow_keys.ensures c.args.part c.args.places.now.items c.requires.rising c.args.len
    c.requires.all c.if-len-eq0.false c.front-first.result c.front-last.result c.front-first.ensures
    c.front-last.ensures c.if-first-part.false c.if-last-part.false c.args.key.now c.front-front.result
    c.front-front.ensures c.if-last-front.true

pub overflow_add-result : goal.overflow_add-result
overflow_add-result c = omega (
  arith,
  c.ranges.len.fits,
  alike_within c.fronts_follow_keys.ensures c.args.part c.args.places.now.items c.requires.rising c.args.len
      c.requires.all c.if-len-eq0.false c.front-first.result c.front-last.result c.front-first.ensures
      c.front-last.ensures c.if-first-part.false c.if-last-part.false c.args.key.now c.front-front.result
      c.front-front.ensures c.count_lower-lower.result c.count_alike-alike.result c.count_lower-lower.ensures
      c.count_alike-alike.ensures,
)

pub returns : goal.returns
returns c =
    stretch_by_fronts c.fronts_follow_keys.ensures c.args.part c.args.places.now.items c.requires.rising c.args.len
    c.requires.all c.if-len-eq0.false c.front-first.result c.front-last.result c.front-first.ensures
    c.front-last.ensures c.if-first-part.false c.if-last-part.false c.args.key.now c.front-front.result
    c.front-front.ensures c.count_lower-lower.result c.count_alike-alike.result c.count_lower-lower.ensures
    c.count_alike-alike.ensures
