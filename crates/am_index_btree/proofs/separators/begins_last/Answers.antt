use Rattle.std.proofs.Common.{ℕ, suc, ◌≡◌, ◌+◌, ◌<◌, length, get_or, subst, arith}
use Rattle.std.proofs.lemmas.Bool.{ltb-true}
use Rattle.std.proofs.lemmas.List.{get_or_default}
use Rattle.am_record.specs.EntryOrder.{Place}
use Rattle.am_index_btree.specs.Separators.{IsReach}
use Rattle.am_index_btree.proofs.Fronts.{reach_whole, reach_between}
use Rattle.am_index_btree.proofs.separators.begins_last.Goals as goal

pub returns-then-child-len-2 : goal.returns-then-child-len-2
returns-then-child-len-2 c = λ e.
    let p : Place = (c.args.part, c.args.key) in let fs = c.args.fronts.now in let j : ℕ = c.args.child in
    let whole : j + 1 ≡ length fs = c.if-child-len-2.true in
    let within : j < length fs = omega (arith, c.if-child-len.false) in
    subst (IsReach c.args.separators.now p.0 p.1) {x = length fs} {y = j + 1} (omega (arith, whole))
    (reach_whole c.fronts_follow_keys.ensures p c.args.separators.now c.requires.rising fs c.requires.fronts
    c.front-front.result c.front-front.ensures j (get_or fs j 0) (omega (arith, whole))
    (get_or_default fs j 0 (get_or fs j 0) within) (omega (arith, c.if-fronts-child.false)))

pub returns-else-child-len-2 : goal.returns-else-child-len-2
returns-else-child-len-2 c = λ e.
    let p : Place = (c.args.part, c.args.key) in let fs = c.args.fronts.now in let j : ℕ = c.args.child in
    let within : suc j < length fs = omega (arith, c.if-child-len.false, c.if-child-len-2.false) in
    let above = ltb-true c.front-front.result (get_or fs (j + 1) 0) e in
    let next : j + 1 ≡ suc j = omega arith in
    subst (IsReach c.args.separators.now p.0 p.1) {x = suc j} {y = j + 1} (omega arith)
    (reach_between c.fronts_follow_keys.ensures p c.args.separators.now c.requires.rising fs c.requires.fronts
    c.front-front.result c.front-front.ensures j within (omega (arith, c.if-fronts-child.false))
    (subst (λ (n : ℕ). c.front-front.result < get_or fs n 0) next above))
