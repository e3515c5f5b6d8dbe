use Rattle.std.proofs.Common.{◌-◌, sym, ap, ◌∙◌, arith}
use Rattle.std.specs.List.{insert}
use Rattle.am_index_btree.proofs.Halves.{take_lower, drop_lower, take_upper, drop_upper}
use Rattle.am_index_btree.proofs.room.split_put.Goals as goal

pub returns-then-at-keep-clause-front : goal.returns-then-at-keep-clause-front
returns-then-at-keep-clause-front g c =
    let xs = c.args.v.now.items in let i = c.args.at in let m = c.args.keep in
    c.put.ensures.items ∙ ap (λ l. insert l i c.args.x) c.move_tail.ensures.front ∙
    sym (take_lower xs i m c.args.x c.if-at-keep.true
    (omega (arith, c.args.v.now.ok.0, c.requires.full, c.requires.in_range)))

pub returns-then-at-keep-clause-back : goal.returns-then-at-keep-clause-back
returns-then-at-keep-clause-back g c =
    let xs = c.args.v.now.items in let i = c.args.at in let m = c.args.keep in
    c.move_tail.ensures.back ∙ sym (drop_lower xs i m c.args.x c.if-at-keep.true
    (omega (arith, c.args.v.now.ok.0, c.requires.full, c.requires.in_range)))

pub returns-else-at-keep-clause-front : goal.returns-else-at-keep-clause-front
returns-else-at-keep-clause-front g c =
    let xs = c.args.v.now.items in let i = c.args.at in let m = c.args.keep in
    c.move_tail.ensures.front ∙ sym (take_upper xs i m c.args.x c.if-at-keep.false
    (omega (arith, c.args.v.now.ok.0, c.requires.full, c.requires.in_range)))

pub returns-else-at-keep-clause-back : goal.returns-else-at-keep-clause-back
returns-else-at-keep-clause-back g c =
    let xs = c.args.v.now.items in let i = c.args.at in let m = c.args.keep in
    c.put-else-at-keep.ensures.items ∙ ap (λ l. insert l (i - m) c.args.x) c.move_tail.ensures.back ∙
    sym (drop_upper xs i m c.args.x c.if-at-keep.false
    (omega (arith, c.args.v.now.ok.0, c.requires.full, c.requires.in_range)))
