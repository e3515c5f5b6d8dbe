use Rattle.std.proofs.Common.{◌-◌, sym, ap, ◌∙◌, subst, arith}
use Rattle.std.specs.List.{insert}
use Rattle.am_index.specs.Places.{IsGapFor}
use Rattle.am_index_btree.proofs.Leaves.{gap_taken, gap_dropped}
use Rattle.am_index_btree.proofs.Halves.{take_lower, drop_lower, take_upper, drop_upper}
use Rattle.am_index_btree.proofs.insert.split_insert.Goals as goal

pub returns-then-at-keep-clause-front : goal.returns-then-at-keep-clause-front
returns-then-at-keep-clause-front c =
    let xs = c.args.leaf.now.entries in let i = c.args.at in
    c.insert_at.ensures.entries ∙ ap (λ l. insert l i c.args.entry.now) c.in_ok-upper.ensures.front ∙
    sym (take_lower xs i c.args.keep c.args.entry.now c.if-at-keep.true
    (omega (arith, c.requires.full, c.requires.place.in_range)))

pub returns-then-at-keep-clause-back : goal.returns-then-at-keep-clause-back
returns-then-at-keep-clause-back c =
    c.in_ok-upper.ensures.back ∙ sym (drop_lower c.args.leaf.now.entries c.args.at c.args.keep c.args.entry.now
    c.if-at-keep.true (omega (arith, c.requires.full, c.requires.place.in_range)))

pub returns-clause-front : goal.returns-clause-front
returns-clause-front c =
    c.in_ok-upper.ensures.front ∙ sym (take_upper c.args.leaf.now.entries c.args.at c.args.keep c.args.entry.now
    c.if-at-keep.false (omega (arith, c.requires.full, c.requires.place.in_range)))

pub returns-clause-back : goal.returns-clause-back
returns-clause-back c =
    let xs = c.args.leaf.now.entries in let i = c.args.at in let m = c.args.keep in
    c.insert_at-2.ensures.entries ∙ ap (λ l. insert l (i - m) c.args.entry.now) c.in_ok-upper.ensures.back ∙
    sym (drop_upper xs i m c.args.entry.now c.if-at-keep.false
    (omega (arith, c.requires.full, c.requires.place.in_range)))

pub insert_at-requires-clause-place : goal.insert_at-requires-clause-place
insert_at-requires-clause-place c =
    let x = c.args.entry.now in
    let gap = gap_taken c.args.leaf.now.entries x.part x.key c.args.at c.requires.place c.args.keep
    (omega (arith, c.if-at-keep.true)) (omega (arith, c.requires.full, c.requires.keeps.1)) in
    subst (λ es. IsGapFor es x.part x.key c.args.at) (sym c.in_ok-upper.ensures.front) gap

pub insert_at-requires-2-clause-place : goal.insert_at-requires-2-clause-place
insert_at-requires-2-clause-place c =
    let x = c.args.entry.now in
    let gap = gap_dropped c.args.leaf.now.entries x.part x.key c.args.at c.requires.place c.args.keep
    c.if-at-keep.false in
    subst (λ es. IsGapFor es x.part x.key (c.args.at - c.args.keep)) (sym c.in_ok-upper.ensures.back) gap
