use Rattle.std.proofs.Common.{sym, ap, ◌∙◌, arith}
use Rattle.std.specs.Ordering.{is_ge}
use Rattle.am_index_btree.proofs.EndPlaces.{starts_at_first}
use Rattle.am_index_btree.proofs.read.end_back_in_leaf.Goals as goal

pub returns-then-is_ge-clause-ends : goal.returns-then-is_ge-clause-ends
returns-then-is_ge-clause-ends c =
    starts_at_first c.args.leaf.now.entries c.args.part c.args.key c.len.ensures.rising
    (omega (arith, c.if-len-gt0.true, c.len.ensures.all))
    (λ d. ap is_ge (sym (c.cmp_at.ensures d)) ∙ sym c.is_ge.ensures ∙ c.if-is_ge.true)
