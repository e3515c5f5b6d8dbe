use Rattle.std.proofs.Common.{◌-◌, sym, ap, ◌∙◌, arith}
use Rattle.std.specs.Ordering.{is_le}
use Rattle.am_index_btree.proofs.EndPlaces.{ends_at_last}
use Rattle.am_index_btree.proofs.read.end_in_leaf.Goals as goal

pub returns-then-is_le-clause-ends : goal.returns-then-is_le-clause-ends
returns-then-is_le-clause-ends c =
    let len = c.len-len.result in
    ends_at_last c.args.leaf.now.entries c.args.part c.args.key len (len - 1) c.len-len.ensures.rising
    c.len-len.ensures.all (omega (arith, c.if-len-gt0.true))
    (λ d. ap is_le (sym (c.cmp_at.ensures d)) ∙ sym c.is_le.ensures ∙ c.if-is_le.true)
