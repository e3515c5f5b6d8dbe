use Rattle.std.proofs.Common.{sym, ◌∙◌}
use Rattle.std.specs.Ordering.{ord_max, ord_min}
use Rattle.am_record.specs.OrderedKey.{key_cmp}
use Rattle.am_index_parts.proofs.MergedKnowledge.{union_of}
use Rattle.am_index_parts.proofs.merged_ranges.union.Goals as goal

pub returns : goal.returns
returns c =
    union_of c.args.a c.args.b c.min.result c.max.result c.new.result (sym c.meets.ensures ∙ c.if-not-meets.false)
    (c.min.ensures ∙ (λ i. ord_min key_cmp (c.lo.ensures.value i) (c.lo-2.ensures.value i)))
    (c.max.ensures ∙ (λ i. ord_max key_cmp (c.hi.ensures.value i) (c.hi-2.ensures.value i))) c.new.ensures.value
