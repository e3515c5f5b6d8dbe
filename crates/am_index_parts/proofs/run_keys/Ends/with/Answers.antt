use Rattle.std.proofs.Common.{ap, sym, ◌∙◌}
use Rattle.std.proofs.lemmas.Bool.{and_parts}
use Rattle.am_record.specs.Interval.{key_le}
use Rattle.am_record.specs.OrderedKey.{OrderedKey}
use Rattle.am_record.proofs.KeyOrder.{key_le_trans}
use Rattle.am_index_parts.proofs.run_keys.Ends.with.Goals as goal

pub returns-clause-own : goal.returns-clause-own
returns-clause-own c = λ key it. (
  key_le_trans c.least.result c.args.self.lo key c.least.ensures.first it.0,
  key_le_trans key c.args.self.hi c.greatest.result it.1 c.greatest.ensures.first,
)

pub returns-clause-others : goal.returns-clause-others
returns-clause-others c = λ key it.
    let range = c.args.range in
    let parts = and_parts (key_le range.lo key) (key_le key range.hi) it in (
      key_le_trans c.least.result range.lo key (ap (key_le c.least.result) (sym c.lo.ensures.value) ∙
          c.least.ensures.second) parts.0,
      key_le_trans key range.hi c.greatest.result parts.1
          (ap (λ (k : OrderedKey). key_le k c.greatest.result) (sym c.hi.ensures.value) ∙ c.greatest.ensures.second),
    )
