use Rattle.am_index_leaf.proofs.BitLemmas.{computed_change, changed_below}
use Rattle.am_index_leaf.proofs.bits.change_bit.Goals as goal

pub returns : goal.returns
returns c = computed_change c.args.word c.args.at _ _ c.args.is_set c.from-word.ensures c.from.ensures c.requires

pub overflow_cast-result : goal.overflow_cast-result
overflow_cast-result c = rw (returns c) (record {
  fits = changed_below c.args.word c.args.at 32 c.args.is_set c.requires
      c.ranges.word.fits;
})
