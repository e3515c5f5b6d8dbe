use Rattle.std.proofs.Common.{arith}
use Rattle.am_index_leaf.proofs.BitLemmas.{computed_insert, inserted_below}
use Rattle.am_index_leaf.proofs.bits.insert_bit.Goals as goal

pub returns : goal.returns
returns c = computed_insert c.args.word c.args.at _ _ c.args.is_set c.from-word.ensures c.from.ensures
    c.requires.in_range

pub overflow_cast-result : goal.overflow_cast-result
overflow_cast-result c = rw (returns c) (record {
  fits = inserted_below c.args.word c.args.at 31 c.args.is_set
      (omega (arith, c.requires.in_range)) c.requires.room;
})
