use Rattle.am_index_leaf.proofs.BitLemmas.{computed_remove}
use Rattle.am_index_leaf.proofs.bits.remove_bit.Goals as goal

pub returns : goal.returns
returns c = computed_remove c.args.word c.args.at _ c.from-word.ensures c.requires
