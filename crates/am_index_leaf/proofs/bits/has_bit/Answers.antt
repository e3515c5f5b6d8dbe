use Rattle.am_index_leaf.proofs.BitLemmas.{bit_is}
use Rattle.am_index_leaf.proofs.bits.has_bit.Goals as goal

pub returns : goal.returns
returns c = bit_is c.args.word c.args.at
