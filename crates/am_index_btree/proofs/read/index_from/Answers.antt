use Rattle.std.proofs.Common.{arith}
use Rattle.am_index_btree.proofs.Seeks.{index_from, all_onward}
use Rattle.am_index_btree.proofs.read.index_from.Goals as goal

pub returns-in-Some-clause-begins : goal.returns-in-Some-clause-begins
returns-in-Some-clause-begins c = rw c.in-Some.is (index_from _ _ _ _ _ c.start_in_leaf.ensures.begins)

pub returns-in-None-clause-begins : goal.returns-in-None-clause-begins
returns-in-None-clause-begins c = rw c.in-None.is (record {
  in_range = omega arith;
  passed = tt;
  onward = all_onward c.args.leaf.now.entries;
})
