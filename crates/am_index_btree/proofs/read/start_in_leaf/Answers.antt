use Rattle.am_index_btree.proofs.Seeks.{start_at, start_above, start_gap}
use Rattle.am_index_btree.proofs.read.start_in_leaf.Goals as goal

pub returns-in-At-clause-begins : goal.returns-in-At-clause-begins
returns-in-At-clause-begins c = start_at _ _ _ _ _ c.in-At.is c.in-Ok.ensures.found

pub returns-in-Above-clause-begins : goal.returns-in-Above-clause-begins
returns-in-Above-clause-begins c = start_above _ _ _ _ _ c.in-Above.is c.in-Ok.ensures.found

pub returns-in-Err-clause-begins : goal.returns-in-Err-clause-begins
returns-in-Err-clause-begins c = start_gap c.args.start _ _ _ _ c.in-Err.ensures.absent
