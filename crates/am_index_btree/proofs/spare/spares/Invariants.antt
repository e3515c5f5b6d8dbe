use Rattle.std.proofs.Common.{◌≤◌, ◌-◌, vec_len}
use Rattle.am_index_btree.proofs.spare.spares.Given as goal

abbrev pub invariant-loop-alloc : goal.invariant-loop-alloc
invariant-loop-alloc l = vec_len l.all ≤ l.n

abbrev pub decreases-loop-alloc : goal.decreases-loop-alloc
decreases-loop-alloc l = l.n - vec_len l.all
