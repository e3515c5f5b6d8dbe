use Rattle.std.proofs.Common.{◌≤◌}
use Rattle.am_store_merge.specs.LockHolders.{holder_of}
use Rattle.am_store_merge.specs.Steps.{is_free_in}
use Rattle.am_store_merge.proofs.PassingPrefixes.{passing}
use Rattle.am_store_merge.proofs.merge.count_free.Given as goal

abbrev pub invariant-loop-at : goal.invariant-loop-at
invariant-loop-at l = l.at ≤ passing (is_free_in (holder_of l.locks) l.range) l.most l.entries
