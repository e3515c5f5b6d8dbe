use Rattle.std.proofs.Common.{◌≡◌, ◌++◌, take}
use Rattle.am_replica.proofs.transaction.Transaction.into_block.Given as goal

-- the lines so far are among its operations
abbrev pub invariant-loop-line : goal.invariant-loop-line
invariant-loop-line l = l.ops.items ≡ l.fn.self.ops ++ take l.line-index l.lines
