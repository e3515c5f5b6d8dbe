use Rattle.std.proofs.Common.{◌≡◌, ◌+◌, ◌≤◌, ◌++◌, drop}
use Rattle.am_replica.specs.Ordered.{Ordered, outcomes, after_blocks, verdicts}
use Rattle.am_replica.proofs.replica.Replica.apply_all.Given as goal

-- the outcomes so far and those of what is left are those of all
abbrev pub invariant-loop-block : goal.invariant-loop-block
invariant-loop-block g l =
    let digest = g.D.Digest.digest_of in
    let now : Ordered = record { map = g.M.Machine.map l.self.machine; commits = l.self.commits } in
    let begun : Ordered = record { map = g.M.Machine.map l.fn.self.machine; commits = l.fn.self.commits } in
    record {
      told : verdicts l.told.items ++ outcomes digest (drop l.block-index l.blocks) now ≡ outcomes digest l.blocks
          begun;
      rest : after_blocks digest (drop l.block-index l.blocks) now ≡ after_blocks digest l.blocks begun;
      idle : g.M.Machine.idle l.self.machine;
      countable : l.self.commits ≤ l.fn.self.commits + l.block-index;
    }
