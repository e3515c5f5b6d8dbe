use Rattle.std.proofs.Common.{◌≡◌, ◌-◌, length, take, drop}
use Rattle.am_index_btree.proofs.portion.read_to.Given as goal

abbrev pub invariant-loop-at : goal.invariant-loop-at
invariant-loop-at g l = record {
  whole : length l.array ≡ 32;
  read : take (l.at - l.from) l.array ≡ take (l.at - l.from) (drop l.from (g.S.RecordSource.records l.records));
}
