use Rattle.std.proofs.Common.{◌≡◌, ◌≤◌, ◌-◌, ◌++◌, length, take}
use Rattle.am_index.specs.Runs.{run_entries}
use Rattle.am_index_btree.specs.Rooms.{KeepsRoom}
use Rattle.am_index_btree.proofs.node.Subtree.append.Given as goal

abbrev pub invariant-put : goal.invariant-put
invariant-put g l = record {
  most : l.added ≤ length (g.S.RecordSource.records l.records);
  so_far : l.self.entries ≡ l.fn.self.entries ++ run_entries l.part (take l.added (g.S.RecordSource.records l.records));
  rooms : KeepsRoom l.fn.self l.self;
}

abbrev pub decreases-put : goal.decreases-put
decreases-put g l = length (g.S.RecordSource.records l.records) - l.added

abbrev pub invariant-take : goal.invariant-take
invariant-take g l = record {
  most : l.added ≤ length (g.S.RecordSource.records l.records);
  so_far : l.self.entries ≡ l.fn.self.entries ++ run_entries l.part (take l.added (g.S.RecordSource.records l.records));
  rooms : KeepsRoom l.fn.self l.self;
}

abbrev pub decreases-take : goal.decreases-take
decreases-take g l = l.added
