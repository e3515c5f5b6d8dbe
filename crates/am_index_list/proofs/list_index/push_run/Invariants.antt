use Rattle.std.proofs.Common.{◌≡◌, ◌++◌, take}
use Rattle.am_index.specs.Runs.{run_entries}
use Rattle.am_index_list.proofs.list_index.push_run.Given as goal

abbrev pub invariant-loop-at : goal.invariant-loop-at
invariant-loop-at g l =
    l.items.items ≡ l.initial.items.items ++ run_entries l.part (take l.at (g.S.RecordSource.records l.records))
