use Rattle.std.proofs.Common.{◌≡◌, drop, Some}
use Rattle.am_replica_store.specs.Alone.{committed_map}
use Rattle.am_replica_store.proofs.Alone.{Ran}
use Rattle.am_replica_store.proofs.store.ReplicaStoreMachine.run.Given as goal

-- what was answered so far is as it is on the committed records, and so will be what is left
abbrev pub invariant-loop-op : goal.invariant-loop-op
invariant-loop-op l = record {
  active : l.self-inside.active ≡ Some l.tx;
  ran : Ran l.self-inside.store l.tx (committed_map l.fn.self) l.told.items (drop l.op-index l.ops) l.ops;
}
