-- What one operation of a transaction does to the partitions and to its log in the table, once its lock is granted.
use Rattle.std.specs.Prelude.{◌≡◌, ℕ}
use Rattle.am_record.specs.declared.step.Op.{Op}
use Rattle.am_record.specs.declared.step.Reply.{Reply}
use Rattle.am_index_parts.specs.Partitions.{Partitions}
use Rattle.am_store_undo.specs.Log.{Log}
use Rattle.am_store_tx.specs.Active.{undo_log_of}
use Rattle.am_store_tx.specs.Txs.{Txs, with_log}
use Rattle.am_store_operations.specs.OperationSteps.{IsDone, LeavesAlone}

-- of the table of transactions, the log of this one was changed, and nothing else
pub record HasNewLog (txs : Txs) (tx : ℕ) (txs' : Txs) : Type 0 where
  pub log : Log
  pub written : txs' ≡ with_log txs tx log

-- the same of the table of transactions and its transaction's log
pub record Works (op : Op) (reply : Reply) (parts : Partitions) (txs : Txs) (tx : ℕ) (parts' : Partitions)
    (txs' : Txs) : Type 0 where
  pub log : Log
  pub written : txs' ≡ with_log txs tx log
  pub done : IsDone op reply parts (undo_log_of txs.active tx) parts' log

pub record LeavesAllAlone (parts : Partitions) (txs : Txs) (tx : ℕ) (parts' : Partitions) (txs' : Txs) : Type 0 where
  pub log : Log
  pub written : txs' ≡ with_log txs tx log
  pub untouched : LeavesAlone parts (undo_log_of txs.active tx) parts' log
