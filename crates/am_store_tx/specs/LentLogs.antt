-- What the table ends as, where a transaction's log is lent.
use Rattle.std.specs.Prelude.{ℕ}
use Rattle.std.specs.Borrow.{Lends, MutBor, Fml}
use Rattle.am_store_undo.specs.Log.{Log}
use Rattle.am_store_undo.specs.contracts.undo_log.UndoLog as undo_log
use Rattle.am_store_tx.specs.contracts.tx_table.TxTable.{the_row}
use Rattle.am_store_tx.specs.Txs.{Txs, with_log}

-- the table ends with the last log after r as that of the transaction, and else as it was
abbrev pub LendsLog : MutBor Txs → ℕ → MutBor Log → Fml
LendsLog txs tx r = Lends the_row undo_log.the_row txs r (with_log txs.now tx)
