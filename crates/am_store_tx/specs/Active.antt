-- The active transactions, in the order in which they began.
use Rattle.std.specs.Prelude.{ℕ, List, [], Bool, map}
use Rattle.am_record.specs.ByNumber.{has_number, of_number}
use Rattle.am_store_undo.specs.Log.{Log}
use Rattle.am_store_tx.specs.declared.transaction.Transaction.{Transaction}

-- a log without notes
abbrev pub no_notes : Log
no_notes = record { notes = []; marks = []; room = 4 }

-- a transaction that has just begun
abbrev pub new_transaction : ℕ → Transaction
new_transaction tx = record { number = tx; ops = 0; log = no_notes }

abbrev pub tx_numbers : List Transaction → List ℕ
tx_numbers active = map (λ (t : Transaction). t.number) active

-- whether the transaction is active
abbrev pub is_active_in : List Transaction → ℕ → Bool
is_active_in active tx = has_number (λ (t : Transaction). t.number) active tx

-- how many operations the transaction has had, 0 where it is not active
abbrev pub ops_in : List Transaction → ℕ → ℕ
ops_in active tx = of_number (λ (t : Transaction). t.number) (λ t. t.ops) 0 active tx

-- the log of the transaction, without notes where it is not active
abbrev pub undo_log_of : List Transaction → ℕ → Log
undo_log_of active tx = of_number (λ (t : Transaction). t.number) (λ t. t.log) no_notes active tx
