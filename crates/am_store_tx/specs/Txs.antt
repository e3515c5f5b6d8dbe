-- The table of active transactions.
use Rattle.std.specs.Prelude.{ℕ, ◌≡◌, ◌+◌, ◌≤◌, nat_lt, List, [], ◌∷◌, ◌++◌, length, Bool, ◌&&◌, map}
use Rattle.std.specs.Prelude.{refl}
use Rattle.std.specs.List.{All}
use Rattle.std.specs.Coded.{Coded, code_by, coded×, coded_ℕ, coded_list}
use Rattle.am_record.specs.Limits.{max_active, max_begun, max_ops}
use Rattle.am_record.specs.ByNumber.{with_changed, without_number, RiseBy}
use Rattle.am_store_locks.specs.OwnerLocks.{OwnerLocks, held_code}
use Rattle.am_store_locks.specs.Table.{entered, without_owner}
use Rattle.am_store_undo.specs.Log.{Log}
use Rattle.am_store_tx.specs.declared.transaction.Transaction.{Transaction}
use Rattle.am_store_tx.specs.contracts.transaction.Transaction as transaction
use Rattle.am_store_tx.specs.Active.{new_transaction, tx_numbers}

-- how many transactions were begun, those that are active, and the locks of each of these
pub record Txs : Type 0 where
  pub begun : ℕ
  pub active : List Transaction
  pub locks : List OwnerLocks

-- it is stored as its fields
abbrev pub txs_code : Coded Txs
txs_code =
    code_by (ℕ × (List Transaction × List OwnerLocks)) (coded× coded_ℕ
    (coded× (coded_list transaction.the_row.coded) (coded_list held_code)))
    (λ t. (t.begun, (t.active, t.locks))) (λ p. record { begun = p.0; active = p.1.0; locks = p.1.1 }) (λ _. refl)

-- what is true of every table: the active transactions are the owners of locks, in the same order
pub record IsConsistent (t : Txs) : Type 0 where
  pub rise : RiseBy (λ (x : Transaction). x.number) t.active
  pub begun_before : All (λ n. n ≤ t.begun) (tx_numbers t.active)
  pub owners : map (λ (h : OwnerLocks). h.owner) t.locks ≡ tx_numbers t.active
  pub few : length t.active ≤ max_active
  pub begun : t.begun ≤ max_begun
  pub ops : All (λ (x : Transaction). x.ops ≤ max_ops) t.active

-- whether one more transaction may begin
abbrev pub can_begin : Txs → Bool
can_begin t = nat_lt (length t.active) max_active && nat_lt t.begun max_begun

-- one more transaction is active: the last one, with the next number
abbrev pub txs_after_begin : Txs → Txs
txs_after_begin t = record {
  begun = t.begun + 1;
  active = t.active ++ new_transaction (t.begun + 1) ∷ [];
  locks = entered t.locks (t.begun + 1);
}

-- the transaction had one more operation
abbrev pub txs_after_op : Txs → ℕ → Txs
txs_after_op t tx = record t {
  active = with_changed (λ (x : Transaction). x.number) (λ x. record x { ops = x.ops + 1 }) tx t.active;
}

-- the transaction has this log
abbrev pub with_log : Txs → ℕ → Log → Txs
with_log t tx log = record t {
  active = with_changed (λ (x : Transaction). x.number) (λ x. record x { log = log }) tx t.active;
}

-- the transaction is not active any more, and owns no locks
abbrev pub txs_after_end : Txs → ℕ → Txs
txs_after_end t tx = record t {
  active = without_number (λ (x : Transaction). x.number) tx t.active;
  locks = without_owner t.locks tx;
}
