-- What a store keeps, as one value.
use Rattle.std.specs.Prelude.{ℕ, ◌+◌, ◌≤◌, length, List, map, refl}
use Rattle.std.specs.Coded.{Coded, code_by, coded×, coded_ℕ, coded_list}
use Rattle.am_record.specs.Interval.{Interval, interval_code}
use Rattle.am_record.specs.Limits.{last_run, max_begun}
use Rattle.am_record.specs.declared.lock.Lock.{Lock}
use Rattle.am_record.specs.contracts.lock.Lock as lock
use Rattle.am_record.specs.declared.entry.Entry.{Entry}
use Rattle.am_index.specs.EntryCode.{entries_code}
use Rattle.am_store_locks.specs.Table.{locks_owned}
use Rattle.am_index_parts.specs.Partitions.{Partitions}
use Rattle.am_store_undo.specs.declared.note.Note.{Note}
use Rattle.am_store_undo.specs.Log.{note_code}
use Rattle.am_store_tx.specs.declared.transaction.Transaction.{Transaction}
use Rattle.am_store_tx.specs.Txs.{Txs}
use Rattle.am_law_serial.specs.Trace.{Trace}
use Rattle.am_law_sound.specs.StoreState.{Active, StoreState}
use Rattle.am_law_sound.specs.StateOf.{IsStateOf}

-- an active transaction with the locks that it holds
abbrev pub active_with : (ℕ → List Lock) → Transaction → Active
active_with locks x = record {
  number = x.number;
  ops = x.ops;
  locks = locks x.number;
  notes = x.log.notes;
  marks = x.log.marks;
}

-- the active transactions, each with its locks
abbrev pub actives : Txs → List Active
actives txs = map (active_with (locks_owned txs.locks)) txs.active

-- what is kept, by its parts, of a store that makes so many runs at most
abbrev pub state_kept : ℕ → Partitions → Txs → List Interval → ℕ → StoreState
state_kept most_runs parts txs wishes commits = record {
  most_runs = most_runs;
  entries = parts.entries;
  wishes = wishes;
  begun = txs.begun;
  commits = commits;
  runs = parts.runs;
  active = actives txs;
}

-- it is stored as its fields
abbrev pub ActiveFields : Type 0
ActiveFields = (ℕ × ℕ) × (List Lock × (List Note × List ℕ))

abbrev pub active_code : Coded Active
active_code =
    code_by ActiveFields (coded× (coded× coded_ℕ coded_ℕ)
    (coded× (coded_list lock.the_row.coded) (coded× (coded_list note_code) (coded_list coded_ℕ))))
    (λ x. ((x.number, x.ops), (x.locks, (x.notes, x.marks))))
    (λ f. record { number = f.0.0; ops = f.0.1; locks = f.1.0; notes = f.1.1.0; marks = f.1.1.1 }) (λ _. refl)

abbrev pub StateFields : Type 0
StateFields = (List Entry × List Interval) × ((ℕ × ℕ) × ((ℕ × ℕ) × List Active))

abbrev pub state_code : Coded StoreState
state_code =
    code_by StateFields (coded× (coded× entries_code (coded_list interval_code))
    (coded× (coded× coded_ℕ coded_ℕ) (coded× (coded× coded_ℕ coded_ℕ) (coded_list active_code))))
    (λ p. ((p.entries, p.wishes), ((p.begun, p.commits), ((p.most_runs, p.runs), p.active))))
    (λ f. record {
      most_runs = f.1.1.0.0;
      entries = f.0.0;
      wishes = f.0.1;
      begun = f.1.0.0;
      commits = f.1.0.1;
      runs = f.1.1.0.1;
      active = f.1.1.1;
    }) (λ _. refl)

-- some steps and replies lead there, from an empty store; and there were no more commits than transactions begun that
-- aren't active any more; it doesn't make more runs than there are numbers for
pub record IsReached (p : StoreState) : Type 0 where
  pub trace : Trace
  pub at : IsStateOf trace p
  pub counted : p.commits + length p.active ≤ p.begun
  pub few_begun : p.begun ≤ max_begun
  pub few_runs : p.most_runs ≤ last_run
