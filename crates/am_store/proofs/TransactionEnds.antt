-- What a transaction's begin and its end do to what is kept.
use Rattle.std.proofs.Common.{◌≡◌, ◌+◌, ◌++◌, ◌∷◌, [], ℕ, List, Some, None, Bool, true, false, refl, sym, ap, ◌∙◌}
use Rattle.std.proofs.Common.{subst, cond}
use Rattle.std.proofs.lemmas.Bool.{cond-true}
use Rattle.am_record.specs.Interval.{Interval}
use Rattle.am_record.specs.EntryOrder.{Place}
use Rattle.am_index.specs.Entries.{find}
use Rattle.am_index_parts.specs.Partitions.{Partitions}
use Rattle.am_store_undo.specs.declared.note.Note.{Note}
use Rattle.am_store_undo.specs.Notes.{CanTakeBack, NotesFit}
use Rattle.am_record.specs.Marks.{since_mark}
use Rattle.am_store_locks.specs.Table.{locks_owned}
use Rattle.am_store_tx.specs.Active.{is_active_in, undo_log_of}
use Rattle.am_store_tx.specs.Txs.{Txs, IsConsistent, txs_after_begin, txs_after_end, can_begin}
use Rattle.am_store_tx.proofs.Consistent.{next-is-new}
use Rattle.am_record.proofs.ByNumber.{has_number-with_changed}
use Rattle.am_store_tx.specs.declared.transaction.Transaction.{Transaction}
use Rattle.am_law_effect.specs.Laws.{taken_back}
use Rattle.am_law_sound.specs.StoreState.{is_in, in_table, newcomer, IsFit, state_after}
use Rattle.am_record.specs.declared.step.Step.TheVariants.{Begin, Commit, Abort}
use Rattle.am_record.specs.declared.step.Reply.TheVariants.{Begun, Committed, Aborted}
use Rattle.am_store.specs.OperationSteps.{HasNewLog}
use Rattle.am_store.specs.StoreContent.{state_kept, actives}
use Rattle.am_store.proofs.Actives.{is_in-actives, notes-actives, marks-actives, actives-txs_after_begin}
use Rattle.am_store.proofs.Actives.{actives-txs_after_end, txs_after_end-with_log}

pub is_in-inner : (t : Txs) (tx : ℕ) (b : Bool) → is_active_in t.active tx ≡ b → is_in (actives t) tx ≡ b
is_in-inner t tx b a = is_in-actives (locks_owned t.locks) t.active tx ∙ a

-- ---- begin

number_is : (b : Bool) (n tx : ℕ) → Some tx ≡ cond b (Some n) None → (b ≡ true) × (tx ≡ n)
number_is true n tx e = (refl, cc)
number_is false n tx e = cc

pub begun : (most_runs : ℕ) (parts : Partitions) (t : Txs) (wishes : List Interval) (commits : ℕ) (t' : Txs) (tx : ℕ) →
    IsConsistent t
    → Some tx ≡ cond (can_begin t) (Some (t.begun + 1)) None → t' ≡ cond (can_begin t) (txs_after_begin t) t
    → state_kept most_runs parts t' wishes commits ≡ state_after (state_kept most_runs parts t wishes commits) Begin
    (Begun tx)
begun most_runs parts t wishes commits t' tx ok number e =
    let is = number_is (can_begin t) (t.begun + 1) tx number in
    let now : t' ≡ txs_after_begin t = e ∙ cond-true (can_begin t) (txs_after_begin t) t is.0 in
    let all = actives-txs_after_begin t (next-is-new t ok) ∙ ap (λ n. actives t ++ newcomer n ∷ []) (sym is.1) in
    (λ i. state_kept most_runs parts (now i) wishes commits)
    ∙ (λ i. record {
      most_runs = most_runs;
      entries = parts.entries;
      wishes = wishes;
      begun = t.begun + 1;
      commits = commits;
      runs = parts.runs;
      active = all i;
    })

-- ---- commit

pub committed : (most_runs : ℕ) (parts : Partitions) (t : Txs) (wishes : List Interval) (commits : ℕ) (t' : Txs)
    (tx c : ℕ) →
    t' ≡ txs_after_end t tx
    → state_kept most_runs parts t' wishes (commits + 1) ≡ state_after (state_kept most_runs parts t wishes commits)
    (Commit tx)
    (Committed c)
committed most_runs parts t wishes commits t' tx c e =
    (λ i. state_kept most_runs parts (e i) wishes (commits + 1))
    ∙ (λ i. record {
      most_runs = most_runs;
      entries = parts.entries;
      wishes = wishes;
      begun = t.begun;
      commits = commits + 1;
      runs = parts.runs;
      active = actives-txs_after_end t tx i;
    })

-- ---- abort

pub can_abort : (most_runs : ℕ) (parts : Partitions) (t : Txs) (wishes : List Interval) (commits tx : ℕ) →
    IsFit (state_kept most_runs parts t wishes commits) → is_active_in t.active tx ≡ true
    → CanTakeBack (undo_log_of t.active tx).notes (find parts.entries)
can_abort most_runs parts t wishes commits tx fit a =
    subst (λ (ns : List Note). CanTakeBack ns (find parts.entries)) (notes-actives (locks_owned t.locks) t.active tx)
    (fit.can_abort tx (is_in-inner t tx true a))

pub can_back : (most_runs : ℕ) (parts : Partitions) (t : Txs) (wishes : List Interval) (commits tx : ℕ) →
    IsFit (state_kept most_runs parts t wishes commits) → is_active_in t.active tx ≡ true
    → CanTakeBack (since_mark (undo_log_of t.active tx).marks (undo_log_of t.active tx).notes) (find parts.entries)
can_back most_runs parts t wishes commits tx fit a =
    subst (λ (ms : List ℕ). CanTakeBack (since_mark ms (undo_log_of t.active tx).notes) (find parts.entries))
    (marks-actives (locks_owned t.locks) t.active tx)
    (subst (λ (ns : List Note). CanTakeBack (since_mark (in_table (actives t) tx).marks ns) (find parts.entries))
    (notes-actives (locks_owned t.locks) t.active tx)
    (fit.can_back tx (is_in-inner t tx true a)))

-- what it noted has room
pub fits_abort : (roomy : List Place) (t : Txs) (tx : ℕ) → ((u : ℕ) → NotesFit roomy (in_table (actives t) u).notes) →
    NotesFit roomy (undo_log_of t.active tx).notes
fits_abort roomy t tx fits = subst (NotesFit roomy) (notes-actives (locks_owned t.locks) t.active tx) (fits tx)

pub still_active : (t t' : Txs) (tx : ℕ) → HasNewLog t tx t' → is_active_in t.active tx ≡ true →
    is_active_in t'.active tx ≡ true
still_active t t' tx new a = (λ i. is_active_in (new.written i).active tx) ∙
    has_number-with_changed (λ (x : Transaction). x.number) (λ x. record x { log = new.log }) tx (λ x. refl) t.active
    tx ∙ a

pub aborted : (most_runs : ℕ) (parts : Partitions) (t : Txs) (wishes : List Interval) (commits : ℕ)
    (parts' : Partitions) (t' t'' : Txs)
    (tx : ℕ)
    → HasNewLog t tx t' → t'' ≡ txs_after_end t' tx → parts'.entries ≡ taken_back (undo_log_of t.active tx).notes
    parts.entries → parts'.runs ≡ parts.runs
    → state_kept most_runs parts' t'' wishes commits ≡ state_after (state_kept most_runs parts t wishes commits)
    (Abort tx) Aborted
aborted most_runs parts t wishes commits parts' t' t'' tx new e entries runs =
    let gone : t'' ≡ txs_after_end t tx = e ∙ (λ i. txs_after_end (new.written i) tx) ∙
    txs_after_end-with_log t tx new.log in
    let back = entries ∙ ap (λ (ns : List Note). taken_back ns parts.entries)
    (sym (notes-actives (locks_owned t.locks) t.active tx)) in
    (λ i. record {
      most_runs = most_runs;
      entries = back i;
      wishes = wishes;
      begun = (gone i).begun;
      commits = commits;
      runs = runs i;
      active = actives (gone i);
    })
    ∙ (λ i. record {
      most_runs = most_runs;
      entries = taken_back (in_table (actives t) tx).notes parts.entries;
      wishes = wishes;
      begun = t.begun;
      commits = commits;
      runs = parts.runs;
      active = actives-txs_after_end t tx i;
    })
