-- What a store keeps, and what a step may do to it, without the trace.
use Rattle.std.specs.Prelude.{◌≡◌, ◌⊎◌, ℕ, ◌+◌, ◌<◌, ◌≤◌, nat_le, length, List, [], ◌∷◌, ◌++◌, Bool, true}
use Rattle.std.specs.Prelude.{false, ◌||◌, Option, None, MatchOption}
use Rattle.am_record.specs.Limits.{max_active, max_begun, max_runs}
use Rattle.am_record.specs.OrderedKey.{OrderedKey}
use Rattle.am_record.specs.Interval.{Interval}
use Rattle.am_record.specs.Asks.{lock_of, with_asked}
use Rattle.am_record.specs.ByNumber.{has_number, of_number, with_changed, without_number}
use Rattle.am_record.specs.Owners.{blocker_among, holder_among}
use Rattle.am_record.specs.declared.lock.Lock.{Lock}
use Rattle.am_record.specs.declared.entry.Entry.{Entry}
use Rattle.am_record.specs.declared.step.Refusal.{Refusal}
use Rattle.am_record.specs.declared.step.Refusal.TheVariants.{NoSuchTx, TooManyTx, NoMemory}
use Rattle.am_record.specs.declared.step.Op.{Op}
use Rattle.am_record.specs.declared.step.Op.TheVariants.{Back}
use Rattle.am_record.specs.declared.step.Step.{Step}
use Rattle.am_record.specs.declared.step.Step.TheVariants.{Begin, Do, Commit, Abort, Merge, Clean}
use Rattle.am_record.specs.declared.step.Reply.{Reply}
use Rattle.am_record.specs.declared.step.Reply.TheVariants.{Begun, Committed, Aborted, Refused}
use Rattle.am_index.specs.Entries.{find, IsRising}
use Rattle.am_index.specs.Content.{content, OnePlace}
use Rattle.am_index_parts.specs.Catalogs.{runs_in}
use Rattle.am_store_undo.specs.declared.note.Note.{Note}
use Rattle.am_store_undo.specs.Notes.{CanTakeBack}
use Rattle.am_record.specs.Marks.{since_mark}
use Rattle.am_law_serial.specs.Trace.{runs_made}
use Rattle.am_record.specs.Refusals.{refusal_before_lock, is_one_too_many, lock_refusal, or_else}
use Rattle.am_law_effect.specs.MergeAnswers.{Holders, all_worked_off, MergeRight, merged_by, CleanRight, cleaned_by}
use Rattle.am_law_effect.specs.Laws.{taken_back}
use Rattle.am_law_effect.specs.Store.{WithinLimit, wishes_after}
use Rattle.am_law_effect.specs.Operations.{changed, noted, notes_left, marks_left}
use Rattle.am_law_sound.specs.Represents.{stored_answer}

-- an active transaction; notes and marks stand with the newest first, and each mark is the number of notes at its Mark
pub record Active : Type 0 where
  pub number : ℕ
  pub ops : ℕ
  pub locks : List Lock
  pub notes : List Note
  pub marks : List ℕ

pub record StoreState : Type 0 where
  -- how many runs may be made in all
  pub most_runs : ℕ
  pub entries : List Entry
  pub wishes : List Interval
  pub begun : ℕ
  pub commits : ℕ
  pub runs : ℕ
  -- by rising number
  pub active : List Active

abbrev pub is_in : List Active → ℕ → Bool
is_in xs t = has_number (λ (x : Active). x.number) xs t

-- a transaction that has just begun
abbrev pub newcomer : ℕ → Active
newcomer t = record { number = t; ops = 0; locks = []; notes = []; marks = [] }

-- the transaction of that number
abbrev pub in_table : List Active → ℕ → Active
in_table xs t = of_number (λ (x : Active). x.number) (λ x. x) (newcomer 0) xs t

-- who has exclusively locked the key
abbrev pub holder_in : List Active → Holders
holder_in xs = holder_among (λ (x : Active). x.number) (λ (x : Active). x.locks) xs

-- the least of the others that hold a conflicting lock: the active ones stand by rising number
abbrev pub blocker_in : List Active → ℕ → Option Lock → Option ℕ
blocker_in xs = blocker_among (λ (x : Active). x.number) (λ (x : Active). x.locks) xs

-- whether no further run may be made: as many were made as may be, or 65,535 have entries
abbrev pub has_all_runs : StoreState → Bool
has_all_runs p = nat_le p.most_runs p.runs || nat_le max_runs (runs_in p.entries)

-- the refusal that is due
abbrev pub refusal_in : StoreState → ℕ → Op → Option Refusal
refusal_in p t op =
    or_else
    (refusal_before_lock (is_in p.active t) (in_table p.active t).ops (has_all_runs p) op)
    (lock_refusal (blocker_in p.active t (lock_of op)) (is_one_too_many (in_table p.active t).locks (lock_of op)))

-- whether memory may be wanting: going back takes none
abbrev pub takes_memory : Op → Bool
takes_memory Back = false
takes_memory op = true

-- the reply that a step may have
abbrev pub MayAnswer : StoreState → Step → Reply → Type 0
MayAnswer p Begin (Begun t) = (t ≡ p.begun + 1) × (length p.active < max_active) × (p.begun < max_begun)
MayAnswer p Begin (Refused TooManyTx) = (max_active ≤ length p.active) ⊎ (max_begun ≤ p.begun)
MayAnswer p (Do t op) reply = MatchOption (refusal_in p t op)
    ((reply ≡ stored_answer op (in_table p.active t).marks (content p.entries)) ⊎
    ((reply ≡ Refused NoMemory) × (takes_memory op ≡ true))) (λ why. reply ≡ Refused why)
MayAnswer p (Commit t) (Committed c) = (is_in p.active t ≡ true) × (c ≡ p.commits + 1)
MayAnswer p (Commit t) (Refused NoSuchTx) = is_in p.active t ≡ false
MayAnswer p (Abort t) Aborted = is_in p.active t ≡ true
MayAnswer p (Abort t) (Refused NoSuchTx) = is_in p.active t ≡ false
MayAnswer p (Merge limit) reply = WithinLimit limit reply
    (MergeRight p.entries p.wishes (holder_in p.active) limit reply)
MayAnswer p (Clean range limit) reply = WithinLimit limit reply
    (CleanRight p.entries (holder_in p.active) range limit reply)
MayAnswer p _ _ = ⊥

abbrev pub without_tx : ℕ → List Active → List Active
without_tx t xs = without_number (λ (x : Active). x.number) t xs

-- the transaction after an operation that was answered: one more, its lock and its note. Back drops the notes since the
-- newest mark, and the mark
abbrev pub with_op : Op → Reply → List Note → Active → Active
with_op op reply new x = record x {
  ops = x.ops + 1;
  locks = with_asked x.locks (lock_of op);
  notes = new ++ notes_left op reply x.marks x.notes;
  marks = marks_left op reply (length x.notes) x.marks;
}

-- the entries when the notes since the transaction's newest mark are taken back
abbrev pub taken_back_to_mark : StoreState → ℕ → List Entry
taken_back_to_mark p t = taken_back (since_mark (in_table p.active t).marks (in_table p.active t).notes) p.entries

abbrev pub state_after_op : StoreState → ℕ → Op → Reply → StoreState
state_after_op p t op (Refused why) = p
state_after_op p t op reply = record p {
  entries = changed (taken_back_to_mark p t) p.runs op reply p.entries;
  wishes = wishes_after p.wishes (Do t op) reply;
  runs = p.runs + runs_made (content p.entries) op reply;
  active = with_changed (λ (x : Active). x.number) (with_op op reply (noted p.runs op reply p.entries)) t p.active;
}

-- what the step leaves
abbrev pub state_after : StoreState → Step → Reply → StoreState
state_after p Begin (Begun t) = record p { begun = p.begun + 1; active = p.active ++ newcomer t ∷ [] }
state_after p (Do t op) reply = state_after_op p t op reply
state_after p (Commit t) (Committed c) = record p { commits = p.commits + 1; active = without_tx t p.active }
state_after p (Abort t) Aborted = record p {
  entries = taken_back (in_table p.active t).notes p.entries;
  active = without_tx t p.active;
}
state_after p (Merge limit) reply = record p {
  entries = all_worked_off (merged_by p.entries p.wishes reply) p.entries;
  wishes = wishes_after p.wishes (Merge limit) reply;
}
state_after p (Clean range limit) reply = record p {
  entries = all_worked_off
      (cleaned_by p.entries (holder_in p.active) range reply) p.entries;
}
state_after p _ _ = p

-- an empty store that makes so many runs at most
abbrev pub empty_state : ℕ → StoreState
empty_state most_runs = record {
  most_runs = most_runs;
  entries = [];
  wishes = [];
  begun = 0;
  commits = 0;
  runs = 0;
  active = [];
}

-- what a step may rest on: the entries rise, no key is live in two partitions, nothing stands above the last run, and
-- the notes of each active transaction can be taken back, all of them and those since its newest mark
pub record IsFit (p : StoreState) : Type 0 where
  pub rising : IsRising p.entries
  pub one_place : OnePlace p.entries
  pub below : (part : ℕ) (key : OrderedKey) → p.runs < part → find p.entries part key ≡ None
  pub can_abort : (t : ℕ) → is_in p.active t ≡ true → CanTakeBack (in_table p.active t).notes (find p.entries)
  pub can_back : (t : ℕ) → is_in p.active t ≡ true → CanTakeBack
      (since_mark (in_table p.active t).marks (in_table p.active t).notes) (find p.entries)
  pub begun : (t : ℕ) → is_in p.active t ≡ true → t ≤ p.begun
