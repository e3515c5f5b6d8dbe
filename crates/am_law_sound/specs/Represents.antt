-- When a list of entries with notes and marks is where the machine's state is, and the laws by which it goes on with
-- the machine.
use Rattle.std.specs.Prelude.{◌≡◌, ◌≢◌, ℕ, ◌==◌, length, List, [], ◌∷◌, ◌++◌, Bool, true, false, cond, Option, Some}
use Rattle.std.specs.Prelude.{None, if◌then◌else◌}
use Rattle.am_record.specs.OrderedKey.{OrderedKey}
use Rattle.am_record.specs.Plain.{PlainMap, map_answer, map_after, answer}
use Rattle.am_record.specs.Asks.{lock_of, owns_key}
use Rattle.am_record.specs.declared.lock.Lock.{Lock}
use Rattle.am_record.specs.declared.entry.Entry.{Entry}
use Rattle.am_record.specs.declared.step.Op.{Op}
use Rattle.am_record.specs.declared.step.Op.TheVariants.{Mark, Back}
use Rattle.am_record.specs.declared.step.Reply.{Reply}
use Rattle.am_record.specs.declared.step.Reply.TheVariants.{Done, NoMark}
use Rattle.am_index.specs.Entries.{find}
use Rattle.am_index.specs.Content.{content, HasContent}
use Rattle.am_store_undo.specs.declared.note.Note.{Note}
use Rattle.am_store_undo.specs.Notes.{TakesBack}
use Rattle.am_store_undo.specs.Undo.{is_noted_run, Undoes}
use Rattle.am_record.specs.Marks.{since_mark, until_mark, older, has_mark}
use Rattle.am_store_undo.specs.Marks.{UndoesEach}
use Rattle.am_law_serial.specs.Trace.{runs_made, Begins, Answers, Commits, Aborts}
use Rattle.am_law_serial.specs.Machine.{State, is_open, view, due, next, overlay_in, owns_in}
use Rattle.am_law_effect.specs.Operations.{is_plain}

-- the entries rise, no key is live in two partitions, the content is the overlay, and each active transaction's notes
-- undo what it did since each of its marks, and all that it did
pub record Represents (s : State) (es : List Entry) (notes : ℕ → List Note) (marks : ℕ → List ℕ) : Type 0 where
  pub has : HasContent es (overlay_in s)
  pub undoes : (t : ℕ) → is_open s.active t ≡ true → UndoesEach es (notes t) (owns_in s t) s.committed
      (length (notes t)) (marks t) (view s t).saved

-- what an operation is answered by the content, and Back by the marks that stand
abbrev pub stored_answer : Op → List ℕ → PlainMap → Reply
stored_answer Back marks m = if has_mark marks then Done else NoMark
stored_answer op marks m = map_answer op m

-- whether the lock that is asked for owns the key
abbrev pub asks_own : Option Lock → OrderedKey → Bool
asks_own None q = false
asks_own (Some asked) q = owns_key q asked

-- whether the operation may write the key
abbrev pub may_write : Op → OrderedKey → Bool
may_write op q = asks_own (lock_of op) q

-- nothing is added to a run that a note names
abbrev pub KeepsRuns : List Entry → List Entry → List Note → Type 0
KeepsRuns es es' notes = (p : ℕ) (q : OrderedKey) → is_noted_run notes p ≡ true → find es p q ≡ None →
    find es' p q ≡ None

-- the list after an operation is granted, Mark and Back aside, with what it notes
pub record Does (es : List Entry) (notes : ℕ → List Note) (t : ℕ) (op : Op) (es' : List Entry)
    (new : List Note) : Type 0 where
  pub has : HasContent es' (map_after op (content es))
  pub only : (p : ℕ) (q : OrderedKey) → may_write op q ≡ false → find es' p q ≡ find es p q
  pub keeps : (u : ℕ) → u ≢ t → KeepsRuns es es' (notes u)
  -- with the new notes, what undoes where its lock is held undoes it too
  pub own : (part : List Note) (owned : OrderedKey → Bool) (before : OrderedKey → Option (List ℕ)) →
      ((q : OrderedKey) → may_write op q ≡ true → owned q ≡ true) →
      Undoes es part owned before → Undoes es' (new ++ part) owned before

pub record RepresentsNext (s : State) (es : List Entry) (notes : ℕ → List Note) (marks : ℕ → List ℕ) : Type 0 where
  -- the answer is that of the content, and, for Back, whether a mark stands
  pub answered : (t : ℕ) (op : Op) → due false s t op ≡ None →
      answer op (view s t) ≡ stored_answer op (marks t) (content es)
  -- and so are the runs that it makes
  pub made : (t : ℕ) (op : Op) → due false s t op ≡ None → (reply : Reply) →
      runs_made (view s t).map op reply ≡ runs_made (content es) op reply
  pub done : (t : ℕ) (op : Op) (es' : List Entry) (new : List Note) → due false s t op ≡ None → is_plain op ≡ true →
      Does es notes t op es' new →
      Represents (next s (Answers t op (answer op (view s t)))) es'
      (λ u. cond (t == u) (new ++ notes u) (notes u)) marks
  pub marked : (t : ℕ) → due false s t Mark ≡ None → Represents (next s (Answers t Mark Done)) es notes
      (λ u. cond (t == u) (length (notes u) ∷ marks u) (marks u))
  -- the notes since the newest mark are taken back, and the mark is gone
  pub backed : (t : ℕ) (es' : List Entry) → due false s t Back ≡ None → has_mark (marks t) ≡ true →
      TakesBack (since_mark (marks t) (notes t)) es es' →
      Represents (next s (Answers t Back Done)) es' (λ u. cond (t == u) (until_mark (marks u) (notes u)) (notes u))
      (λ u. cond (t == u) (older (marks u)) (marks u))
  pub stayed : (t : ℕ) → due false s t Back ≡ None → has_mark (marks t) ≡ false →
      Represents (next s (Answers t Back NoMark)) es notes marks
  pub begun : (t : ℕ) → is_open s.active t ≡ false → Represents (next s (Begins t)) es
      (λ u. cond (t == u) [] (notes u)) (λ u. cond (t == u) [] (marks u))
  pub committed : (t : ℕ) → is_open s.active t ≡ true → Represents (next s (Commits t)) es notes marks
  pub aborted : (t : ℕ) (es' : List Entry) → is_open s.active t ≡ true → TakesBack (notes t) es es' →
      Represents (next s (Aborts t)) es' notes marks
  -- a merge or a clean step
  pub maintained : (es' : List Entry) → HasContent es' (content es) →
      ((t : ℕ) (q : OrderedKey) → is_open s.active t ≡ true → owns_in s t q ≡ true → (p : ℕ) →
      find es' p q ≡ find es p q) →
      ((t : ℕ) → is_open s.active t ≡ true → KeepsRuns es es' (notes t)) → Represents s es' notes marks
