-- When notes say what an abort by looking back leaves, and what maintenance keeps.
use Rattle.std.specs.Prelude.{◌≡◌, ◌≢◌, ℕ, suc, ◌≤◌, length, List, [], ◌∷◌, ◌++◌, Bool, true, false, Some}
use Rattle.std.specs.Prelude.{None}
use Rattle.std.specs.List.{AllByRecursion}
use Rattle.am_record.specs.OrderedKey.{OrderedKey}
use Rattle.am_record.specs.EntryOrder.{Place}
use Rattle.am_record.specs.declared.entry.Entry.{Entry}
use Rattle.am_record.specs.declared.step.Op.TheVariants.{Back}
use Rattle.am_record.specs.declared.step.Reply.TheVariants.{Done}
use Rattle.am_index.specs.Entries.{Slot, find, IsRising}
use Rattle.am_index.specs.Content.{content, OnePlace}
use Rattle.am_store_undo.specs.declared.note.Note.{Note}
use Rattle.am_store_undo.specs.declared.note.Note.TheVariants.{New, Before, RunMade}
use Rattle.am_store_undo.specs.Notes.{back_one, back_all}
use Rattle.am_store_undo.specs.Undo.{is_noted_run}
use Rattle.am_record.specs.Marks.{since, since_mark, until_mark, older}
use Rattle.am_law_serial.specs.Trace.{Effect, Answers}
use Rattle.am_law_effect.specs.Places.{look, reslotted}
use Rattle.am_law_effect.specs.MergeAnswers.{Holders}
use Rattle.am_law_effect.specs.History.{Moment, wrote_by, wrote, left_at, moments_since, gone_back}

-- the note is of a key that passes the test, or of a run
abbrev pub IsOfKey : (OrderedKey → Bool) → Note → Type 0
IsOfKey test (New k) = test k ≡ true
IsOfKey test (Before p k value is_ghost) = test k ≡ true
IsOfKey test (RunMade p) = Unit {0}

-- taken back, the notes of the transaction leave at each place what looking back does
pub record Describes (t : ℕ) (past : List Moment) (es : List Entry) (notes : List Note) : Type 0 where
  pub same : (a : Place) → back_all notes a.0 a.1 (look es a) ≡ left_at t a past es
  -- a noted place still stands
  pub stands : (a : Place) → look es a ≡ None → back_all notes a.0 a.1 None ≡ None
  -- each note is of a key that it wrote
  pub owns : AllByRecursion (IsOfKey (λ q. wrote t q past)) notes
  -- its runs have only keys that it wrote
  pub own_runs : (q : OrderedKey) → wrote t q past ≡ false → (p : ℕ) → is_noted_run notes p ≡ true →
      look es (p, q) ≡ None

-- the list after the notes are taken back one by one, the newest first
abbrev pub taken_back : List Note → List Entry → List Entry
taken_back [] es = es
taken_back (n ∷ notes) es = taken_back notes (reslotted (back_one n) es)

-- the lists differ at the place alone
abbrev pub DifferAt : Place → List Entry → List Entry → Type 0
DifferAt a es es' = (b : Place) → b ≢ a → look es' b ≡ look es b

-- an event changes several places at once, and these notes are of all of them
pub record Sweeps (t : ℕ) (d : Effect) (es es' : List Entry) (new : List Note) : Type 0 where
  -- taken back, they leave at each place what stood there
  pub taken_back : (a : Place) → back_all new a.0 a.1 (look es' a) ≡ look es a
  -- what stood still stands
  pub stands : (a : Place) → look es' a ≡ None → look es a ≡ None
  -- a key that the transaction didn't write by the event stands as it stood
  pub others : (q : OrderedKey) → wrote_by t q d ≡ false → (p : ℕ) → look es' (p, q) ≡ look es (p, q)
  -- each note is of a key that it wrote so, and none of a run
  pub owns : AllByRecursion (IsOfKey (λ q. wrote_by t q d)) new
  pub no_run : (p : ℕ) → is_noted_run new p ≡ false

-- what the transaction's own writes and the steps of others do to them
pub record DescribeLaws (t : ℕ) (past : List Moment) (es : List Entry) (notes : List Note) : Type 0 where
  pub changed : (d : Effect) (es' : List Entry) (p : ℕ) (k : OrderedKey) (s s' : Slot) → wrote_by t k d ≡ true →
      look es (p, k) ≡ Some s → look es' (p, k) ≡ Some s' → DifferAt (p, k) es es' →
      Describes t ((d, es) ∷ past) es' (Before p k s.0 s.1 ∷ notes)
  pub made : (d : Effect) (es' : List Entry) (k : OrderedKey) (s : Slot) → wrote_by t k d ≡ true →
      look es (0, k) ≡ None → look es' (0, k) ≡ Some s → DifferAt (0, k) es es' →
      Describes t ((d, es) ∷ past) es' (New k ∷ notes)
  pub loaded : (d : Effect) (es' : List Entry) (run : ℕ) → ((q : OrderedKey) → look es (run, q) ≡ None) →
      ((q : OrderedKey) → wrote_by t q d ≡ false → look es' (run, q) ≡ None) →
      ((p : ℕ) (q : OrderedKey) → p ≢ run → look es' (p, q) ≡ look es (p, q)) →
      Describes t ((d, es) ∷ past) es' (RunMade run ∷ notes)
  pub swept : (d : Effect) (es' : List Entry) (new : List Note) → Sweeps t d es es' new →
      Describes t ((d, es) ∷ past) es' (new ++ notes)
  -- the event changes more places, all of which stood before it
  pub then_swept : (d : Effect) (es' es'' : List Entry) (notes' new : List Note) → Describes t ((d, es) ∷ past) es'
      notes' → Sweeps t d es' es'' new → ((a : Place) → look es a ≡ None → look es'' a ≡ look es' a) →
      Describes t ((d, es) ∷ past) es'' (new ++ notes')
  -- a step of others, of maintenance, or one that writes nothing
  pub others : (d : Effect) (es' : List Entry) → ((q : OrderedKey) → wrote_by t q d ≡ false) →
      ((q : OrderedKey) → wrote t q past ≡ true → (p : ℕ) → look es' (p, q) ≡ look es (p, q)) →
      ((q : OrderedKey) (p : ℕ) → is_noted_run notes p ≡ true → look es (p, q) ≡ None → look es' (p, q) ≡ None) →
      Describes t ((d, es) ∷ past) es' notes
  -- looking back leaves the list that the notes leave, taken back one by one
  pub aborted : IsRising es → reslotted (λ part key s. left_at t (part, key) past es) es ≡ taken_back notes es

-- the notes since each mark say what looking back to it leaves, and all notes what looking back to the begin leaves; n
-- newer marks are passed over, and none of these is above `top`
abbrev pub DescribesEach : ℕ → List Moment → List Entry → List Note → ℕ → ℕ → List ℕ → Type 0
DescribesEach t past es notes n top [] = Describes t past es notes
DescribesEach t past es notes n top (mark ∷ marks) = (mark ≤ top) ×
    (Describes t (moments_since t past n) es (since mark notes) × DescribesEach t past es notes (suc n) mark marks)

-- going back to the newest mark
pub record BackLaws (t : ℕ) (past : List Moment) (es : List Entry) (notes : List Note) (marks : List ℕ) : Type 0 where
  -- looking back leaves the list that the notes since the mark leave, taken back one by one
  pub backed : IsRising es → gone_back t past es ≡ taken_back (since_mark marks notes) es
  -- and the notes before it still say what looking back to the older marks and to the begin leaves
  pub goes_on : let notes' = until_mark marks notes in
      DescribesEach t ((Answers t Back Done, es) ∷ past) (gone_back t past es) notes' 0 (length notes') (older marks)

-- what maintenance does to the list: each key stays live where it was live, or in one place, the content is the same,
-- and so are all places of the keys that are exclusively locked; no run gets an entry
pub record Maintains (held : Holders) (es es' : List Entry) : Type 0 where
  pub rising : IsRising es'
  pub one : OnePlace es → OnePlace es'
  pub same : OnePlace es → content es' ≡ content es
  pub locked : (q : OrderedKey) (h : ℕ) → held q ≡ Some h → (p : ℕ) → find es' p q ≡ find es p q
  pub runs : (p : ℕ) (q : OrderedKey) → p ≢ 0 → find es p q ≡ None → find es' p q ≡ None
