-- What a merge step and a clean step may answer, and the list of entries after.
use Rattle.std.specs.Prelude.{◌≡◌, ◌⊎◌, ℕ, ◌≤◌, nat_le, ◌==◌, min, length, List, [], ◌∷◌, true, false, ◌&&◌, take, drop}
use Rattle.std.specs.Prelude.{filter, take_while, Option, Some, None, is_none, if◌then◌else◌}
use Rattle.am_record.specs.OrderedKey.{OrderedKey}
use Rattle.am_record.specs.Interval.{Interval, within}
use Rattle.am_record.specs.declared.entry.Entry.{Entry}
use Rattle.am_record.specs.declared.step.Refusal.TheVariants.{NoMemory}
use Rattle.am_record.specs.declared.step.Reply.{Reply}
use Rattle.am_record.specs.declared.step.Reply.TheVariants.{Moved, MergeDone, Ended, Idle, Cleaned, Refused}
use Rattle.am_index.specs.Entries.{find, remove_entry}
use Rattle.am_index.specs.Rooms.{needs_room}
use Rattle.am_law_effect.specs.Places.{put}

-- who holds an exclusive lock on the key, if anybody does
abbrev pub Holders : Type 0
Holders = OrderedKey → Option ℕ

-- the entries in runs with keys in the range, by partition and key
abbrev pub candidates : List Entry → Interval → List Entry
candidates es range = filter (λ (e : Entry). nat_le 1 e.part && within range e.key) es

-- an entry of a run is worked off: it leaves its run, and a live one stands in partition 0, in place of any ghost there
abbrev pub worked_off : Entry → List Entry → List Entry
worked_off e es = if e.is_ghost then remove_entry es e.part e.key else put (record e { part = 0 })
    (remove_entry es e.part e.key)

abbrev pub all_worked_off : List Entry → List Entry → List Entry
all_worked_off [] es = es
all_worked_off (e ∷ more) es = all_worked_off more (worked_off e es)

-- how many of the first candidates are in that run and not exclusively locked, up to the limit
abbrev pub most : Holders → ℕ → ℕ → List Entry → ℕ
most held limit run cs = length (take_while (λ (e : Entry). (e.part == run) && is_none (held e.key)) (take limit cs))

-- a move of the entry needs room in partition 0: a new place, or more than a ghost's value there has
abbrev pub NeedsRoom : List Entry → Entry → Type 0
NeedsRoom es e = (e.is_ghost ≡ false) × (needs_room (find es 0 e.key) e.value ≡ true)

-- so does the move of the first of them
abbrev pub FirstMoveNeedsRoom : List Entry → List Entry → Type 0
FirstMoveNeedsRoom es [] = ⊥
FirstMoveNeedsRoom es (e ∷ more) = NeedsRoom es e

-- a merge step works off the first n candidates: as many as it may, or fewer where the next needs room
pub record MovesRight (es : List Entry) (held : Holders) (limit run : ℕ) (cs : List Entry) (n : ℕ) : Type 0 where
  pub some : 1 ≤ n
  pub at_most : n ≤ most held limit run cs
  pub greatest : (n ≡ most held limit run cs) ⊎ FirstMoveNeedsRoom es (drop n cs)

-- the answer where c is the first of the candidates, by who holds its key
abbrev pub AnswersFirst : List Entry → Holders → ℕ → Entry → List Entry → Option ℕ → Reply → Type 0
AnswersFirst es held limit c cs (Some h) reply = reply ≡ Ended c.key h
AnswersFirst es held limit c cs None (Moved n run) = (run ≡ c.part) × MovesRight es held limit run cs n
AnswersFirst es held limit c cs None reply = (reply ≡ Refused NoMemory) × NeedsRoom es c

abbrev pub AnswersCandidates : List Entry → Holders → ℕ → List Entry → Reply → Type 0
AnswersCandidates es held limit [] reply = reply ≡ MergeDone
AnswersCandidates es held limit (c ∷ cs) reply = AnswersFirst es held limit c (c ∷ cs) (held c.key) reply

-- what a merge step may answer: it looks at the oldest wish alone
abbrev pub MergeRight : List Entry → List Interval → Holders → ℕ → Reply → Type 0
MergeRight es [] held limit reply = reply ≡ Idle
MergeRight es (wish ∷ wishes) held limit reply = AnswersCandidates es held limit (candidates es wish) reply

-- the entries that a merge step with this answer works off
abbrev pub merged_by : List Entry → List Interval → Reply → List Entry
merged_by es (wish ∷ wishes) (Moved n run) = take n (candidates es wish)
merged_by es wishes reply = []

-- the wishes after it
abbrev pub wishes_left : List Interval → Reply → List Interval
wishes_left wishes MergeDone = drop 1 wishes
wishes_left wishes (Ended k h) = drop 1 wishes
wishes_left wishes reply = wishes

-- the ghosts in the range that nobody has exclusively locked, by partition and key
abbrev pub cleanable : List Entry → Holders → Interval → List Entry
cleanable es held range = filter (λ (e : Entry). e.is_ghost && (within range e.key && is_none (held e.key))) es

-- what a clean step answers
abbrev pub CleanRight : List Entry → Holders → Interval → ℕ → Reply → Type 0
CleanRight es held range limit reply = reply ≡ Cleaned (min limit (length (cleanable es held range)))

-- the entries that a clean step with this answer takes away
abbrev pub cleaned_by : List Entry → Holders → Interval → Reply → List Entry
cleaned_by es held range (Cleaned n) = take n (cleanable es held range)
cleaned_by es held range reply = []
