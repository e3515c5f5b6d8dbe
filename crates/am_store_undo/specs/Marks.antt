-- Marks in the notes of a transaction, each the number of notes at it; notes and marks stand with the newest first.
use Rattle.std.specs.Prelude.{◌≡◌, ℕ, ◌≤◌, length, List, [], ◌∷◌, ◌++◌, Bool, true, false}
use Rattle.std.specs.List.{AllByRecursion}
use Rattle.std.specs.FinMap.{get}
use Rattle.am_record.specs.Marks.{since, since_mark, until_mark, older}
use Rattle.am_record.specs.OrderedKey.{OrderedKey}
use Rattle.am_record.specs.Plain.{PlainMap}
use Rattle.am_record.specs.declared.entry.Entry.{Entry}
use Rattle.am_index.specs.Content.{content, OnePlace}
use Rattle.am_index.specs.Entries.{find}
use Rattle.am_store_undo.specs.declared.note.Note.{Note}
use Rattle.am_store_undo.specs.Notes.{TakesBack, CanTakeBack}
use Rattle.am_store_undo.specs.Undo.{Undoes, LeavesNoted}

-- the notes since each mark undo what was done since its map was saved, and all of them what the transaction did. No
-- mark is above the newer ones, nor above `top`
abbrev pub UndoesEach : List Entry → List Note → (OrderedKey → Bool) → PlainMap → ℕ → List ℕ → List PlainMap → Type 0
UndoesEach es notes owned before top [] [] = Undoes es notes owned (λ key. get before key)
UndoesEach es notes owned before top (mark ∷ marks) (map ∷ maps) =
    (mark ≤ top) × (Undoes es (since mark notes) owned (λ key. get map key) ×
    UndoesEach es notes owned before mark marks maps)
UndoesEach es notes owned before top _ _ = ⊥

-- the maps correspond, one by one
abbrev pub AllPairs : (PlainMap → PlainMap → Type 0) → List PlainMap → List PlainMap → Type 0
AllPairs R [] [] = Unit {0}
AllPairs R (m ∷ ms) (n ∷ ns) = R m n × AllPairs R ms ns
AllPairs R _ _ = ⊥

-- the map has the content at the keys that are owned now and weren't
abbrev pub IsContentAt : List Entry → (OrderedKey → Bool) → (OrderedKey → Bool) → PlainMap → Type 0
IsContentAt es owned owned' m = (key : OrderedKey) → owned' key ≡ true → owned key ≡ false →
    get m key ≡ get (content es) key

-- the other map has the same at the owned keys
abbrev pub SameOwned : (OrderedKey → Bool) → PlainMap → PlainMap → Type 0
SameOwned owned m m' = (key : OrderedKey) → owned key ≡ true → get m' key ≡ get m key

-- what a transaction's own steps, the steps of others and Mark, Back and Abort do to notes with marks
pub record MarkLaws (es : List Entry) (notes : List Note) (owned : OrderedKey → Bool) (before : PlainMap)
    (marks : List ℕ) (maps : List PlainMap) : Type 0 where
  -- for Abort
  pub whole : Undoes es notes owned (λ key. get before key)
  -- the caller's condition of Back
  pub can_back : CanTakeBack (since_mark marks notes) (find es)
  -- its own steps: what the new notes do for each list of notes they do for all of them. More keys may be owned then,
  -- at which each of the maps has the content
  pub own : (es' : List Entry) (new : List Note) (owned' : OrderedKey → Bool) →
      ((part : List Note) (m : PlainMap) → IsContentAt es owned owned' m → Undoes es part owned (λ key. get m key) →
      Undoes es' (new ++ part) owned' (λ key. get m key)) →
      AllByRecursion (IsContentAt es owned owned') (before ∷ maps) →
      UndoesEach es' (new ++ notes) owned' before (length (new ++ notes)) marks maps
  -- others change entries of other keys, and commit
  pub others : (es' : List Entry) (before' : PlainMap) (maps' : List PlainMap) → OnePlace es' →
      LeavesNoted es es' notes owned →
      AllPairs (SameOwned owned) (before ∷ maps) (before' ∷ maps') →
      UndoesEach es' notes owned before' (length notes) marks maps'
  -- a mark is set, with a map that has the content at the owned keys
  pub marked : (map : PlainMap) → ((key : OrderedKey) → owned key ≡ true → get map key ≡ get (content es) key) →
      UndoesEach es notes owned before (length notes) (length notes ∷ marks) (map ∷ maps)
  -- the notes since the newest mark are taken back: the owned keys have the values of its map, and what is left undoes
  -- the rest
  pub backed : (es' : List Entry) (map : PlainMap) (rest : List PlainMap) → maps ≡ map ∷ rest →
      TakesBack (since_mark marks notes) es es' →
      Undoes es (since_mark marks notes) owned (λ key. get map key) ×
      UndoesEach es' (until_mark marks notes) owned before (length (until_mark marks notes)) (older marks) rest
