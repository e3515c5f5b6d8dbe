-- Noted values keep the room that they have: a place that a note names still has its entry when its turn comes.
use Rattle.std.proofs.Common.{◌≡◌, ℕ, ◌-◌, List, [], ◌∷◌, length, Bool, Option, Some, None, refl, sym, ap, ◌∙◌, ⊎_elim}
use Rattle.std.specs.Prelude.{IsSome, is_some}
use Rattle.std.proofs.lemmas.Bool.{cases_Bool, cond-false}
use Rattle.am_record.specs.Marks.{since_mark, until_mark}
use Rattle.am_record.proofs.Lists.{AllByRecursion-take, AllByRecursion-drop}
use Rattle.am_record.specs.OrderedKey.{OrderedKey}
use Rattle.am_record.specs.EntryOrder.{Place}
use Rattle.am_record.specs.declared.entry.Entry.{Entry}
use Rattle.am_index.specs.Entries.{Slot, find, set_entry}
use Rattle.am_index.specs.Edits.{same_place}
use Rattle.am_index.specs.Rooms.{KeepRoom}
use Rattle.am_index.proofs.Edits.{one_place}
use Rattle.am_index.proofs.Rooms.{room_kept, keep_on}
use Rattle.am_store_undo.specs.declared.note.Note.{Note}
use Rattle.am_store_undo.specs.declared.note.Note.TheVariants.{New, Before, RunMade}
use Rattle.am_store_undo.specs.Notes.{Slots, back_at, Stands, CanTakeBack, NoteFits, NotesFit}
use Rattle.am_store_undo.proofs.Run.{find_after_set}
use Rattle.am_store_undo.proofs.Slots.{one_none}

-- where something stands when a note was taken back, something stood before
pub stood_before : (n : Note) (slots : Slots) (part : ℕ) (key : OrderedKey) → Stands n slots →
    IsSome (back_at n slots part key) → IsSome (slots part key)
stood_before n slots part key stands there = by_cases (slots part key) refl
  where
    by_cases : (s : Option Slot) → slots part key ≡ s → IsSome (slots part key)
    by_cases (Some s) h = ap is_some h
    by_cases None h =
        ap is_some h ∙ ap is_some (sym (one_none n slots part key stands h (slots part key) h)) ∙ there

module _ (before after : List Place) (es : List Entry) (keep : KeepRoom before after es) where
  one_fits : (n : Note) (slots : Slots) → ((p : ℕ) (k : OrderedKey) → IsSome (slots p k) → IsSome (find es p k)) →
      Stands n slots → NoteFits before n → NoteFits after n
  one_fits (New k) slots stood stands fits = tt
  one_fits (Before p k value is_ghost) slots stood stands fits =
      room_kept before after es p k (length value) keep (stood p k stands) fits
  one_fits (RunMade p) slots stood stands fits = tt

  each_fits : (notes : List Note) (slots : Slots) →
      ((p : ℕ) (k : OrderedKey) → IsSome (slots p k) → IsSome (find es p k)) → CanTakeBack notes slots →
      NotesFit before notes → NotesFit after notes
  each_fits [] slots stood can fits = tt
  each_fits (n ∷ notes) slots stood can fits = (
    one_fits n slots stood can.stands fits.0,
    each_fits notes (back_at n slots) (λ p k there. stood p k (stood_before n slots p k can.stands there)) can.older
        fits.1,
  )

  -- notes that can be taken back after a change have the room that they had before it
  pub fits_on : (notes : List Note) → CanTakeBack notes (find es) → NotesFit before notes → NotesFit after notes
  fits_on notes can fits = each_fits notes (find es) (λ p k there. there) can fits

-- those since the newest mark, and those before it, fit where all do
pub fits_since : (roomy : List Place) (marks : List ℕ) (notes : List Note) → NotesFit roomy notes →
    NotesFit roomy (since_mark marks notes)
fits_since roomy [] notes fits = tt
fits_since roomy (mark ∷ marks) notes fits = AllByRecursion-take (NoteFits roomy) (length notes - mark) notes fits

pub fits_until : (roomy : List Place) (marks : List ℕ) (notes : List Note) → NotesFit roomy notes →
    NotesFit roomy (until_mark marks notes)
fits_until roomy [] notes fits = fits
fits_until roomy (mark ∷ marks) notes fits = AllByRecursion-drop (NoteFits roomy) (length notes - mark) notes fits

-- ---- room that is kept while values are set

-- where something stands when a value was set, something stood before
pub set_stood : (es : List Entry) (part : ℕ) (key : OrderedKey) (value : List ℕ) (is_ghost : Bool) →
    IsSome (find es part key) → (p : ℕ) (k : OrderedKey) → IsSome (find (set_entry es part key value is_ghost) p k) →
    IsSome (find es p k)
set_stood es part key value is_ghost there p k stands = ⊎_elim
    (λ yes. ap (λ (q : Place). is_some (find es q.0 q.1)) (one_place (p, k) (part, key) yes) ∙ there)
    (λ no. ap is_some (sym (find_after_set es part key value is_ghost there p k ∙
    cond-false (same_place p k part key) (Some (value, is_ghost)) (find es p k) no)) ∙ stands)
    (cases_Bool (same_place p k part key))

-- what was kept before a value is set is kept then
pub keep_set : (a b c : List Place) (es : List Entry) (part : ℕ) (key : OrderedKey) (value : List ℕ)
    (is_ghost : Bool) → IsSome (find es part key) → KeepRoom a b es → (es' : List Entry) →
    es' ≡ set_entry es part key value is_ghost → KeepRoom b c es' → KeepRoom a c es'
keep_set a b c es part key value is_ghost there first es' set second = keep_on a b c es es' first second
    (λ p k among stands. set_stood es part key value is_ghost there p k (ap (λ l. is_some (find l p k)) (sym set) ∙
    stands))
