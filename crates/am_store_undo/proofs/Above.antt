-- The notes above a mark taken back one by one.
use Rattle.std.proofs.Common.{◌≡◌, ℕ, ◌<◌, ◌≤◌, List, [], ◌∷◌, ◌++◌, length, reverse, take, drop, arith, sym}
use Rattle.std.proofs.Common.{ap, ◌∙◌, subst, length-drop, length-append}
use Rattle.std.specs.Prelude.{IsSome, is_some}
use Rattle.std.proofs.lemmas.List.{drop-append-le, take-append-le, take-append-drop, append-nil, reverse-append}
use Rattle.std.proofs.Math.ListN.{drop_of_length-le}
use Rattle.am_record.specs.OrderedKey.{OrderedKey}
use Rattle.am_record.specs.EntryOrder.{Place}
use Rattle.am_record.specs.declared.entry.Entry.{Entry}
use Rattle.am_index.specs.Entries.{find, IsRising}
use Rattle.am_store_undo.specs.declared.note.Note.{Note}
use Rattle.am_store_undo.specs.Notes.{back_one, back_at, Stands, OneLive, TakesBack, NoteFits, NotesFit}
use Rattle.am_store_undo.proofs.Fits.{stood_before}
use Rattle.am_store_undo.proofs.Log.{Undone, ended, next_stands, next_one, goes_on}

-- some of the notes above the mark were taken back, and those under it are untouched. The newest stand last
pub record Above (was : List Entry) (items : List Note) (mark : ℕ) (left : List Note) (es : List Entry) : Type 0 where
  pub undone : Undone was (reverse (drop mark items)) (drop mark left) es
  pub kept : take mark left ≡ take mark items

module _ {was : List Entry} {items : List Note} {mark : ℕ} {left : List Note} {es : List Entry}
    (a : Above was items mark left es) where
  pub above_ended : length left ≤ mark → TakesBack (reverse (drop mark items)) was es
  above_ended few = ended a.undone (λ more. let none : length (drop mark left) ≡ 0 = length-drop mark left ∙ omega arith
      in omega arith)

  pub above_kept : length left ≤ mark → left ≡ take mark items
  above_kept few = sym (take_whole mark left few) ∙ a.kept
    where
      take_whole : (n : ℕ) (xs : List Note) → length xs ≤ n → take n xs ≡ xs
      take_whole n xs h = sym (append-nil (take n xs)) ∙ ap (λ ys. take n xs ++ ys) (sym (drop_of_length-le xs h)) ∙
          take-append-drop n xs

  module _ (some : mark < length left) (older : List Note) (n : Note) (is : left ≡ older ++ n ∷ []) where
    low : mark ≤ length older
    low = let e = ap length is ∙ length-append older (n ∷ []) in omega arith

    newest : drop mark left ≡ drop mark older ++ n ∷ []
    newest = ap (drop mark) is ∙ drop-append-le mark older (n ∷ []) low

    pub above_stands : Stands n (find es)
    above_stands = next_stands a.undone (drop mark older) n newest

    pub above_one : OneLive (back_at n (find es))
    above_one = next_one a.undone (drop mark older) n newest

    -- the noted values that are left, the newest of them first
    pub above_fits : (roomy : List Place) → NotesFit roomy (reverse (drop mark left)) →
        NoteFits roomy n × NotesFit roomy (reverse (drop mark older))
    above_fits roomy fits = subst (NotesFit roomy) (ap reverse newest ∙ reverse-append (drop mark older) (n ∷ [])) fits

    -- where something stands when the note was taken back, something stood before
    pub above_stood : (es' : List Entry) → ((part : ℕ) (key : OrderedKey) → find es' part key ≡ back_one n part key
        (find es part key)) → (part : ℕ) (key : OrderedKey) → IsSome (find es' part key) → IsSome (find es part key)
    above_stood es' at part key there = stood_before n (find es) part key above_stands
        (ap is_some (sym (at part key)) ∙ there)

    pub above_goes_on : (es' : List Entry) → ((part : ℕ) (key : OrderedKey) → find es' part key ≡ back_one n part key
        (find es part key)) → IsRising es' → Above was items mark older es'
    above_goes_on es' at rising = record {
      undone = goes_on a.undone (drop mark older) n newest es' at rising;
      kept = sym (ap (take mark) is ∙ take-append-le mark older (n ∷ []) low) ∙ a.kept;
    }
