-- Notes taken back one by one.
use Rattle.std.proofs.Common.{◌≡◌, ℕ, ◌<◌, List, [], ◌∷◌, ◌++◌, length, reverse, arith, Bool, false, Option, Some, refl}
use Rattle.std.proofs.Common.{sym, ap, ◌∙◌, subst, ⊎_elim}
use Rattle.std.proofs.lemmas.List.{reverse-append}
use Rattle.std.proofs.lemmas.Bool.{cases_Bool, cond-true, cond-false}
use Rattle.am_record.specs.OrderedKey.{OrderedKey}
use Rattle.am_record.specs.EntryOrder.{Place}
use Rattle.am_record.specs.declared.entry.Entry.{Entry}
use Rattle.am_index.specs.Entries.{Slot, find, set_entry, IsRising}
use Rattle.am_index.specs.Edits.{same_place}
use Rattle.am_index.proofs.Edits.{one_place, same_place-itself}
use Rattle.am_index_parts.specs.Partitions.{LivesNowhereElse}
use Rattle.am_store_undo.specs.declared.note.Note.{Note}
use Rattle.am_store_undo.specs.declared.note.Note.TheVariants.{Before}
use Rattle.am_store_undo.specs.Notes.{back_one, back_all, back_at, Stands, OneLive, CanTakeBack, TakesBack}
use Rattle.am_store_undo.proofs.Run.{find_after_set}

module _ (es : List Entry) (part : ℕ) (key : OrderedKey) (value : List ℕ) (is_ghost : Bool) (note : Note)
    (is : note ≡ Before part key value is_ghost) where
  -- a value that is set live again is live in no other partition
  pub alone : OneLive (back_at note (find es)) → is_ghost ≡ false → LivesNowhereElse es part key
  alone one live =
      let one' : OneLive (back_at (Before part key value is_ghost) (find es)) =
      subst (λ n. OneLive (back_at n (find es))) is one in
      let set : Slot → Option Slot = λ s. Some s in
      let here : back_one (Before part key value is_ghost) part key (find es part key) ≡ Some (value, false) =
      cond-true (same_place part key part key) (Some (value, is_ghost)) (find es part key)
      (same_place-itself part key) ∙ ap (λ g. set (value, g)) live in
      record {
        only = λ part' value' lives.
            ⊎_elim
            (λ yes. ap (λ (q : Place). q.0) (one_place (part', key) (part, key) yes))
            (λ no. one'.one key part' part value' value (cond-false (same_place part' key part key)
            (Some (value, is_ghost)) (find es part' key) no ∙ lives.there) here)
            (cases_Bool (same_place part' key part key));
      }

  pub set_back : Stands note (find es) → (es' : List Entry) → es' ≡ set_entry es part key value is_ghost →
      (p : ℕ) (k : OrderedKey) → find es' p k ≡ back_one note p k (find es p k)
  set_back stands es' set p k =
      ap (λ l. find l p k) set ∙ find_after_set es part key value is_ghost (subst (λ n. Stands n (find es)) is stands) p
      k
      ∙ sym (ap (λ n. back_one n p k (find es p k)) is)

-- ---- the loop

-- some notes were taken back, and those that stand with the newest last are left
pub record Undone (was : List Entry) (notes : List Note) (left : List Note) (es : List Entry) : Type 0 where
  pub rising : IsRising was → IsRising es
  pub at : (part : ℕ) (key : OrderedKey) → back_all (reverse left) part key (find es part key) ≡ back_all notes part key
      (find was part key)
  pub can : CanTakeBack (reverse left) (find es)

pub begins : (es : List Entry) (notes left : List Note) → reverse left ≡ notes → CanTakeBack notes (find es) →
    Undone es notes left es
begins es notes left is can = record {
  rising = λ h. h;
  at = λ part key. ap (λ (ns : List Note). back_all ns part key (find es part key)) is;
  can = subst (λ (ns : List Note). CanTakeBack ns (find es)) (sym is) can;
}

empty : (xs : List Note) → (0 < length xs → ⊥) → xs ≡ []
empty [] h = refl
empty (x ∷ xs) h = absurd (h (omega arith))

module _ {was : List Entry} {notes left : List Note} {es : List Entry} (u : Undone was notes left es) where
  pub ended : (0 < length left → ⊥) → TakesBack notes was es
  ended none = record {
    rising = u.rising;
    at = λ part key. sym (ap (λ (ns : List Note). back_all (reverse ns) part key (find es part key))
        (empty left none)) ∙ u.at part key;
  }

  module _ (older : List Note) (n : Note) (is : left ≡ older ++ n ∷ []) where
    newest : reverse left ≡ n ∷ reverse older
    newest = ap reverse is ∙ reverse-append older (n ∷ [])

    next_can : CanTakeBack (n ∷ reverse older) (find es)
    next_can = subst (λ (ns : List Note). CanTakeBack ns (find es)) newest u.can

    pub next_stands : Stands n (find es)
    next_stands = next_can.stands

    pub next_one : OneLive (back_at n (find es))
    next_one = next_can.one

    pub goes_on : (es' : List Entry) → ((part : ℕ) (key : OrderedKey) → find es' part key ≡ back_one n part key
        (find es part key)) → IsRising es' → Undone was notes older es'
    goes_on es' at rising =
        let slots : back_at n (find es) ≡ find es' = λ i part key. sym (at part key) i in
        record {
          rising = λ _. rising;
          at = λ part key. ap (back_all (reverse older) part key) (at part key) ∙
              sym (ap (λ (ns : List Note). back_all ns part key (find es part key)) newest) ∙ u.at part key;
          can = subst (CanTakeBack (reverse older)) slots next_can.older;
        }
