-- Notes that can be taken back together with those before them.
use Rattle.std.proofs.Common.{◌≡◌, ℕ, List, ◌∷◌, Bool, Some, None, sym, ap, ◌∙◌, subst}
use Rattle.std.specs.Prelude.{is_some}
use Rattle.am_record.specs.OrderedKey.{OrderedKey}
use Rattle.am_record.specs.declared.entry.Entry.{Entry}
use Rattle.am_index.specs.Entries.{find, insert_entry, set_entry}
use Rattle.am_index.proofs.EditLaws.{edit_laws}
use Rattle.am_index_parts.specs.Partitions.{AreWellFormed}
use Rattle.am_store_undo.specs.declared.note.Note.{Note}
use Rattle.am_store_undo.specs.declared.note.Note.TheVariants.{New, Before}
use Rattle.am_store_undo.specs.Notes.{CanTakeBack}
use Rattle.am_store_undo.proofs.Slots.{can_note}
use Rattle.am_store_undo.proofs.TakeBacks.{one_live, changed_more, made_more}

module _ {es : List Entry} (sound : AreWellFormed es) {notes : List Note} (can : CanTakeBack notes (find es))
    {es' : List Entry} {notes' : List Note} where
  pub note_change : (part : ℕ) (key : OrderedKey) (old : List ℕ) (was_ghost : Bool) (value : List ℕ) (is_ghost : Bool) →
      find es part key ≡ Some (old, was_ghost)
      → es' ≡ set_entry es part key value is_ghost → notes' ≡ Before part key old was_ghost ∷ notes →
      CanTakeBack notes' (find es')
  note_change part key old was_ghost value is_ghost there set is =
      let change = (edit_laws es sound.rising).change.reset part key value is_ghost (ap is_some there) in
      let after = can_note (Before part key old was_ghost) notes (find es) (find (set_entry es part key value is_ghost))
      (ap is_some change.here)
      (changed_more es sound.rising part key old was_ghost value is_ghost there) (one_live sound.one_place) can in
      subst (λ (ns : List Note). CanTakeBack ns (find es')) (sym is)
      (subst (λ (l : List Entry). CanTakeBack (Before part key old was_ghost ∷ notes) (find l)) (sym set) after)

  pub note_insert : (x : Entry) → x.part ≡ 0 → find es 0 x.key ≡ None → es' ≡ insert_entry es x →
      notes' ≡ New x.key ∷ notes → CanTakeBack notes' (find es')
  note_insert x zero absent add is =
      let here = ap (λ p. find (insert_entry es x) p x.key) (sym zero) ∙
      ((edit_laws es sound.rising).change.inserted x).here in
      let after = can_note (New x.key) notes (find es) (find (insert_entry es x)) (ap is_some here)
      (made_more es sound.rising x zero absent) (one_live sound.one_place) can in
      subst (λ (ns : List Note). CanTakeBack ns (find es')) (sym is)
      (subst (λ (l : List Entry). CanTakeBack (New x.key ∷ notes) (find l)) (sym add) after)
