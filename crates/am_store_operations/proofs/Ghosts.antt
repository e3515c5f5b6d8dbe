-- Live entries that become ghosts, one after another.
use Rattle.std.proofs.Common.{◌≡◌, ◌<◌, ◌+◌, ℕ, List, [], ◌∷◌, ◌++◌, length, drop, Bool, true, false, cond, refl, sym}
use Rattle.std.proofs.Common.{ap}
use Rattle.std.proofs.Common.{◌∙◌, Option, Some, None}
use Rattle.std.specs.Prelude.{get_or, is_some}
use Rattle.std.specs.Option.{option_map}
use Rattle.std.specs.Ordering.{is_eq}
use Rattle.std.proofs.lemmas.Bool.{cond_both}
use Rattle.std.proofs.lemmas.List.{append_assoc, drop_more}
use Rattle.am_record.specs.OrderedKey.{OrderedKey}
use Rattle.am_record.specs.EntryOrder.{place_of, place_cmp}
use Rattle.am_record.specs.Records.{Records}
use Rattle.am_record.specs.declared.entry.Entry.{Entry}
use Rattle.am_record.proofs.FirstRows.{Record}
use Rattle.am_index.specs.Entries.{slot_of, entry_at, find, set_entry}
use Rattle.am_store_undo.specs.declared.note.Note.{Note}
use Rattle.am_law_effect.specs.Operations.{find_live, with_ghost, with_ghosts, note_of_entry, notes_of_ghosts}

-- an entry that is set makes no place and takes none
pub stood_set : (es : List Entry) (part : ℕ) (key : OrderedKey) (value : List ℕ) (is_ghost : Bool) (p : ℕ)
    (k : OrderedKey) → is_some (find (set_entry es part key value is_ghost) p k) ≡ is_some (find es p k)
stood_set [] part key value is_ghost p k = refl
stood_set (e ∷ es) part key value is_ghost p k =
    cond_both (is_eq (place_cmp (place_of e) (part, key))) (new ∷ es) (e ∷ set_entry es part key value is_ghost)
    (λ l. is_some (find l p k) ≡ is_some (find (e ∷ es) p k))
    (λ _. here (is_eq (place_cmp (place_of e) (p, k))))
    (λ _. later (is_eq (place_cmp (place_of e) (p, k))) (stood_set es part key value is_ghost p k))
  where
    new : Entry
    new = record e { value = value; is_ghost = is_ghost }

    here : (b : Bool) → is_some (option_map slot_of (cond b (Some new) (entry_at es p k))) ≡
        is_some (option_map slot_of (cond b (Some e) (entry_at es p k)))
    here true = refl
    here false = refl

    later : (b : Bool) → is_some (find (set_entry es part key value is_ghost) p k) ≡ is_some (find es p k) →
        is_some (option_map slot_of (cond b (Some e) (entry_at (set_entry es part key value is_ghost) p k))) ≡
        is_some (option_map slot_of (cond b (Some e) (entry_at es p k)))
    later true rest = refl
    later false rest = rest

pub stood_ghost : (o : Option Entry) (es : List Entry) (p : ℕ) (k : OrderedKey) →
    is_some (find (with_ghost o es) p k) ≡ is_some (find es p k)
stood_ghost None es p k = refl
stood_ghost (Some e) es p k = stood_set es e.part e.key e.value true p k

-- one record more
module _ (rows : Records) (at : ℕ) (row : Record) (more : at < length rows) (is : row ≡ get_or rows at row) where
  pub whole : drop at rows ≡ row ∷ drop (at + 1) rows
  whole = drop_more rows at row more ∙ ap (λ r. r ∷ drop (at + 1) rows) (sym is)

  module _ (es es' : List Entry) (now : es' ≡ with_ghost (find_live es row.0) es) where
    pub ghosts_on : with_ghosts (drop (at + 1) rows) es' ≡ with_ghosts (drop at rows) es
    ghosts_on = ap (with_ghosts (drop (at + 1) rows)) now ∙ sym (ap (λ l. with_ghosts l es) whole)

    pub notes_on : (notes notes' : List Note) → notes' ≡ note_of_entry (find_live es row.0) ++ notes →
        notes_of_ghosts (drop (at + 1) rows) es' ++ notes' ≡ notes_of_ghosts (drop at rows) es ++ notes
    notes_on notes notes' noted =
        let rest = drop (at + 1) rows in
        ap (λ l. notes_of_ghosts rest l ++ notes') now
        ∙ ap (λ l. notes_of_ghosts rest (with_ghost (find_live es row.0) es) ++ l) noted
        ∙ sym (append_assoc (notes_of_ghosts rest (with_ghost (find_live es row.0) es))
        (note_of_entry (find_live es row.0)) notes)
        ∙ ap (λ l. notes_of_ghosts l es ++ notes) (sym whole)
