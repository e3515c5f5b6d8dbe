-- Notes taken back in a list: the list is known.
use Rattle.std.proofs.Common.{◌≡◌, List, sym, ◌∙◌}
use Rattle.am_record.specs.declared.entry.Entry.{Entry}
use Rattle.am_index.specs.Entries.{find, IsRising}
use Rattle.am_index.proofs.EditLaws.{edit_laws}
use Rattle.am_store_undo.specs.declared.note.Note.{Note}
use Rattle.am_store_undo.specs.Notes.{TakesBack, CanTakeBack}
use Rattle.am_store_undo.proofs.Slots.{back_none}
use Rattle.am_law_effect.specs.Laws.{taken_back}
use Rattle.am_law_effect.proofs.Backs.{rising-taken_back, look-taken_back}

pub is_taken_back : (notes : List Note) (es es' : List Entry) → IsRising es → CanTakeBack notes (find es) →
    TakesBack notes es es' → es' ≡ taken_back notes es
is_taken_back notes es es' rising can b =
    (edit_laws es' (b.rising rising)).only (taken_back notes es) (rising-taken_back notes es rising)
    (λ part key. b.at part key ∙ sym (look-taken_back notes es (part, key) (back_none notes (find es) part key can)))

-- and there is one
pub takes_back : (notes : List Note) (es : List Entry) → CanTakeBack notes (find es) →
    TakesBack notes es (taken_back notes es)
takes_back notes es can = record {
  rising = rising-taken_back notes es;
  at = λ part key. look-taken_back notes es (part, key) (back_none notes (find es) part key can);
}
