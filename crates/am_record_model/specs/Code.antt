-- How plain maps, drafts and what they are kept in are stored, by which a proof tells two of them apart.
use Rattle.std.specs.Prelude.{ℕ, List, Bool, Option, refl}
use Rattle.std.specs.Coded.{Coded, code_by, coded×, coded_ℕ, coded_bool, coded_list, coded_option}
use Rattle.std.specs.FinMap as map
use Rattle.am_record.specs.OrderedKey.{OrderedKey, key_code}
use Rattle.am_record.specs.Plain.{PlainMap, Draft}
use Rattle.am_record_model.specs.declared.note.Note.{Note}
use Rattle.am_record_model.specs.Marks.{DraftLog}
use Rattle.am_record_model.specs.Slots.{Cell, Cells}

abbrev pub map_code : Coded PlainMap
map_code = map.code key_code (coded_list coded_ℕ)

abbrev pub draft_code : Coded Draft
draft_code = code_by (PlainMap × List PlainMap) (coded× map_code (coded_list map_code)) (λ d. (d.map, d.saved))
    (λ p. record { map = p.0; saved = p.1 }) (λ _. refl)

abbrev pub cells_code : Coded Cells
cells_code = map.code key_code (coded_option (coded_list coded_ℕ))

abbrev pub cell_note_code : Coded Note
cell_note_code = code_by (OrderedKey × Option Cell) (coded× key_code (coded_option (coded_option (coded_list coded_ℕ))))
    (λ n. (n.key, n.before)) (λ p. record { key = p.0; before = p.1 }) (λ _. refl)

abbrev pub draft_log_code : Coded DraftLog
draft_log_code = code_by (List Note × (List ℕ × Bool)) (coded× (coded_list cell_note_code)
    (coded× (coded_list coded_ℕ) coded_bool)) (λ l. (l.notes, (l.marks, l.has_room)))
    (λ p. record { notes = p.0; marks = p.1.0; has_room = p.1.1 }) (λ _. refl)
