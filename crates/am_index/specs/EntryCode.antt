-- The code of lists of entries, by which a proof tells two of them apart.
use Rattle.std.specs.Prelude.{ℕ, List, Bool, refl}
use Rattle.std.specs.Coded.{Coded, code_by, coded×, coded_ℕ, coded_bool, coded_list}
use Rattle.am_record.specs.OrderedKey.{OrderedKey, key_code}
use Rattle.am_record.specs.declared.entry.Entry.{Entry}

abbrev pub entry_code : Coded Entry
entry_code =
    code_by ((ℕ × OrderedKey) × (List ℕ × Bool)) (coded× (coded× coded_ℕ key_code)
    (coded× (coded_list coded_ℕ) coded_bool))
    (λ e. ((e.part, e.key), (e.value, e.is_ghost)))
    (λ p. record { part = p.0.0; key = p.0.1; value = p.1.0; is_ghost = p.1.1 })
    (λ _. refl)

abbrev pub entries_code : Coded (List Entry)
entries_code = coded_list entry_code
