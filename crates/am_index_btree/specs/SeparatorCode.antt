-- The code of lists of separators, by which a proof tells two of them apart.
use Rattle.std.specs.Prelude.{ℕ, List, refl}
use Rattle.std.specs.Coded.{Coded, code_by, coded×, coded_ℕ, coded_list}
use Rattle.am_record.specs.OrderedKey.{OrderedKey, key_code}
use Rattle.am_index_btree.specs.declared.separator.Separator.{Separator}

abbrev pub separator_code : Coded Separator
separator_code = code_by (ℕ × OrderedKey) (coded× coded_ℕ key_code) (λ l. (l.part, l.key))
    (λ p. record { part = p.0; key = p.1 }) (λ _. refl)

abbrev pub separators_code : Coded (List Separator)
separators_code = coded_list separator_code
