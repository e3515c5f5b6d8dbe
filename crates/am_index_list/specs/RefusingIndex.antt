-- What is seen of an index that refuses some inserts, and its code, by which a proof tells two of them apart.
use Rattle.std.specs.Prelude.{ℕ, List, refl}
use Rattle.std.specs.Coded.{Coded, code_by, coded×, coded_ℕ, coded_list}
use Rattle.am_record.specs.OrderedKey.{key_code}
use Rattle.am_record.specs.EntryOrder.{Place}
use Rattle.am_record.specs.declared.entry.Entry.{Entry}
use Rattle.am_index.specs.EntryCode.{entries_code}

-- the entries, the places of those that have room for any value, the numbers of the inserts that are refused, and how
-- many inserts were asked for
pub record Refusing : Type 0 where
  pub entries : List Entry
  pub roomy : List Place
  pub refused : List ℕ
  pub inserts : ℕ

abbrev pub refusing_code : Coded Refusing
refusing_code =
    code_by (List Entry × (List Place × (List ℕ × ℕ)))
    (coded× entries_code (coded× (coded_list (coded× coded_ℕ key_code)) (coded× (coded_list coded_ℕ) coded_ℕ)))
    (λ r. (r.entries, (r.roomy, (r.refused, r.inserts))))
    (λ p. record { entries = p.0; roomy = p.1.0; refused = p.1.1.0; inserts = p.1.1.1 })
    (λ _. refl)
