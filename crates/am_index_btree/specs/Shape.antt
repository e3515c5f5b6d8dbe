-- What a subtree is seen as.
use Rattle.std.specs.Prelude.{ℕ, List, refl}
use Rattle.std.specs.Coded.{Coded, code_by, coded×, coded_ℕ, coded_list}
use Rattle.am_record.specs.OrderedKey.{key_code}
use Rattle.am_record.specs.EntryOrder.{Place}
use Rattle.am_record.specs.declared.entry.Entry.{Entry}
use Rattle.am_index.specs.EntryCode.{entries_code}

-- how deep its leaves stand, its entries in order, and the places of those that have room for any value
pub record Shape : Type 0 where
  pub depth : ℕ
  pub entries : List Entry
  pub roomy : List Place

abbrev pub shape_code : Coded Shape
shape_code =
    code_by (ℕ × (List Entry × List Place))
    (coded× coded_ℕ (coded× entries_code (coded_list (coded× coded_ℕ key_code))))
    (λ s. (s.depth, (s.entries, s.roomy)))
    (λ p. record { depth = p.0; entries = p.1.0; roomy = p.1.1 }) (λ _. refl)
