-- Records as a list, and when two such lists are the same.
use Rattle.std.specs.Prelude.{ℕ, List, Bool, nat_eq}
use Rattle.std.specs.Coded.{Coded, coded×, coded_ℕ, coded_list}
use Rattle.std.specs.Ordering.{eq_by_cmp, on, eq_of_both}
use Rattle.std.specs.Cmp.{IsEquivalence, eq_by_cmp_equiv, on_equiv, and_equiv}
use Rattle.std.specs.Cmp.Lexicographic.{pointwise, lists_equiv}
use Rattle.std.proofs.lemmas.Cmp.{nat_list_eq_equiv}
use Rattle.am_record.specs.OrderedKey.{OrderedKey, key_cmp, key_cmp-total, key_code}

-- records by key; a value is its bytes
abbrev pub Records : Type 0
Records = List (OrderedKey × List ℕ)

abbrev pub records_code : Coded Records
records_code = coded_list (coded× key_code (coded_list coded_ℕ))

-- the same key, and the same bytes
abbrev pub same_record : OrderedKey × List ℕ → OrderedKey × List ℕ → Bool
same_record = eq_of_both (on (λ r. r.0) (eq_by_cmp key_cmp)) (on (λ r. r.1) (pointwise nat_eq))

-- one record after another the same
abbrev pub same_records : Records → Records → Bool
same_records = pointwise same_record

pub same_records-equiv : IsEquivalence same_records
same_records-equiv = lists_equiv (and_equiv (on_equiv (λ (r : OrderedKey × List ℕ). r.0)
    (eq_by_cmp_equiv key_cmp-total)) (on_equiv (λ (r : OrderedKey × List ℕ). r.1) nat_list_eq_equiv))
