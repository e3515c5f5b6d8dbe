-- The rows of a scan rise, and those of a scan back fall.
use Rattle.std.proofs.Common.{◌≡◌, ℕ, zero, suc, [], ◌∷◌, true, take, reverse, refl}
use Rattle.std.proofs.lemmas.Bool.{and_parts, and_from}
use Rattle.std.specs.declared.cmp.Ordering.{Ordering}
use Rattle.std.specs.Ordering.{is_lt}
use Rattle.std.specs.FinMap.{entries, entries_sorted, is_sorted}
use Rattle.std.specs.FinMap.Entries.{is_sorted-where_key, below_all}
use Rattle.am_record.specs.OrderedKey.{OrderedKey, key_cmp}
use Rattle.am_record.specs.Interval.{Interval, within}
use Rattle.am_record.specs.Plain.{PlainMap, Records, rows_where, scan_back_rows}
use Rattle.am_record.proofs.Outcomes.{is_true}
use Rattle.am_store_scan.proofs.Directions.{rise_read}

module _ (R : OrderedKey → OrderedKey → Ordering) where
  below_taken : (key : OrderedKey) (n : ℕ) (rows : Records) → below_all R key rows ≡ true →
      below_all R key (take n rows) ≡ true
  below_taken key zero rows h = refl
  below_taken key (suc n) [] h = refl
  below_taken key (suc n) (row ∷ rows) h = let parts = and_parts (is_lt (R key row.0)) (below_all R key rows)
      h in and_from (is_lt (R key row.0)) (below_all R key
      (take n rows)) parts.0 (below_taken key n rows parts.1)

  rises_taken : (n : ℕ) (rows : Records) → is_sorted R rows ≡ true → is_sorted R (take n rows) ≡ true
  rises_taken zero rows h = refl
  rises_taken (suc n) [] h = refl
  rises_taken (suc n) (row ∷ rows) h =
      let parts = and_parts (below_all R row.0 rows) (is_sorted R rows) h in
      and_from (below_all R row.0 (take n rows)) (is_sorted R (take n rows))
      (below_taken row.0 n rows parts.0) (rises_taken n rows parts.1)

pub scan_rises : (range : Interval) (max : ℕ) (m : PlainMap) →
    is_sorted key_cmp (take max (rows_where (within range) m)) ≡ true
scan_rises range max m = rises_taken key_cmp max (rows_where (within range) m)
    (is_true (is_sorted key_cmp (rows_where (within range) m))
    (is_sorted-where_key key_cmp (within range) (entries m) (entries_sorted m)))

-- those of a scan back fall
pub scan_back_falls : (range : Interval) (max : ℕ) (m : PlainMap) →
    is_sorted (λ a b. key_cmp b a) (scan_back_rows range max m) ≡ true
scan_back_falls range max m =
    let rows = rows_where (within range) m in
    rises_taken (λ a b. key_cmp b a) max (reverse rows) (rise_read true rows (is_true (is_sorted key_cmp rows)
    (is_sorted-where_key key_cmp (within range) (entries m) (entries_sorted m))))
