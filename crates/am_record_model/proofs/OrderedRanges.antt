-- Entries whose keys rise, as a finite map, and those of them in a range.
use Rattle.std.proofs.Common.{◌≡◌, ◌⊎◌, inl, inr, ℕ, ◌≤◌, length, List, [], ◌∷◌, ◌++◌, reverse, not, ◌&&◌, filter, take}
use Rattle.std.proofs.Common.{refl}
use Rattle.std.proofs.Common.{sym, ap, ◌∙◌, subst, append_assoc, Some, None}
use Rattle.std.proofs.lemmas.List.{append-nil, reverse-append, take_all}
use Rattle.std.proofs.Math.Seq.{take-append_seam}
use Rattle.std.proofs.lemmas.List.Elements.{filter_agree}
use Rattle.std.specs.declared.cmp.Ordering.{Ordering}
use Rattle.std.specs.declared.cmp.Ordering.TheVariants.{Less, Equal, Greater}
use Rattle.std.specs.declared.ops.Bound.TheVariants.{Included}
use Rattle.std.specs.Ordering.{is_lt, is_le, ordering_reverse}
use Rattle.std.specs.List.Sorted.{IsStrictlySortedBy}
use Rattle.std.specs.Map.{keys_of}
use Rattle.std.specs.BTreeMap.Range.{entries_between}
use Rattle.std.specs.FinMap.{from_entries, entries}
use Rattle.am_record.specs.OrderedKey.{OrderedKey, key_cmp, key_cmp-total}
use Rattle.am_record.specs.Interval.{Interval, key_le, within}
use Rattle.am_record.specs.Plain.{Records, rows_where}
use Rattle.am_record_model.specs.Slots.{Cell, record_before, records_of_cells, live}
use Rattle.am_record_model.proofs.SortedEntries.{rising, entries_stay}
use Rattle.am_record_model.proofs.Live.{live_where, entries_live}

turned : (o : Ordering) → not (is_lt (ordering_reverse o)) ≡ is_le o
turned Less = refl
turned Equal = refl
turned Greater = refl

same_test : (r : Interval) (q : OrderedKey) → (is_le (key_cmp r.lo q) && not (is_lt (key_cmp r.hi q))) ≡ within r q
same_test r q = ap (λ b. key_le r.lo q && b) (ap (λ o. not (is_lt o)) (key_cmp-total.antisymm r.hi q) ∙
    turned (key_cmp q r.hi))

-- the records of entries whose keys rise are those of their map
pub all_rows : (es : List (OrderedKey × Cell)) → IsStrictlySortedBy key_cmp (keys_of es) →
    records_of_cells es ≡ entries (live (from_entries es))
all_rows es h = ap records_of_cells (sym (entries_stay es (rising es h))) ∙ sym (entries_live (from_entries es))

-- the records in a range of entries are the rows that pass its test
pub between_rows : (es : List (OrderedKey × Cell)) (r : Interval) → IsStrictlySortedBy key_cmp (keys_of es) →
    records_of_cells (entries_between key_cmp (Included r.lo) (Included r.hi) es) ≡ rows_where (within r)
    (live (from_entries es))
between_rows es r h =
    ap records_of_cells (filter_agree (λ (e : OrderedKey × Cell). is_le (key_cmp r.lo e.0) && not
    (is_lt (key_cmp r.hi e.0))) (λ (e : OrderedKey × Cell). within r e.0) (λ e. same_test r e.0) es)
    ∙ live_where (within r) es
    ∙ ap (λ xs. filter (λ (e : OrderedKey × List ℕ). within r e.0) xs) (all_rows es h)

-- the first of all rows, where no more are left or so many are there
pub first_rows : (all rows rest : Records) (max : ℕ) → rows ++ rest ≡ all → length rows ≤ max → (rest ≡ []) ⊎
    (length rows ≡ max) → rows ≡ take max all
first_rows all rows rest max e few (inl none) =
    let same : rows ≡ all = sym (append-nil rows) ∙ ap (λ xs. rows ++ xs) (sym none) ∙ e in
    same ∙ sym (take_all max all (subst (λ xs. length xs ≤ max) same few))
first_rows all rows rest max e few (inr full) =
    sym (ap (take max) (sym e) ∙ ap (λ n. take n (rows ++ rest)) (sym full) ∙ take-append_seam rows rest)

-- ---- from the highest key down

before_append : (k : OrderedKey) (s : Cell) (xs ys : Records) → record_before k s (xs ++ ys) ≡ record_before k s xs ++
    ys
before_append k None xs ys = refl
before_append k (Some v) xs ys = refl

cells_behind : (es : List (OrderedKey × Cell)) (k : OrderedKey) (s : Cell) →
    records_of_cells (es ++ (k, s) ∷ []) ≡ records_of_cells es ++ record_before k s []
cells_behind [] k s = refl
cells_behind (e ∷ es) k s = ap (record_before e.0 e.1) (cells_behind es k s) ∙
    before_append e.0 e.1 (records_of_cells es) (record_before k s [])

-- one more is listed, or the place of a deleted record is passed
module _ (rows all : Records) (cells left : List (OrderedKey × Cell)) (k : OrderedKey)
    (h : rows ++ reverse (records_of_cells cells) ≡ all) where
  pub listed_back : (v : List ℕ) → cells ≡ left ++ (k, Some v) ∷ [] →
      (rows ++ (k, v) ∷ []) ++ reverse (records_of_cells left) ≡ all
  listed_back v e =
      append_assoc rows ((k, v) ∷ []) (reverse (records_of_cells left))
      ∙ ap (λ (xs : Records). rows ++ xs) (sym (ap (λ es. reverse (records_of_cells es)) e ∙
      ap reverse (cells_behind left k (Some v)) ∙ reverse-append (records_of_cells left) ((k, v) ∷ [])))
      ∙ h

  pub passed_back : cells ≡ left ++ (k, None) ∷ [] → rows ++ reverse (records_of_cells left) ≡ all
  passed_back e =
      ap (λ (xs : Records). rows ++ xs) (sym (ap (λ es. reverse (records_of_cells es)) e ∙
      ap reverse (cells_behind left k None ∙ append-nil (records_of_cells left))))
      ∙ h
