-- The rows of a piece of a range are the first ones of the range, as they are read.
use Rattle.std.proofs.Common.{◌≡◌, ℕ, ◌≤◌, ◌++◌, [], ◌∷◌, Bool, true, false, ◌&&◌, not, filter, take}
use Rattle.std.proofs.Common.{reverse, length, refl, sym, ap, ◌∙◌, arith, ⊎_elim}
use Rattle.std.proofs.lemmas.Bool.{cases_Bool, and_parts, and_from, and_left, and_right, both_ways, false_from_ne_true}
use Rattle.std.proofs.lemmas.Bool.{false≢true}
use Rattle.std.proofs.lemmas.List.{append-nil, take-append-le, length-take}
use Rattle.std.proofs.lemmas.List.Elements.{filter-append}
use Rattle.std.specs.declared.cmp.Ordering.{Ordering}
use Rattle.std.specs.declared.cmp.Ordering.TheVariants.{Less, Equal, Greater}
use Rattle.std.specs.Ordering.{is_lt, is_le, eq_by_cmp}
use Rattle.std.specs.FinMap.{entries, entries_sorted}
use Rattle.std.specs.FinMap.Entries.{is_sorted, below_all}
use Rattle.am_record.specs.OrderedKey.{OrderedKey, key_cmp, key_eq-exact}
use Rattle.am_record.specs.Interval.{Interval, within}
use Rattle.am_record.specs.Plain.{PlainMap, Records, rows_where}
use Rattle.am_record.proofs.Lists.{filter-yes, filter-no}
use Rattle.am_record.proofs.Outcomes.{is_true}
use Rattle.am_store_scan.specs.Directions.{cmp_in, le_in, as_read, begin_of, BeginsAs}
use Rattle.am_store_scan.proofs.Directions.{Row, first_key, last_key, le_in_trans, from_ends, to_ends, rise_read}
use Rattle.am_store_scan.proofs.Directions.{turned_cons}

-- ---- rows whose keys pass a test

-- those in the range, of rows as they are read
abbrev pub those_in : Interval → Records → Records
those_in range rows = filter (λ (r : Row). within range r.0) rows

kept_turned : (test : Row → Bool) (rows : Records) → filter test (reverse rows) ≡ reverse (filter test rows)
kept_turned test [] = refl
kept_turned test (row ∷ rows) =
    ap (filter test) (turned_cons row rows) ∙ filter-append test (reverse rows) (row ∷ []) ∙
    ap (λ (l : Records). l ++ filter test (row ∷ [])) (kept_turned test rows) ∙
    ⊎_elim
    (λ yes. ap (λ (l : Records). reverse (filter test rows) ++ l) (filter-yes test row [] yes) ∙
    sym (ap reverse (filter-yes test row rows yes) ∙ turned_cons row (filter test rows)))
    (λ no_. ap (λ (l : Records). reverse (filter test rows) ++ l) (filter-no test row [] no_) ∙
    append-nil (reverse (filter test rows)) ∙ sym (ap reverse (filter-no test row rows no_)))
    (cases_Bool (test row))

-- as they are read, they are those of the rows as they are read
kept_read : (back : Bool) (range : Interval) (m : PlainMap) →
    as_read back (rows_where (within range) m) ≡ those_in range (as_read back (entries m))
kept_read false range m = refl
kept_read true range m = sym (kept_turned (λ (r : Row). within range r.0) (entries m))

-- ---- a piece

module _ (back : Bool) {range piece : Interval} (begins : BeginsAs back range piece) where
  -- a key of the range that is none of the piece is read after the piece's end
  behind_piece : (key : OrderedKey) → within piece key ≡ false → within range key ≡ true →
      le_in back key (last_key back piece) ≡ false
  behind_piece key outside inside =
      false_from_ne_true (le_in back key (last_key back piece))
      (λ low. both_ways (within piece key) outside (from_ends back piece key
      (ap (λ (k : OrderedKey). le_in back k key) (same_begin back begins.begin) ∙ (to_ends back range key inside).0)
      low))
    where
      same_begin : (b : Bool) → begin_of b piece ≡ begin_of b range → first_key b piece ≡ first_key b range
      same_begin false same = same
      same_begin true same = same

  -- so are those that are read after it
  none_behind : (key : OrderedKey) → le_in back key (last_key back piece) ≡ false → (rows : Records) →
      below_all (cmp_in back) key rows ≡ true → those_in piece rows ≡ []
  none_behind key past [] below = refl
  none_behind key past (row ∷ rows) below =
      let parts = and_parts (is_lt (cmp_in back key row.0)) (below_all (cmp_in back) key rows) below in
      filter-no (λ (r : Row). within piece r.0) row rows
      (false_from_ne_true (within piece row.0) (λ there.
      both_ways (le_in back key (last_key back piece)) past
      (le_in_trans back key row.0 (last_key back piece) (lower (cmp_in back key row.0) parts.0)
      (to_ends back piece row.0 there).1)))
      ∙ none_behind key past rows parts.1
    where
      lower : (o : Ordering) → is_lt o ≡ true → is_le o ≡ true
      lower Less h = refl
      lower Equal h = absurd (false≢true h)
      lower Greater h = absurd (false≢true h)

  -- what there is beside the piece's rows
  abbrev beside : Records → Records
  beside rows = filter (λ (r : Row). within range r.0 && not (within piece r.0)) rows

  parted : (rows : Records) → is_sorted (cmp_in back) rows ≡ true →
      those_in range rows ≡ those_in piece rows ++ beside rows
  parted [] rise = refl
  parted (row ∷ rows) rise =
      let parts = and_parts (below_all (cmp_in back) row.0 rows) (is_sorted (cmp_in back) rows) rise in
      let rest = parted rows parts.1 in
      let in_range : Row → Bool = λ r. within range r.0 in
      let in_piece : Row → Bool = λ r. within piece r.0 in
      let in_none : Row → Bool = λ r. within range r.0 && not (within piece r.0) in
      ⊎_elim
      (λ (there : within piece row.0 ≡ true).
      filter-yes in_range row rows (begins.inside row.0 there) ∙ ap (λ (l : Records). row ∷ l) rest ∙
      sym (ap (λ (l : Records). l ++ beside (row ∷ rows)) (filter-yes in_piece row rows there) ∙
      ap (λ (l : Records). (row ∷ those_in piece rows) ++ l) (filter-no in_none row rows
      (and_right (within range row.0) (not (within piece row.0)) (ap not there)))))
      (λ (outside : within piece row.0 ≡ false).
      ⊎_elim
      (λ (inside : within range row.0 ≡ true).
      let empty = none_behind row.0 (behind_piece row.0 outside inside) rows parts.0 in
      filter-yes in_range row rows inside ∙
      ap (λ (l : Records). row ∷ l) (rest ∙ ap (λ (l : Records). l ++ beside rows) empty) ∙
      sym (ap (λ (l : Records). l ++ beside (row ∷ rows)) (filter-no in_piece row rows outside ∙ empty) ∙
      filter-yes in_none row rows (and_from (within range row.0) (not (within piece row.0)) inside (ap not outside))))
      (λ (nowhere : within range row.0 ≡ false).
      filter-no in_range row rows nowhere ∙ rest ∙
      sym (ap (λ (l : Records). l ++ beside (row ∷ rows)) (filter-no in_piece row rows outside) ∙
      ap (λ (l : Records). those_in piece rows ++ l) (filter-no in_none row rows
      (and_left (within range row.0) (not (within piece row.0)) nowhere))))
      (cases_Bool (within range row.0)))
      (cases_Bool (within piece row.0))

  -- where the piece has so many rows, they are the first ones of the range
  pub enough_of_piece : (max : ℕ) (m : PlainMap) (rows : Records) →
      rows ≡ take max (as_read back (rows_where (within piece) m)) → length rows ≡ max →
      rows ≡ take max (as_read back (rows_where (within range) m))
  enough_of_piece max m rows are full =
      let all = as_read back (entries m) in
      let those : rows ≡ take max (those_in piece all) = are ∙ ap (take max) (kept_read back piece m) in
      let many : max ≤ length (those_in piece all) =
      (let long = ap length those ∙ length-take max (those_in piece all) in omega (arith, long, full)) in
      those ∙ sym (take-append-le max (those_in piece all) (beside all) many) ∙
      sym (ap (take max) (kept_read back range m ∙
      parted all (rise_read back (entries m) (is_true (is_sorted key_cmp (entries m)) (entries_sorted m)))))

-- ---- ranges that are one

pub same_range : (a b : Interval) → (eq_by_cmp key_cmp a.lo b.lo && eq_by_cmp key_cmp a.hi b.hi) ≡ true → a ≡ b
same_range a b h =
    let ends = and_parts (eq_by_cmp key_cmp a.lo b.lo) (eq_by_cmp key_cmp a.hi b.hi) h in
    λ i. record { lo = key_eq-exact a.lo b.lo ends.0 i; hi = key_eq-exact a.hi b.hi ends.1 i }
