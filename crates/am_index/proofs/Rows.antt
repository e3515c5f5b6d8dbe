-- The live records of a partition in a range.
use Rattle.std.proofs.Common.{◌≡◌, ◌≢◌, ℕ, zero, suc, ◌+◌, ◌<◌, ◌≤◌, add-one, Bool, true, false, ◌&&◌, not, eqb, cond}
use Rattle.std.proofs.Common.{List, [], ◌∷◌, ◌++◌, length, get_or, take, drop, reverse, map, filter, if◌then◌else◌}
use Rattle.std.proofs.Common.{append_assoc, append-nil}
use Rattle.std.proofs.Common.{refl, sym, ap, ◌∙◌, subst, ⊎_elim, arith}
use Rattle.std.proofs.Math.Seq.{drop-cons, take-suc}
use Rattle.std.proofs.lemmas.Bool.{cases_Bool, cond-true, cond-false, eqb-true, eq-eqb, and_right, and_from}
use Rattle.std.proofs.lemmas.List.{take-append-drop, map-append, length-append, reverse-append}
use Rattle.std.proofs.lemmas.List.Elements.{filter-append}
use Rattle.std.specs.List.{AllByRecursion}
use Rattle.std.specs.declared.cmp.Ordering.{Ordering}
use Rattle.std.specs.declared.cmp.Ordering.TheVariants.{Less, Equal, Greater}
use Rattle.std.specs.Ordering.{is_le, ordering_reverse}
use Rattle.am_record.proofs.Lists.{AllByRecursion-map, AllByRecursion-at}
use Rattle.am_record.specs.OrderedKey.{OrderedKey, key_cmp, key_cmp-total}
use Rattle.am_record.specs.Interval.{Interval, key_le, within}
use Rattle.am_record.specs.Plain.{Records}
use Rattle.am_record.specs.EntryOrder.{place_of, place_cmp, place_cmp-part, place_cmp-same, place_cmp-total}
use Rattle.am_record.specs.declared.entry.Entry.{Entry}
use Rattle.am_record.proofs.Orderings.{not_greater_le}
use Rattle.am_index.specs.Places.{AllBelow, AllAbove, IsLowerBound, IsUpperBound}
use Rattle.am_index.specs.Content.{live_records, rows_in}
use Rattle.am_index.proofs.Lists.{first_false}
use Rattle.am_index.proofs.Batches.{take_whole, take_full}
use Rattle.am_index.proofs.Searches.{all_drop}

-- ---- tests of a key against a range

not_le_greater : (a b : OrderedKey) → key_cmp a b ≡ Greater → key_le a b ≡ false
not_le_greater a b h = ap is_le h

turned_less : (a b : OrderedKey) → key_cmp a b ≡ Less → key_cmp b a ≡ Greater
turned_less a b h = key_cmp-total.antisymm b a ∙ ap ordering_reverse h

le_of_not_less : (o : Ordering) → o ≢ Less → is_le (ordering_reverse o) ≡ true
le_of_not_less Less n = absurd (n refl)
le_of_not_less Equal n = refl
le_of_not_less Greater n = refl

-- ---- what holds of all from an index on, or up to it

at_dropped : {X : Type 0} (P : X → Type 0) (xs : List X) (i k : ℕ) (d : X) → AllByRecursion P (drop i xs) → i ≤ k →
    k < length xs → P (get_or xs k d)
at_dropped P [] i k d all le lt = absurd (omega arith)
at_dropped P (x ∷ xs) zero k d all le lt = AllByRecursion-at P (x ∷ xs) k d all lt
at_dropped P (x ∷ xs) (suc i) zero d all le lt = absurd (omega arith)
at_dropped P (x ∷ xs) (suc i) (suc k) d all le lt = at_dropped P xs i k d all (omega arith) (omega arith)

at_taken : {X : Type 0} (P : X → Type 0) (xs : List X) (i k : ℕ) (d : X) → AllByRecursion P (take i xs) → k < i →
    k < length xs → P (get_or xs k d)
at_taken P [] i k d all low lt = absurd (omega arith)
at_taken P (x ∷ xs) zero k d all low lt = absurd (omega arith)
at_taken P (x ∷ xs) (suc i) zero d all low lt = all.0
at_taken P (x ∷ xs) (suc i) (suc k) d all low lt = at_taken P xs i k d all.1 (omega arith) (omega arith)

-- ---- records of entries in turn

live-append : (xs ys : List Entry) → live_records (xs ++ ys) ≡ live_records xs ++ live_records ys
live-append xs ys = ap (map (λ (e : Entry). (e.key, e.value))) (filter-append (λ (e : Entry). not e.is_ghost) xs ys) ∙
    map-append (λ (e : Entry). (e.key, e.value)) (filter (λ (e : Entry). not e.is_ghost) xs)
    (filter (λ (e : Entry). not e.is_ghost) ys)

-- the record of an entry, unless it is a ghost
abbrev pub row_of : Entry → Records
row_of e = if e.is_ghost then [] else (e.key, e.value) ∷ []

pub live-cons : (e : Entry) (es : List Entry) → live_records (e ∷ es) ≡ row_of e ++ live_records es
live-cons e es =
    elim e.is_ghost as (λ b. map (λ (f : Entry). (f.key, f.value))
    (cond (not b) (e ∷ filter (λ (f : Entry). not f.is_ghost) es) (filter (λ (f : Entry). not f.is_ghost) es)) ≡
    (if b then [] else (e.key, e.value) ∷ []) ++ live_records es)
    [ true ↦ refl | false ↦ refl ]

module _ (part : ℕ) (range : Interval) where
  abbrev counts : Entry → Bool
  counts e = eqb e.part part && within range e.key

  abbrev rows : List Entry → Records
  rows es = rows_in es part range

  pub rows_in-append : (xs ys : List Entry) → rows (xs ++ ys) ≡ rows xs ++ rows ys
  rows_in-append xs ys = ap live_records (filter-append counts xs ys) ∙
      live-append (filter counts xs) (filter counts ys)

  none_count : (xs : List Entry) → AllByRecursion (λ e. counts e ≡ false) xs → rows xs ≡ []
  none_count [] none = refl
  none_count (x ∷ xs) none = ap live_records (cond-false (counts x) (x ∷ filter counts xs) (filter counts xs) none.0) ∙
      none_count xs none.1

  below_fails : (e : Entry) → place_cmp (place_of e) (part, range.lo) ≡ Less → counts e ≡ false
  below_fails e below =
      ⊎_elim
      (λ same.
      let less : key_cmp e.key range.lo ≡ Less = sym (place_cmp-same part e.key range.lo) ∙
      ap (λ p. place_cmp (p, e.key) (part, range.lo)) (sym (eqb-true e.part part same)) ∙ below in
      and_right (eqb e.part part) (within range e.key)
      (first_false (key_le range.lo e.key) (key_le e.key range.hi)
      (not_le_greater range.lo e.key (turned_less e.key range.lo less))))
      (λ other. first_false (eqb e.part part) (within range e.key) other)
      (cases_Bool (eqb e.part part))

  above_fails : (e : Entry) → place_cmp (place_of e) (part, range.hi) ≡ Greater → counts e ≡ false
  above_fails e above =
      ⊎_elim
      (λ same.
      let greater : key_cmp e.key range.hi ≡ Greater = sym (place_cmp-same part e.key range.hi) ∙
      ap (λ p. place_cmp (p, e.key) (part, range.hi)) (sym (eqb-true e.part part same)) ∙ above in
      and_right (eqb e.part part) (within range e.key)
      (and_right (key_le range.lo e.key) (key_le e.key range.hi) (not_le_greater e.key range.hi greater)))
      (λ other. first_false (eqb e.part part) (within range e.key) other)
      (cases_Bool (eqb e.part part))

  -- entries below the range, or above it, have no row in it
  pub rows_below : (xs : List Entry) → AllBelow (part, range.lo) xs → rows xs ≡ []
  rows_below xs below = none_count xs (AllByRecursion-map (λ e. place_cmp (place_of e) (part, range.lo) ≡ Less)
      (λ e. counts e ≡ false) below_fails xs below)

  pub rows_above : (xs : List Entry) → AllAbove (part, range.hi) xs → rows xs ≡ []
  rows_above xs above = none_count xs (AllByRecursion-map (λ e. place_cmp (place_of e) (part, range.hi) ≡ Greater)
      (λ e. counts e ≡ false) above_fails xs above)

  -- an entry that is neither has its row
  between_counts : (e : Entry) → place_cmp (place_of e) (part, range.lo) ≢ Less →
      place_cmp (place_of e) (part, range.hi) ≢ Greater → counts e ≡ true
  between_counts e from to =
      let up : part ≤ e.part = place_cmp-part (part, range.lo) (place_of e)
      (λ g. from (place_cmp-total.antisymm (place_of e) (part, range.lo) ∙ ap ordering_reverse g)) in
      let down : e.part ≤ part = place_cmp-part (place_of e) (part, range.hi) to in
      let same : e.part ≡ part = omega (arith, up, down) in
      let key_from : key_cmp e.key range.lo ≢ Less =
      λ less. from (ap (λ p. place_cmp (p, e.key) (part, range.lo)) same ∙ place_cmp-same part e.key range.lo ∙
      less) in
      let key_to : key_cmp e.key range.hi ≢ Greater =
      λ greater. to (ap (λ p. place_cmp (p, e.key) (part, range.hi)) same ∙ place_cmp-same part e.key range.hi ∙
      greater) in
      and_from (eqb e.part part) (within range e.key) (eq-eqb e.part part same)
      (and_from (key_le range.lo e.key) (key_le e.key range.hi) (ap is_le (key_cmp-total.antisymm range.lo e.key) ∙
      le_of_not_less (key_cmp e.key range.lo) key_from) (not_greater_le (key_cmp e.key range.hi) key_to))

  rows-cons : (e : Entry) (es : List Entry) → counts e ≡ true → rows (e ∷ es) ≡ row_of e ++ rows es
  rows-cons e es passed = ap live_records (cond-true (counts e) (e ∷ filter counts es) (filter counts es) passed) ∙
      live-cons e (filter counts es)

  -- ---- the rows of a list between two bounds

  module _ (es : List Entry) {from to : ℕ} (lower : IsLowerBound es part range.lo from)
      (upper : IsUpperBound es part range.hi to) where
    pub rows_begin : rows (drop from es) ≡ rows es
    rows_begin =
        ap (λ l. l ++ rows (drop from es)) (sym (rows_below (take from es) lower.below))
        ∙ sym (rows_in-append (take from es) (drop from es))
        ∙ ap rows (take-append-drop from es)

    pub rows_end : (at : ℕ) → to ≤ at → rows (drop at es) ≡ []
    rows_end at past = rows_above (drop at es) (all_drop (λ e. place_cmp (place_of e) (part, range.hi) ≡ Greater) es at
        (λ k d le lt.
        at_dropped (λ e. place_cmp (place_of e) (part, range.hi) ≡ Greater) es to k d upper.above
        (omega (arith, past, le)) lt))

    -- up to the greater bound there are all, and up to the lesser one there is none
    pub rows_end_back : rows (take to es) ≡ rows es
    rows_end_back =
        sym (append-nil (rows (take to es)))
        ∙ ap (λ l. rows (take to es) ++ l) (sym (rows_above (drop to es) upper.above))
        ∙ sym (rows_in-append (take to es) (drop to es))
        ∙ ap rows (take-append-drop to es)

    pub rows_begin_back : (at : ℕ) → at ≤ from → rows (take at es) ≡ []
    rows_begin_back at low = rows_below (take at es) (fewer at from es low lower.below)
      where
        fewer : (i n : ℕ) (xs : List Entry) → i ≤ n → AllBelow (part, range.lo) (take n xs) →
            AllBelow (part, range.lo) (take i xs)
        fewer zero n xs le all = tt
        fewer (suc i) n [] le all = tt
        fewer (suc i) zero (x ∷ xs) le all = absurd (omega (arith, le))
        fewer (suc i) (suc n) (x ∷ xs) le all = (all.0, fewer i n xs (omega (arith, le)) all.1)

    module _ (at : ℕ) (e : Entry) (low : from ≤ at) (high : at < to) (inside : at < length es)
        (here : e ≡ get_or es at e) where
      in_range : counts e ≡ true
      in_range =
          between_counts e
          (subst (λ (f : Entry). place_cmp (place_of f) (part, range.lo) ≢ Less) (sym here)
          (at_dropped (λ f. place_cmp (place_of f) (part, range.lo) ≢ Less) es from at e lower.others low inside))
          (subst (λ (f : Entry). place_cmp (place_of f) (part, range.hi) ≢ Greater) (sym here)
          (at_taken (λ f. place_cmp (place_of f) (part, range.hi) ≢ Greater) es to at e upper.others high inside))

      step : rows (drop at es) ≡ row_of e ++ rows (drop (at + 1) es)
      step =
          ap rows (drop-cons es at e inside ∙ ap (λ x. x ∷ drop (suc at) es) (sym here))
          ∙ rows-cons e (drop (suc at) es) in_range
          ∙ ap (λ n. row_of e ++ rows (drop n es)) (sym (add-one at))

      -- a ghost has none
      pub rows_past_ghost : e.is_ghost ≡ true → rows (drop at es) ≡ rows (drop (at + 1) es)
      rows_past_ghost ghost = step ∙ ap (λ l. l ++ rows (drop (at + 1) es))
          (cond-true e.is_ghost [] ((e.key, e.value) ∷ []) ghost)

      -- a live entry has the next one
      pub rows_at_live : e.is_ghost ≡ false → rows (drop at es) ≡ (e.key, e.value) ∷ rows (drop (at + 1) es)
      rows_at_live live = step ∙ ap (λ l. l ++ rows (drop (at + 1) es))
          (cond-false e.is_ghost [] ((e.key, e.value) ∷ []) live)

      step_back : rows (take (at + 1) es) ≡ rows (take at es) ++ row_of e
      step_back =
          ap (λ n. rows (take n es)) (add-one at)
          ∙ ap rows (take-suc es at e inside ∙ ap (λ x. take at es ++ x ∷ []) (sym here))
          ∙ rows_in-append (take at es) (e ∷ [])
          ∙ ap (λ l. rows (take at es) ++ l) (rows-cons e [] in_range ∙ append-nil (row_of e))

      -- from the greater bound down a ghost has none
      pub back_past_ghost : e.is_ghost ≡ true → reverse (rows (take (at + 1) es)) ≡ reverse (rows (take at es))
      back_past_ghost ghost = ap reverse (step_back
          ∙ ap (λ l. rows (take at es) ++ l) (cond-true e.is_ghost [] ((e.key, e.value) ∷ []) ghost)
          ∙ append-nil (rows (take at es)))

      -- a live entry has the next one
      pub back_at_live : e.is_ghost ≡ false →
          reverse (rows (take (at + 1) es)) ≡ (e.key, e.value) ∷ reverse (rows (take at es))
      back_at_live live = ap reverse (step_back ∙ ap (λ l. rows (take at es) ++ l)
          (cond-false e.is_ghost [] ((e.key, e.value) ∷ []) live))
          ∙ reverse-append (rows (take at es)) ((e.key, e.value) ∷ [])

-- ---- rows that are copied from a list, until there are enough

module _ (es : List Entry) (part : ℕ) (range : Interval) (max : ℕ) (begun : Records) where
  -- of the entries from the index on come the rows that are still wanting
  pub record AreCopied (rows : Records) (at : ℕ) : Type 0 where
    pub fits : length rows ≤ max
    pub same : take max (rows ++ rows_in (drop at es) part range) ≡ take max (begun ++ rows_in es part range)

  pub are_enough : {rows : Records} {at : ℕ} → AreCopied rows at → max ≤ length rows →
      rows ≡ take max (begun ++ rows_in es part range)
  are_enough {rows} {at} h full = let fits = h.fits in
      sym (take_full max rows (rows_in (drop at es) part range) (omega (arith, fits, full))) ∙ h.same

  -- ---- from the highest key down

  -- of the entries before the index come the rows that are still wanting
  pub record AreCopiedBack (rows : Records) (at : ℕ) : Type 0 where
    pub fits : length rows ≤ max
    pub same : take max (rows ++ reverse (rows_in (take at es) part range)) ≡ take max
        (begun ++ reverse (rows_in es part range))

  pub are_enough_back : {rows : Records} {at : ℕ} → AreCopiedBack rows at → max ≤ length rows →
      rows ≡ take max (begun ++ reverse (rows_in es part range))
  are_enough_back {rows} {at} h full = let fits = h.fits in
      sym (take_full max rows (reverse (rows_in (take at es) part range)) (omega (arith, fits, full))) ∙ h.same

  module _ {from to : ℕ} {lo hi : OrderedKey} (lo_is : lo ≡ range.lo) (hi_is : hi ≡ range.hi)
      (lower' : IsLowerBound es part lo from) (upper' : IsUpperBound es part hi to) where
    lower : IsLowerBound es part range.lo from
    lower = subst (λ k. IsLowerBound es part k from) lo_is lower'

    upper : IsUpperBound es part range.hi to
    upper = subst (λ k. IsUpperBound es part k to) hi_is upper'

    pub none_copied : length begun ≤ max → AreCopied begun from
    none_copied fits = record {
      fits = fits;
      same = ap (λ l. take max (begun ++ l)) (rows_begin part range es lower upper);
    }

    pub all_copied : {rows : Records} {at : ℕ} → AreCopied rows at → to ≤ at →
        rows ≡ take max (begun ++ rows_in es part range)
    all_copied {rows} {at} h past = sym (take_whole max rows h.fits) ∙
        ap (λ l. take max (rows ++ l)) (sym (rows_end part range es lower upper at past)) ∙ h.same

    module _ {rows : Records} {at : ℕ} (h : AreCopied rows at) (e : Entry) (low : from ≤ at) (high : at < to)
        (inside : at < length es) (here : e ≡ get_or es at e) where
      pub ghost_passed : e.is_ghost ≡ true → AreCopied rows (at + 1)
      ghost_passed ghost = record {
        fits = h.fits;
        same = ap (λ l. take max (rows ++ l)) (sym (rows_past_ghost part range es lower upper at e low high inside here
            ghost)) ∙ h.same;
      }

      pub row_copied : e.is_ghost ≡ false → {rows' : Records} → rows' ≡ rows ++ (e.key, e.value) ∷ [] →
          length rows < max → AreCopied rows' (at + 1)
      row_copied live {rows'} pushed room =
          let rest = rows_in (drop (at + 1) es) part range in
          record {
            fits = omega (arith, room, ap length pushed, length-append rows ((e.key, e.value) ∷ []));
            same =
                ap (λ l. take max (l ++ rest)) pushed
                ∙ ap (take max) (append_assoc rows ((e.key, e.value) ∷ []) rest)
                ∙ ap (λ l. take max (rows ++ l)) (sym (rows_at_live part range es lower upper at e low high inside here
                live))
                ∙ h.same;
          }

    pub none_copied_back : length begun ≤ max → AreCopiedBack begun to
    none_copied_back fits = record {
      fits = fits;
      same = ap (λ l. take max (begun ++ reverse l)) (rows_end_back part range es lower upper);
    }

    pub all_copied_back : {rows : Records} {at : ℕ} → AreCopiedBack rows at → at ≤ from →
        rows ≡ take max (begun ++ reverse (rows_in es part range))
    all_copied_back {rows} {at} h past = sym (take_whole max rows h.fits) ∙
        ap (λ l. take max (rows ++ reverse l)) (sym (rows_begin_back part range es lower upper at past)) ∙ h.same

    module _ {rows : Records} {at : ℕ} (h : AreCopiedBack rows at) (e : Entry) (next : ℕ) (is : at ≡ next + 1)
        (low : from ≤ next) (high : next < to) (inside : next < length es) (here : e ≡ get_or es next e) where
      abbrev rest : Records
      rest = reverse (rows_in (take next es) part range)

      pub ghost_passed_back : e.is_ghost ≡ true → AreCopiedBack rows next
      ghost_passed_back ghost = record {
        fits = h.fits;
        same = ap (λ l. take max (rows ++ l)) (sym (ap (λ n. reverse (rows_in (take n es) part range)) is
            ∙ back_past_ghost part range es lower upper next e low high inside here ghost)) ∙ h.same;
      }

      pub row_copied_back : e.is_ghost ≡ false → {rows' : Records} → rows' ≡ rows ++ (e.key, e.value) ∷ [] →
          length rows < max → AreCopiedBack rows' next
      row_copied_back live {rows'} pushed room = record {
        fits = omega (arith, room, ap length pushed, length-append rows ((e.key, e.value) ∷ []));
        same =
            ap (λ l. take max (l ++ rest)) pushed
            ∙ ap (take max) (append_assoc rows ((e.key, e.value) ∷ []) rest)
            ∙ ap (λ l. take max (rows ++ l)) (sym (ap (λ n. reverse (rows_in (take n es) part range)) is
            ∙ back_at_live part range es lower upper next e low high inside here live))
            ∙ h.same;
      }
