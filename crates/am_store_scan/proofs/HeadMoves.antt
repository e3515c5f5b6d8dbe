-- A head on its way from record to record of its partition.
use Rattle.std.proofs.Common.{◌≡◌, ℕ, zero, suc, ◌+◌, ◌<◌, ◌≤◌, ◌↔◌, ◌++◌, List, [], ◌∷◌, Bool, true, ◌&&◌, cond, T}
use Rattle.std.proofs.Common.{Option}
use Rattle.std.proofs.Common.{IsTrue, length, take, drop, Some, None, refl, sym, ap, ◌∙◌, subst, arith, add-one}
use Rattle.std.proofs.Common.{drop-cons}
use Rattle.std.proofs.lemmas.Bool.{and_parts, true≢false, cond-true}
use Rattle.std.proofs.lemmas.List.{take-append-drop, drop_all, get_or_default}
use Rattle.std.proofs.lemmas.Option.{none-some}
use Rattle.std.specs.declared.cmp.Ordering.{Ordering}
use Rattle.std.specs.declared.cmp.Ordering.TheVariants.{Less, Equal, Greater}
use Rattle.std.specs.Ordering.{is_eq, is_lt, is_le, ordering_reverse}
use Rattle.std.specs.Cmp.{IsTotalOrder}
use Rattle.std.specs.FinMap.Entries.{is_sorted, below_all, same_entries, find as looked_up}
use Rattle.am_record.specs.OrderedKey.{OrderedKey, key_least}
use Rattle.am_record.specs.Interval.{Interval, within}
use Rattle.am_record.specs.Plain.{Records}
use Rattle.am_record.specs.declared.entry.Entry.{Entry}
use Rattle.am_record.proofs.Orderings.{is_less}
use Rattle.am_record.proofs.Outcomes.{gate}
use Rattle.am_index.specs.Entries.{find}
use Rattle.am_index.specs.Content.{rows_in, live_value, IsLiveAt, RowsRead}
use Rattle.am_index.proofs.Content.{live_at}
use Rattle.am_store_scan.specs.Directions.{cmp_in, cmp_in-total, le_in, as_read, rest_of}
use Rattle.am_store_scan.specs.Heads.{Stand, row_of, stand_at, HasReadOn, HasReadSome, IsFirstHead, IsNextHead}
use Rattle.am_store_scan.specs.Heads.{HasNoNext}
use Rattle.am_store_scan.specs.Heads.{HasNoneLive}
use Rattle.am_store_scan.proofs.Directions.{exact, itself, le_in_trans, first_key, last_key, in_range, in_rest}
use Rattle.am_store_scan.proofs.Directions.{rest_twice}
use Rattle.am_store_scan.proofs.Directions.{from_ends, to_ends, from_rest, to_rest, RowsReadIn, rows_read_in}

module _ (back : Bool) where
  abbrev cmp : OrderedKey → OrderedKey → Ordering
  cmp = cmp_in back

  abbrev not_above : OrderedKey → OrderedKey → Bool
  not_above = le_in back

  abbrev row_for : OrderedKey → Records → Option (List ℕ)
  row_for key found = looked_up (cmp_in back) key found

  total : IsTotalOrder (cmp_in back)
  total = cmp_in-total back

  -- ---- keys

  pub turned : (a b : OrderedKey) → cmp a b ≡ Greater → cmp b a ≡ Less
  turned a b h = total.antisymm b a ∙ ap ordering_reverse h

  -- a is not above b, and b is below c
  le_less : (a b c : OrderedKey) (o : Ordering) → cmp a b ≡ o → is_le o ≡ true → cmp b c ≡ Less →
      cmp a c ≡ Less
  le_less a b c Less e h less = total.trans a b c e less
  le_less a b c Equal e h less = total.congr a b c e ∙ less
  le_less a b c Greater e h less = absurd (true≢false (sym h))

  -- a is below b, and b is not above c
  pub less_le : (a b c : OrderedKey) (o : Ordering) → cmp a b ≡ Less → cmp b c ≡ o → is_le o ≡ true →
      cmp a c ≡ Less
  less_le a b c Less less e h = total.trans a b c less e
  less_le a b c Equal less e h = subst (λ k. cmp a k ≡ Less) (exact back b c e) less
  less_le a b c Greater less e h = absurd (true≢false (sym h))

  pub not_below_itself : (k : OrderedKey) → cmp k k ≡ Less → ⊥
  not_below_itself k h = true≢false (ap is_lt (sym h) ∙ ap is_lt (itself back k))

  -- ---- rows by key

  row_here : (k : OrderedKey) (v : List ℕ) (rows : Records) → row_for k ((k, v) ∷ rows) ≡ Some v
  row_here k v rows = ap (λ o. cond (is_eq o) (Some v) (row_for k rows)) (itself back k)

  row_below : (q k : OrderedKey) (v : List ℕ) (rows : Records) → cmp q k ≡ Less → row_for q ((k, v) ∷ rows) ≡
      row_for q rows
  row_below q k v rows below = ap (λ o. cond (is_eq o) (Some v) (row_for q rows)) below

  row_above : (q k : OrderedKey) (v : List ℕ) (rows : Records) → cmp k q ≡ Less → row_for q ((k, v) ∷ rows) ≡
      row_for q rows
  row_above q k v rows above = ap (λ o. cond (is_eq o) (Some v) (row_for q rows))
      (total.antisymm q k ∙ ap ordering_reverse above)

  -- rows that are all above a key have none up to it
  absent : (k q : OrderedKey) (rows : Records) → below_all cmp k rows ≡ true → not_above q k ≡ true →
      row_for q rows ≡ None
  absent k q [] above le = refl
  absent k q (row ∷ rows) above le =
      let parts = and_parts (is_lt (cmp k row.0)) (below_all cmp k rows) above in
      row_below q row.0 row.1 rows (le_less q k row.0 (cmp q k) refl le (is_less (cmp k row.0) parts.0))
      ∙ absent k q rows parts.1 le

  -- nor have rows that begin above it
  absent_below : (k q : OrderedKey) (v : List ℕ) (rows : Records) → is_sorted cmp ((k, v) ∷ rows) ≡ true →
      cmp q k ≡ Less → row_for q ((k, v) ∷ rows) ≡ None
  absent_below k q v rows rise below = row_below q k v rows below ∙ absent k q rows
      (and_parts (below_all cmp k rows) (is_sorted cmp rows) rise).0 (ap is_le below)

  -- ---- the rows of a partition

  module _ {es : List Entry} (known : (part : ℕ) (range : Interval) → RowsRead es part range) where
    abbrev rows : ℕ → Interval → Records
    rows part range = as_read back (rows_in es part range)

    laws : (part : ℕ) (range : Interval) → RowsReadIn back es part range
    laws part range = rows_read_in back (known part range)

    live_row : (part : ℕ) (range : Interval) (key : OrderedKey) (value : List ℕ) → within range key ≡ true →
        IsLiveAt es part key value → row_for key (rows part range) ≡ Some value
    live_row part range key value inside live = (laws part range).live key
        ∙ cond-true (within range key) (live_value (find es part key)) None inside ∙ ap live_value live.there

    row_live : (part : ℕ) (range : Interval) (key : OrderedKey) (value : List ℕ) →
        row_for key (rows part range) ≡ Some value → (within range key ≡ true) × IsLiveAt es part key value
    row_live part range key value has =
        let both = gate (within range key) (live_value (find es part key)) value (sym ((laws part range).live key) ∙
        has)
        in (both.0, live_at both.1)

    not_live : (part : ℕ) (range : Interval) (key : OrderedKey) (value : List ℕ) → within range key ≡ true →
        row_for key (rows part range) ≡ None → ¬ IsLiveAt es part key value
    not_live part range key value inside none live =
        none-some value (sym none ∙ live_row part range key value inside live)

    -- the rows from one of them on
    module _ (part : ℕ) (range : Interval) (k : OrderedKey) (v : List ℕ) (rest : Records)
        (low : not_above (first_key back range) k ≡ true) (rise : is_sorted cmp ((k, v) ∷ rest) ≡ true)
        (same : (q : OrderedKey) → not_above k q ≡ true → row_for q (rows part range) ≡ row_for q ((k, v) ∷ rest)) where
      abbrev from_it : Interval
      from_it = rest_of back range k

      alike : (q : OrderedKey) → not_above k q ≡ true → within from_it q ≡ within range q
      alike q le = in_rest back range k q ∙ ap (λ b. b && not_above q (last_key back range))
          (le ∙ sym (le_in_trans back (first_key back range) k q low le)) ∙ sym (in_range back range q)

      reached : (q : OrderedKey) → not_above k q ≡ true → row_for q (rows part from_it) ≡ row_for q ((k, v) ∷ rest)
      reached q le = (laws part from_it).live q
          ∙ ap (λ b. cond b (live_value (find es part q)) None) (alike q le)
          ∙ sym ((laws part range).live q) ∙ same q le

      by_order : (q : OrderedKey) (o : Ordering) → cmp k q ≡ o → row_for q (rows part from_it) ≡
          row_for q ((k, v) ∷ rest)
      by_order q Less e = reached q (ap is_le e)
      by_order q Equal e = reached q (ap is_le e)
      by_order q Greater e = (laws part from_it).live q
          ∙ ap (λ b. cond b (live_value (find es part q)) None) (in_rest back range k q)
          ∙ ap (λ b. cond (b && not_above q (last_key back range)) (live_value (find es part q)) None) (ap is_le e)
          ∙ sym (absent_below k q v rest rise (turned k q e))

      pub rows_from_it : rows part from_it ≡ (k, v) ∷ rest
      rows_from_it = same_entries cmp total (exact back) (rows part from_it) ((k, v) ∷ rest)
          (subst T (sym (laws part from_it).rise) tt)
          (subst T (sym rise) tt) (λ q. by_order q (cmp k q) refl)

    -- ---- the first row of the range

    module _ (part : ℕ) (range : Interval) (k : OrderedKey) (v : List ℕ) (rest : Records)
        (is : rows part range ≡ (k, v) ∷ rest) where
      rise_from : is_sorted cmp ((k, v) ∷ rest) ≡ true
      rise_from = ap (is_sorted cmp) (sym is) ∙ (laws part range).rise

      here : (within range k ≡ true) × IsLiveAt es part k v
      here = row_live part range k v (ap (row_for k) is ∙ row_here k v rest)

      reaches : not_above (first_key back range) k ≡ true
      reaches = (to_ends back range k here.0).0

      first_before : (key : OrderedKey) (value : List ℕ) → within range key ≡ true → cmp key k ≡ Less →
          ¬ IsLiveAt es part key value
      first_before key value inside below = not_live part range key value inside
          (ap (row_for key) is ∙ absent_below k key v rest rise_from below)

      from_first : rows part (rest_of back range k) ≡ (k, v) ∷ rest
      from_first = rows_from_it part range k v rest reaches rise_from (λ q le. ap (row_for q) is)

      is_first : (read further : Records) (is_all : Bool) → rest ≡ read ++ further → (IsTrue is_all → further ≡ []) →
          IsFirstHead back es range part
          (record { part = part; key = k; value = v; read = read; is_all = is_all })
      is_first read further is_all split ended = record {
        head = record {
          live = here.1;
          inside = here.0;
          reads = record { further = further; follows = from_first ∙ ap (λ l. (k, v) ∷ l) split; ended = ended };
        };
        in_part = refl;
        none_before = first_before;
      }

    begins_by : (part : ℕ) (range : Interval) (room : ℕ) (all found : Records) (is_all : Bool) → 1 ≤ room →
        rows part range ≡ all → found ≡ take room all → (length found ≡ 0 → ⊥) →
        (IsTrue is_all → length all < room) → IsFirstHead back es range part (stand_at part found 0 is_all)
    begins_by part range zero all found is_all some is read full few = absurd (omega (arith, some))
    begins_by part range (suc n) [] found is_all some is read full few = absurd (full (ap length read))
    begins_by part range (suc n) (row ∷ all) found is_all some is read full few =
        subst (λ (l : Records). IsFirstHead back es range part (stand_at part l 0 is_all)) (sym read)
        (is_first part range row.0 row.1 all is (take n all) (drop n all) is_all (sym (take-append-drop n all))
        (λ told. let less = few told in drop_all n all (omega (arith, less))))

    pub begins_at : (part : ℕ) (range : Interval) (room : ℕ) (found : Records) (is_all : Bool) → 2 ≤ room →
        found ≡ take room (rows part range) → (length found ≡ 0 → ⊥) →
        (IsTrue is_all → length (rows part range) < room) →
        IsFirstHead back es range part (stand_at part found 0 is_all)
    begins_at part range room found is_all some read full few =
        begins_by part range room (rows part range) found is_all (omega (arith, some)) refl read full few

    none_by : (room : ℕ) (all found : Records) → 1 ≤ room → found ≡ take room all → length found ≡ 0 → all ≡ []
    none_by zero all found some read none = absurd (omega (arith, some))
    none_by (suc n) [] found some read none = refl
    none_by (suc n) (row ∷ all) found some read none =
        let long : length found ≡ suc (length (take n all)) = ap length read in absurd (omega (arith, long, none))

    pub begins_past : (part : ℕ) (range : Interval) (room : ℕ) (found : Records) → 2 ≤ room →
        found ≡ take room (rows part range) → length found ≡ 0 → HasNoneLive es range part
    begins_past part range room found some read none = record {
      none = λ key value inside. not_live part range key value inside (ap (row_for key)
          (none_by room (rows part range) found (omega (arith, some)) read none));
    }

    -- ---- the row after a head

    module _ (range : Interval) (h : Stand) (inside : within range h.key ≡ true) where
      abbrev behind_it : Interval
      behind_it = rest_of back range h.key

      ends : (not_above (first_key back range) h.key ≡ true) × (not_above h.key (last_key back range) ≡ true)
      ends = to_ends back range h.key inside

      -- of the range it has what is after it
      behind_inside : (key : OrderedKey) → cmp h.key key ≡ Less → within range key ≡ true →
          within behind_it key ≡ true
      behind_inside key behind there = from_rest back range h.key key (ap is_le behind) (to_ends back range key there).1

      no_next : rows h.part behind_it ≡ (h.key, h.value) ∷ [] → HasNoNext back es range h
      no_next is = record {
        none = λ key value behind there. not_live h.part behind_it key value (behind_inside key behind there)
            (ap (row_for key) is ∙ row_above key h.key h.value [] behind);
      }

      module _ (k : OrderedKey) (v : List ℕ) (rest : Records)
          (is : rows h.part behind_it ≡ (h.key, h.value) ∷ (k, v) ∷ rest) where
        rise_both : is_sorted cmp ((h.key, h.value) ∷ (k, v) ∷ rest) ≡ true
        rise_both = ap (is_sorted cmp) (sym is) ∙ (laws h.part behind_it).rise

        risen : (below_all cmp h.key ((k, v) ∷ rest) ≡ true) × (is_sorted cmp ((k, v) ∷ rest) ≡ true)
        risen = and_parts (below_all cmp h.key ((k, v) ∷ rest)) (is_sorted cmp ((k, v) ∷ rest)) rise_both

        next_behind : cmp h.key k ≡ Less
        next_behind = is_less (cmp h.key k) (and_parts (is_lt (cmp h.key k)) (below_all cmp h.key rest) risen.0).0

        passed : (q : OrderedKey) → cmp h.key q ≡ Less → row_for q (rows h.part behind_it) ≡ row_for q ((k, v) ∷ rest)
        passed q behind = ap (row_for q) is ∙ row_above q h.key h.value ((k, v) ∷ rest) behind

        next_here : (within behind_it k ≡ true) × IsLiveAt es h.part k v
        next_here = row_live h.part behind_it k v (passed k next_behind ∙ row_here k v rest)

        next_ends : (not_above h.key k ≡ true) × (not_above k (last_key back range) ≡ true)
        next_ends = to_rest back range h.key k next_here.0

        from_next : rows h.part (rest_of back range k) ≡ (k, v) ∷ rest
        from_next = ap (rows h.part) (sym (rest_twice back range h.key k)) ∙
            rows_from_it h.part behind_it k v rest (to_ends back behind_it k next_here.0).0 risen.1
            (λ q le. passed q (less_le h.key k q (cmp k q) next_behind refl le))

        next_head : (read further : Records) → rest ≡ read ++ further → (IsTrue h.is_all → further ≡ []) →
            IsNextHead back es range h
            (record { part = h.part; key = k; value = v; read = read; is_all = h.is_all })
        next_head read further split ended = record {
          head = record {
            live = next_here.1;
            inside = from_ends back range k
                (le_in_trans back (first_key back range) h.key k ends.0 next_ends.0) next_ends.1;
            reads = record { further = further; follows = from_next ∙ ap (λ l. (k, v) ∷ l) split; ended = ended };
          };
          in_part = refl;
          behind = next_behind;
          none_between = λ key value behind below. not_live h.part behind_it key value
              (from_rest back range h.key key (ap is_le behind)
              (le_in_trans back key k (last_key back range) (ap is_le below) next_ends.1))
              (passed key behind ∙ absent_below k key v rest risen.1 below);
        }

    -- ---- the same where it stands among what was read

    at_place : (found : Records) (i : ℕ) → i < length found → drop i found ≡ row_of found i ∷ drop (i + 1) found
    at_place found i inside = drop-cons found i (row_of found i) inside
        ∙ ap (λ r. r ∷ drop (suc i) found) (get_or_default found i (row_of found i) (key_least, []) inside)
        ∙ ap (λ n. row_of found i ∷ drop n found) (sym (add-one i))

    module _ (range : Interval) (part : ℕ) (found : Records) (passed : ℕ) (is_all : Bool)
        (inside : within range (stand_at part found passed is_all).key ≡ true)
        (is_ready : HasReadSome back es range (stand_at part found passed is_all)) where
      abbrev here_at : Stand
      here_at = stand_at part found passed is_all

      pub ends_here : length found ≤ passed + 1 → HasNoNext back es range here_at
      ends_here past =
          let none : drop (passed + 1) found ≡ [] = drop_all (passed + 1) found past in
          no_next range here_at inside (is_ready.reads.follows
          ∙ ap (λ l. (here_at.key, here_at.value) ∷ (l ++ is_ready.reads.further)) none
          ∙ ap (λ l. (here_at.key, here_at.value) ∷ l) (is_ready.reads.ended (is_ready.at_end none)))

      pub goes_on_here : passed + 1 < length found → IsNextHead back es range here_at
          (stand_at part found (passed + 1) is_all)
      goes_on_here more =
          let row = row_of found (passed + 1) in
          let read = drop (passed + 1 + 1) found in
          next_head range here_at inside row.0 row.1 (read ++ is_ready.reads.further)
          (is_ready.reads.follows ∙ ap (λ l. (here_at.key, here_at.value) ∷ (l ++ is_ready.reads.further))
          (at_place found (passed + 1) more)) read is_ready.reads.further refl is_ready.reads.ended

  -- ---- reading again

  none_taken : (n : ℕ) (rows : Records) → take (suc n) rows ≡ [] → rows ≡ []
  none_taken n [] h = refl
  none_taken n (row ∷ rows) h = absurd (cc)

  -- what was read anew from the record on
  pub read_anew : {es : List Entry} {range : Interval} (h : Stand) (room : ℕ) (rows : Records) (is_all : Bool) →
      2 ≤ room → HasReadOn back es range h → rows ≡ take room
      (as_read back (rows_in es h.part (rest_of back range h.key))) →
      (IsTrue is_all ↔ length (as_read back (rows_in es h.part (rest_of back range h.key))) < room) →
      HasReadSome back es range (stand_at h.part rows 0 is_all)
  read_anew h zero rows is_all some reads read told = absurd (omega (arith, some))
  read_anew h (suc zero) rows is_all some reads read told = absurd (omega (arith, some))
  read_anew {es} {range} h (suc (suc n)) rows is_all some reads read told =
      let all = h.read ++ reads.further in
      let long : length (as_read back (rows_in es h.part (rest_of back range h.key))) ≡ suc (length all) =
      ap length reads.follows in
      let is : rows ≡ (h.key, h.value) ∷ take (suc n) all = read ∙ ap (take (suc (suc n))) reads.follows in
      subst (λ (l : Records). HasReadSome back es range (stand_at h.part l 0 is_all)) (sym is) (record {
        reads = record {
          further = drop (suc n) all;
          follows = reads.follows ∙ ap (λ l. (h.key, h.value) ∷ l) (sym (take-append-drop (suc n) all));
          ended = λ short. let less = told.0 short in drop_all (suc n) all (omega (arith, long, less));
        };
        at_end = λ none. let one : length all ≡ 0 = ap length (none_taken n all none) in
            told.1 (omega (arith, long, one));
      })

  pub same_old : {es : List Entry} {range : Interval} {old now new : Stand} → now.part ≡ old.part → now.key ≡ old.key →
      IsNextHead back es range now new → IsNextHead back es range old new
  same_old {es} {range} {old} {now} {new} same_part same_key moved = record {
    head = moved.head;
    in_part = moved.in_part ∙ same_part;
    behind = subst (λ k. cmp k new.key ≡ Less) same_key moved.behind;
    none_between = λ key value above below live. moved.none_between key value
        (subst (λ k. cmp k key ≡ Less) (sym same_key) above) below
        (subst (λ p. IsLiveAt es p key value) (sym same_part) live);
  }

  pub none_of_old : {es : List Entry} {range : Interval} {old now : Stand} → now.part ≡ old.part → now.key ≡ old.key →
      HasNoNext back es range now → HasNoNext back es range old
  none_of_old {es} {range} {old} {now} same_part same_key ended = record {
    none = λ key value above inside live. ended.none key value
        (subst (λ k. cmp k key ≡ Less) (sym same_key) above) inside
        (subst (λ p. IsLiveAt es p key value) (sym same_part) live);
  }
