-- Walks over the children of a node.
use Rattle.std.proofs.Common.{◌≡◌, ◌≢◌, ℕ, zero, suc, ◌+◌, ◌<◌, ◌≤◌, true, false, List, [], ◌∷◌, ◌++◌, length, get_or}
use Rattle.std.proofs.Common.{take}
use Rattle.std.proofs.Common.{drop, reverse, Option, Some, None, sym, ap, ◌∙◌, subst, inl, inr, ◌⊎◌, append_assoc}
use Rattle.std.proofs.Common.{append-nil, length-take, set}
use Rattle.std.proofs.lemmas.List.{set_split}
use Rattle.std.proofs.Common.{add-one, arith}
use Rattle.std.proofs.lemmas.List.{drop_all, get_or_default, reverse-append}
use Rattle.std.proofs.Math.Seq.{drop-cons, take-suc}
use Rattle.std.specs.List.{AllByRecursion}
use Rattle.std.specs.declared.cmp.Ordering.TheVariants.{Less, Greater}
use Rattle.std.specs.Ordering.{is_le}
use Rattle.am_record.specs.OrderedKey.{OrderedKey}
use Rattle.am_record.specs.Interval.{Interval}
use Rattle.am_record.specs.declared.entry.Entry.{Entry}
use Rattle.am_record.specs.EntryOrder.{Place, place_of, place_cmp, place_cmp-part}
use Rattle.am_record.proofs.Lists.{AllByRecursion-map, AllByRecursion-append, AllByRecursion-at}
use Rattle.am_record.proofs.Orderings.{le_not_greater}
use Rattle.am_record.proofs.PlaceOrder.{turned_greater}
use Rattle.std.specs.Option.{option_map}
use Rattle.am_index.specs.Entries.{slot_of, entry_at, find}
use Rattle.am_index.specs.Places.{AllBelow, NoneBelow, AllAbove}
use Rattle.am_index.proofs.Lists.{entry_at-append}
use Rattle.am_index.proofs.Batches.{take_both, take_full, take_whole, all_reached-append, all_reached_none}
use Rattle.am_index.proofs.Batches.{all_reached_others}
use Rattle.am_index.specs.Content.{rows_in}
use Rattle.am_index.proofs.Rows.{rows_in-append, rows_below, rows_above}
use Rattle.am_index_btree.specs.declared.separator.Separator.{Separator}
use Rattle.am_index_btree.specs.declared.read.Start.{Start}
use Rattle.am_index_btree.specs.declared.read.Wanted.{Wanted}
use Rattle.am_index_btree.specs.declared.read.Beginning.{Beginning}
use Rattle.am_index_btree.specs.Seek.{is_reached, is_onward, first_wanted, all_such, IsChildFrom}
use Rattle.am_index_btree.specs.Shape.{Shape}
use Rattle.am_index_btree.specs.Separators.{separator_place, IsChildFor}
use Rattle.am_index_btree.specs.Nodes.{all_entries, AreParted, AreChildren}
use Rattle.am_index_btree.proofs.Children.{all_below_through, children_above, above_through, entry_at-front}
use Rattle.am_index_btree.proofs.ChildHalves.{AreParted-drop, all_entries-append, all_entries_cut, parted_cut}
use Rattle.am_index_btree.proofs.ChildHalves.{parted_lengths}
use Rattle.am_index_btree.proofs.Inner.{IsOver}
use Rattle.am_index_btree.proofs.SeparatorReach.{le_false}
use Rattle.am_index_btree.proofs.Seeks.{wanted_past, wanted_here, wanted_later, all_onward, reached_less}
use Rattle.am_index_btree.proofs.Seeks.{reached_greater}

-- the first child of the rest
pub rest_cut : (ks : List Shape) (i : ℕ) (k : Shape) → i < length ks → k ≡ get_or ks i k →
    all_entries (drop i ks) ≡ k.entries ++ all_entries (drop (suc i) ks)
rest_cut ks i k within here = ap all_entries (drop-cons ks i k within) ∙
    ap (λ (s : Shape). s.entries ++ all_entries (drop (suc i) ks)) (sym here)

-- the entries before a child, its own, and those behind it
pub children_cut : (ks : List Shape) (i : ℕ) (k : Shape) → i < length ks → k ≡ get_or ks i k →
    all_entries ks ≡ all_entries (take i ks) ++ (k.entries ++ all_entries (drop (suc i) ks))
children_cut ks i k within here = sym (all_entries_cut i ks) ∙ ap (λ es. all_entries (take i ks) ++ es)
    (rest_cut ks i k within here)

-- and with another child there
pub children_set : (ks : List Shape) (i : ℕ) (k : Shape) → i < length ks →
    all_entries (set ks i k) ≡ all_entries (take i ks) ++ (k.entries ++ all_entries (drop (suc i) ks))
children_set ks i k within = ap all_entries (set_split ks i k within) ∙
    all_entries-append (take i ks) (k ∷ drop (suc i) ks)

-- ---- a list that is filled up to a number

-- it was filled so far: with what is left it gets what it gets of all
pub record IsWalked {X : Type 0} (max : ℕ) (old new left all : List X) : Type 0 where
  pub fits : length new ≤ max
  pub same : take max (new ++ left) ≡ take max (old ++ all)

module _ {X : Type 0} {max : ℕ} {old new left all : List X} (w : IsWalked max old new left all) where
  pub walk_on : (xs rest now : List X) → left ≡ xs ++ rest → now ≡ take max (new ++ xs) → IsWalked max old now rest all
  walk_on xs rest now is read = record {
    fits = omega (arith, ap length read, length-take max (new ++ xs));
    same =
        ap (λ l. take max (l ++ rest)) read ∙ take_both max (new ++ xs) rest
        ∙ ap (take max) (append_assoc new xs rest ∙ ap (λ l. new ++ l) (sym is)) ∙ w.same;
  }

  pub walk_full : max ≤ length new → new ≡ take max (old ++ all)
  walk_full full = sym (take_full max new left (omega (arith, w.fits, full))) ∙ w.same

  pub walk_out : left ≡ [] → new ≡ take max (old ++ all)
  walk_out none = sym (ap (λ l. take max (new ++ l)) none ∙ take_whole max new w.fits) ∙ w.same

-- ---- the children before the one for a place, and after it

module _ (part : ℕ) (key : OrderedKey) where
  abbrev p : Place
  p = (part, key)

  below_child : (ls : List Separator) (ks : List Shape) (i : ℕ) → AreParted ls ks → i < length ls
      → (i ≡ 0) ⊎ ((d : Separator) → place_cmp (separator_place (get_or ls i d)) p ≢ Greater) →
      AllBelow p (all_entries (take i ks))
  below_child ls ks zero a lt reached = tt
  below_child [] ks (suc i) a lt reached = absurd (omega arith)
  below_child (l ∷ ls) [] (suc i) a lt reached = absurd (omega (arith, a))
  below_child (l ∷ ls) (k ∷ ks) (suc i) a lt (inl none) = absurd (omega arith)
  below_child (l ∷ ls) (k ∷ ks) (suc i) a lt (inr reached) =
      let later = AllByRecursion-at (λ n. AllBelow (separator_place n) k.entries) ls i l a.1 (omega arith) in
      AllByRecursion-append (λ e. place_cmp (place_of e) p ≡ Less) k.entries (all_entries (take i ks))
      (all_below_through (separator_place (get_or ls i l)) p k.entries later (reached l))
      (below_child ls ks i a.2 (omega arith) (inr reached))

  such_none : (start : Start) (xs : List Entry) → AllBelow p xs → all_such start xs part key ≡ []
  such_none start xs b = all_reached_none part key (is_reached start) xs
      (AllByRecursion-map (λ e. place_cmp (place_of e) p ≡ Less)
      (λ e. is_reached start (place_cmp (place_of e) p) ≡ false)
      (λ e h. reached_less start (place_cmp (place_of e) p) h) xs b)

  module _ (d : ℕ) (ls : List Separator) (ks : List Shape) (c : AreChildren d ls ks) (i : ℕ)
      (child : IsChildFor ls part key i) where
    pub below : AllBelow p (all_entries (take i ks))
    below = below_child ls ks i c.parted child.in_range child.reached

    pub above : AllAbove p (all_entries (drop (suc i) ks))
    above = children_above p (drop (suc i) ls) (drop (suc i) ks) (AreParted-drop (suc i) ls ks c.parted) child.above

    module _ (k : Shape) (here : k ≡ get_or ks i k) where
      -- the entry of the place stands in the child
      pub entry_in_child : entry_at (all_entries ks) part key ≡ entry_at k.entries part key
      entry_in_child =
          ap (λ es. entry_at es part key) (children_cut ks i k (omega (
            arith,
            child.in_range,
            parted_lengths ls ks
                c.parted,
          )) here) ∙
          entry_at-append part key (all_entries (take i ks)) (k.entries ++ all_entries (drop (suc i) ks)) below ∙
          entry_at-front part key k.entries (all_entries (drop (suc i) ks)) above

      pub find_in_child : find (all_entries ks) part key ≡ find k.entries part key
      find_in_child = ap (option_map slot_of) entry_in_child

    -- reading on begins in the child
    pub read_from : (start : Start) → all_such start (all_entries (drop i ks)) part key ≡ all_such start
        (all_entries ks) part key
    read_from start =
        ap (λ es. es ++ all_such start (all_entries (drop i ks)) part key)
        (sym (such_none start (all_entries (take i ks)) below))
        ∙ sym (all_reached-append part key (is_reached start) (all_entries (take i ks)) (all_entries (drop i ks))) ∙
        ap (λ es. all_such start es part key) (all_entries_cut i ks)

  -- ---- reading on

  -- the next child, and those behind it
  pub read_next : (start : Start) (ks : List Shape) (i : ℕ) (k : Shape) → i < length ks → k ≡ get_or ks i k →
      all_such start (all_entries (drop i ks)) part key ≡ all_such start k.entries part key ++
      all_such start (all_entries (drop (i + 1) ks)) part key
  read_next start ks i k lt here = ap (λ es. all_such start es part key) (rest_cut ks i k lt here) ∙
      all_reached-append part key (is_reached start) k.entries (all_entries (drop (suc i) ks)) ∙
      ap (λ (n : ℕ). all_such start k.entries part key ++ all_such start (all_entries (drop n ks)) part key)
      (sym (add-one i))

  none_in_part : (start : Start) (l : Place) (es : List Entry) → part < l.0 → NoneBelow l es →
      all_such start es part key ≡ []
  none_in_part start l es lt n =
      all_reached_others part key (is_reached start) es
      (AllByRecursion-map (λ e. place_cmp (place_of e) l ≢ Less) (λ e. e.part ≢ part)
      (λ e h same. let up : l.0 ≤ e.part = place_cmp-part l (place_of e) (λ g. h (turned_greater l (place_of e) g))
      in absurd (omega (arith, same))) es n)

  none_below_rest : (ls : List Separator) (ks : List Shape) (i : ℕ) (d : Separator) → AreParted ls ks →
      (1 < length ks → AllByRecursion (λ (j : Shape). 0 < length j.entries) ks) → i < length ls
      → NoneBelow (separator_place (get_or ls i d)) (all_entries (drop i ks))
  none_below_rest [] ks i d a filled lt = absurd (omega arith)
  none_below_rest (l ∷ ls) [] i d a filled lt = absurd (omega (arith, a))
  none_below_rest (l ∷ ls) (k ∷ []) zero d a filled lt = subst (NoneBelow (separator_place l))
      (sym (append-nil k.entries)) a.0
  none_below_rest (l ∷ ls) (k ∷ []) (suc i) d a filled lt = absurd (omega (arith, parted_lengths ls [] a.2))
  none_below_rest (l ∷ ls) (k ∷ j ∷ ks) i d a filled lt =
      (parted_cut i (l ∷ ls) (k ∷ j ∷ ks) d a (filled (omega arith)) lt).1

  -- nothing is left of the partition where the next child begins in a later one
  pub nothing_left : (start : Start) (d : ℕ) (ls : List Separator) (ks : List Shape) → AreChildren d ls ks →
      (i : ℕ) (l : Separator) → i < length ls → l ≡ get_or ls i l → part < l.part →
      all_such start (all_entries (drop i ks)) part key ≡ []
  nothing_left start d ls ks c i l lt here up =
      none_in_part start (separator_place l) (all_entries (drop i ks)) up
      (subst (λ (m : Separator). NoneBelow (separator_place m) (all_entries (drop i ks))) (sym here)
      (none_below_rest ls ks i l c.parted c.filled lt))

-- ---- the child with which a search begins

pub child_within : {s : Shape} {ls : List Separator} {ks : List Shape} {rk : ℕ} → IsOver s ls ks rk →
    (from : Option Beginning) (i : ℕ) → IsChildFrom from ls i → i < length ks
child_within node None i first = omega (arith, node.inner.some, first)
child_within node (Some from) i child = omega (arith, child.in_range, node.as_many)

module _ (wanted : Wanted) (d : ℕ) (ls : List Separator) (ks : List Shape) (c : AreChildren d ls ks) where
  -- the children before it are passed over, and those behind it stand from there on
  pub search_from : (from : Option Beginning) (i : ℕ) → IsChildFrom from ls i →
      (first_wanted wanted from (all_entries (drop i ks)) ≡ first_wanted wanted from (all_entries ks))
      × AllByRecursion (λ e. is_onward from e ≡ true) (all_entries (drop (suc i) ks))
  search_from None i first = (
    ap (λ n. first_wanted wanted None (all_entries (drop n ks))) first,
    all_onward (all_entries (drop (suc i) ks)),
  )
  search_from (Some from) i child =
      let p : Place = (from.part, from.key) in (
        sym (ap (first_wanted wanted (Some from)) (sym (all_entries_cut i ks)) ∙
            wanted_past wanted (Some from) (all_entries (take i ks)) (all_entries (drop i ks))
            (AllByRecursion-map (λ e. place_cmp (place_of e) p ≡ Less) (λ e. is_onward (Some from) e ≡ false)
            (λ e h. reached_less from.start (place_cmp (place_of e) p) h) (all_entries (take i ks))
            (below from.part from.key d ls ks c i child))),
        AllByRecursion-map (λ e. place_cmp (place_of e) p ≡ Greater) (λ e. is_onward (Some from) e ≡ true)
            (λ e h. reached_greater from.start (place_cmp (place_of e) p) h) (all_entries (drop (suc i) ks))
            (above from.part from.key d ls ks c i child),
      )

module _ (wanted : Wanted) (from : Option Beginning) (ks : List Shape) (i : ℕ) where
  -- what is found in the next child
  pub search_here : (k : Shape) → i < length ks → k ≡ get_or ks i k → (e : Entry) →
      Some e ≡ first_wanted wanted from k.entries → Some e ≡ first_wanted wanted from (all_entries (drop i ks))
  search_here k within here e found = wanted_here wanted from k.entries (all_entries (drop (suc i) ks)) e found ∙
      ap (first_wanted wanted from) (sym (rest_cut ks i k within here))

  -- where nothing is, it goes on with the one after it
  pub search_on : (k : Shape) → i < length ks → k ≡ get_or ks i k → None ≡ first_wanted wanted from k.entries →
      AllByRecursion (λ e. is_onward from e ≡ true) (all_entries (drop (suc i) ks)) →
      first_wanted wanted None (all_entries (drop (i + 1) ks)) ≡ first_wanted wanted from (all_entries (drop i ks))
  search_on k within here none behind =
      ap (λ (n : ℕ). first_wanted wanted None (all_entries (drop n ks))) (add-one i) ∙
      wanted_later wanted from k.entries (all_entries (drop (suc i) ks)) none behind ∙
      ap (first_wanted wanted from) (sym (rest_cut ks i k within here))

  -- up to the last one
  pub search_ends : length ks ≤ i → None ≡ first_wanted wanted from (all_entries (drop i ks))
  search_ends past = sym (ap (λ (l : List Shape). first_wanted wanted from (all_entries l)) (drop_all i ks past))

-- ---- rows copied from the children

module _ (part : ℕ) (range : Interval) where
  -- they begin in the child for the range's least key
  pub rows_from : (d : ℕ) (ls : List Separator) (ks : List Shape) → AreChildren d ls ks → (i : ℕ) →
      IsChildFor ls part range.lo i → rows_in (all_entries (drop i ks)) part range ≡ rows_in (all_entries ks) part range
  rows_from d ls ks c i child =
      ap (λ l. l ++ rows_in (all_entries (drop i ks)) part range)
      (sym (rows_below part range (all_entries (take i ks)) (below part range.lo d ls ks c i child)))
      ∙ sym (rows_in-append part range (all_entries (take i ks)) (all_entries (drop i ks))) ∙
      ap (λ es. rows_in es part range) (all_entries_cut i ks)

  pub rows_next : (ks : List Shape) (i : ℕ) (k : Shape) → i < length ks → k ≡ get_or ks i k →
      rows_in (all_entries (drop i ks)) part range ≡ rows_in k.entries part range ++
      rows_in (all_entries (drop (i + 1) ks)) part range
  rows_next ks i k lt here = ap (λ es. rows_in es part range) (rest_cut ks i k lt here) ∙
      rows_in-append part range k.entries (all_entries (drop (suc i) ks)) ∙
      ap (λ (n : ℕ). rows_in k.entries part range ++ rows_in (all_entries (drop n ks)) part range) (sym (add-one i))

  -- none is left where the next child begins above the range
  pub no_rows_left : (d : ℕ) (ls : List Separator) (ks : List Shape) → AreChildren d ls ks → (i : ℕ) (l : Separator) →
      i < length ls → l ≡ get_or ls i l → is_le (place_cmp (separator_place l) (part, range.hi)) ≡ false
      → rows_in (all_entries (drop i ks)) part range ≡ []
  no_rows_left d ls ks c i l lt here past =
      rows_above part range (all_entries (drop i ks))
      (AllByRecursion-map (λ e. place_cmp (place_of e) (separator_place l) ≢ Less)
      (λ e. place_cmp (place_of e) (part, range.hi) ≡ Greater)
      (λ e h. from_above (separator_place l) (part, range.hi) (place_of e) past h)
      (all_entries (drop i ks)) (subst (λ (m : Separator). NoneBelow (separator_place m) (all_entries (drop i ks)))
      (sym here) (none_below_rest part range.hi ls ks i l c.parted c.filled lt)))
    where
      from_above : (a p e : Place) → is_le (place_cmp a p) ≡ false → place_cmp e a ≢ Less → place_cmp e p ≡ Greater
      from_above a p e past h = above_through e a p h (le_false (place_cmp a p) past)

  -- ---- from the highest key down

  -- they end in the child for the range's greatest key
  pub rows_up_to : (d : ℕ) (ls : List Separator) (ks : List Shape) → AreChildren d ls ks → (i : ℕ) →
      IsChildFor ls part range.hi i →
      rows_in (all_entries (take (i + 1) ks)) part range ≡ rows_in (all_entries ks) part range
  rows_up_to d ls ks c i child =
      ap (λ n. rows_in (all_entries (take n ks)) part range) (add-one i)
      ∙ sym (append-nil (rows_in (all_entries (take (suc i) ks)) part range))
      ∙ ap (λ l. rows_in (all_entries (take (suc i) ks)) part range ++ l)
      (sym (rows_above part range (all_entries (drop (suc i) ks)) (above part range.hi d ls ks c i child)))
      ∙ sym (rows_in-append part range (all_entries (take (suc i) ks)) (all_entries (drop (suc i) ks))) ∙
      ap (λ es. rows_in es part range) (all_entries_cut (suc i) ks)

  pub rows_before : (ks : List Shape) (i n : ℕ) (k : Shape) → i < length ks → k ≡ get_or ks i k → n ≡ i + 1 →
      reverse (rows_in (all_entries (take n ks)) part range) ≡ reverse (rows_in k.entries part range) ++
      reverse (rows_in (all_entries (take i ks)) part range)
  rows_before ks i n k lt here next =
      let left = all_entries (take i ks) in
      let whole : all_entries (take n ks) ≡ left ++ k.entries =
      ap (λ (m : ℕ). all_entries (take m ks)) (next ∙ add-one i) ∙ ap all_entries (take-suc ks i k lt)
      ∙ all_entries-append (take i ks) (get_or ks i k ∷ [])
      ∙ ap (λ es. left ++ es) (append-nil (get_or ks i k).entries)
      ∙ ap (λ (s : Shape). left ++ s.entries) (sym here) in
      ap (λ es. reverse (rows_in es part range)) whole ∙ ap reverse (rows_in-append part range left k.entries) ∙
      reverse-append (rows_in left part range) (rows_in k.entries part range)

  -- none is left where the child begins at or below the range
  pub no_rows_before : (d : ℕ) (ls : List Separator) (ks : List Shape) → AreChildren d ls ks → (i : ℕ)
      (l : Separator) → i < length ls → l ≡ get_or ls i l →
      is_le (place_cmp (separator_place l) (part, range.lo)) ≡ true
      → rows_in (all_entries (take i ks)) part range ≡ []
  no_rows_before d ls ks c i l lt here begins =
      rows_below part range (all_entries (take i ks)) (below_child part range.lo ls ks i c.parted lt
      (inr (λ e. le_not_greater (place_cmp (separator_place (get_or ls i e)) (part, range.lo))
      (ap (λ (m : Separator). is_le (place_cmp (separator_place m) (part, range.lo)))
      (sym (here ∙ get_or_default ls i l e lt)) ∙ begins))))
