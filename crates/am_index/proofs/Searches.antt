-- What a binary search by place finds in a rising list.
use Rattle.std.proofs.Common.{◌≡◌, ◌≢◌, ℕ, zero, suc, ◌+◌, ◌-◌, ◌<◌, ◌≤◌, List, [], ◌∷◌, ◌++◌, length, get_or, set}
use Rattle.std.proofs.Common.{take, drop, Bool, Some, None, Result, Ok, Err, IfOk, IfErr, refl, sym, ap, ◌∙◌, subst}
use Rattle.std.proofs.Common.{arith}
use Rattle.std.proofs.lemmas.List.{take-append-drop, set_split, take_more, take_all, length-drop}
use Rattle.std.proofs.Math.Seq.{drop-cons}
use Rattle.std.specs.List.{insert, remove, slice_get, AllByRecursion}
use Rattle.std.specs.Option.{option_map}
use Rattle.std.specs.declared.cmp.Ordering.{Ordering}
use Rattle.std.specs.declared.cmp.Ordering.TheVariants.{Less, Equal, Greater}
use Rattle.std.specs.Ordering.{ordering_index}
use Rattle.std.specs.List.Sorted.{IsSearchInRange, IsBinarySearchResult, IsNonDecreasingBy}
use Rattle.am_record.specs.OrderedKey.{OrderedKey}
use Rattle.am_record.specs.declared.entry.Entry.{Entry}
use Rattle.am_record.specs.EntryOrder.{Place, place_of, place_cmp}
use Rattle.am_record.proofs.Lists.{AllByRecursion-map, AllByRecursion-append, AllByRecursion-back, some_item}
use Rattle.am_record.proofs.Lists.{AllByRecursion-at}
use Rattle.am_record.proofs.PlaceOrder.{below_same, ranks_rise}
use Rattle.am_index.specs.Entries.{first_such, entry_at, find, next_any, next_ghost, next_from, after, insert_entry}
use Rattle.am_index.specs.Entries.{set_entry, remove_entry, IsRising}
use Rattle.am_index.specs.Places.{AllBelow, NoneBelow, AllAbove, NoneAbove, IsPlaceOf, IsGapFor, IsLowerBound}
use Rattle.am_index.specs.Places.{IsUpperBound, only_of}
use Rattle.am_index.proofs.Lists.{rising_back, rising_above, rising_insert, rising_remove, rising_set, entry_at-append}
use Rattle.am_index.proofs.Lists.{entry_at_here, entry_at_none, next_any-append, next_any_front, next_ghost-append}
use Rattle.am_index.proofs.Lists.{next_ghost_front, next_from_front, after_front, next_from-append, after-append}
use Rattle.am_index.proofs.Lists.{set_entry-append, remove_entry-append, insert_entry-append}

pub all_take : {X : Type 0} (P : X → Type 0) (xs : List X) (i : ℕ) → i ≤ length xs →
    ((k : ℕ) (d : X) → k < i → P (get_or xs k d)) → AllByRecursion P (take i xs)
all_take P [] i le f = subst (λ l. AllByRecursion P l) (sym (take_nothing i)) tt
  where
    take_nothing : {X : Type 0} (i : ℕ) → take i (let none : List X = [] in none) ≡ []
    take_nothing zero = refl
    take_nothing (suc i) = refl
all_take P (x ∷ xs) zero le f = tt
all_take P (x ∷ xs) (suc i) le f = (
  f 0 x (omega arith),
  all_take P xs i (omega arith) (λ k d lt. f (suc k) d (omega arith)),
)

pub all_drop : {X : Type 0} (P : X → Type 0) (xs : List X) (i : ℕ) →
    ((k : ℕ) (d : X) → i ≤ k → k < length xs → P (get_or xs k d)) → AllByRecursion P (drop i xs)
all_drop P [] zero f = tt
all_drop P [] (suc i) f = tt
all_drop P (x ∷ xs) zero f = (
  f 0 x (omega arith) (omega arith),
  all_drop P xs 0 (λ k d le lt. f (suc k) d (omega arith) (omega arith)),
)
all_drop P (x ∷ xs) (suc i) f = all_drop P xs i (λ k d le lt. f (suc k) d (omega arith) (omega arith))

module _ (p : Place) where
  abbrev c : Entry → Ordering
  c e = place_cmp (place_of e) p

  comparisons_rise : (es : List Entry) → IsRising es → IsNonDecreasingBy (λ e. ordering_index (c e)) es
  comparisons_rise [] r i j d le lt = absurd (omega arith)
  comparisons_rise (e ∷ es) r zero zero d le lt = omega arith
  comparisons_rise (e ∷ es) r zero (suc j) d le lt = ranks_rise (place_of e) (place_of (get_or es j d)) p
      (AllByRecursion-at (λ f. place_cmp (place_of e) (place_of f) ≡ Less) es j d r.0 (omega arith))
  comparisons_rise (e ∷ es) r (suc i) zero d le lt = absurd (omega arith)
  comparisons_rise (e ∷ es) r (suc i) (suc j) d le lt = comparisons_rise es r.1 i j d (omega arith) (omega arith)

  below_equal : (xs : List Entry) (y : Entry) (ys : List Entry) → IsRising (xs ++ y ∷ ys) → c y ≡ Equal → AllBelow p xs
  below_equal [] y ys r h = tt
  below_equal (e ∷ xs) y ys r h =
      let P : Entry → Type 0 = λ f. place_cmp (place_of e) (place_of f) ≡ Less in
      let back : AllByRecursion P (y ∷ ys) = AllByRecursion-back P xs (y ∷ ys) r.0 in
      (below_same (place_of e) (place_of y) p back.0 h, below_equal xs y ys r.1 h)

-- a list, cut before the entry at i
pub cut_at : (es : List Entry) (i : ℕ) (d : Entry) → i < length es → es ≡ take i es ++ get_or es i d ∷ drop (suc i) es
cut_at es i d lt = sym (take-append-drop i es) ∙ ap (λ l. take i es ++ l) (drop-cons es i d lt)

-- a binary search by place ends at the place, or at the gap for it
pub searched : (es : List Entry) → IsRising es → (part : ℕ) (key : OrderedKey) (r : Result ℕ ℕ) →
    IsSearchInRange r (length es) → IsBinarySearchResult (λ e. place_cmp (place_of e) (part, key)) es r
    → IfOk r (IsPlaceOf es part key) × IfErr r (IsGapFor es part key)
searched es rising part key (Ok at) in_range equal =
    let d = some_item es at in_range in
    let split = cut_at es at d in_range in
    let risen : IsRising (take at es ++ get_or es at d ∷ drop (suc at) es) = subst IsRising split rising in
    let not_less : place_cmp (place_of (get_or es at d)) (part, key) ≢ Less = λ less. absurd (cc (equal d)) in (
      record {
        in_range = in_range;
        below = below_equal (part, key) (take at es) (get_or es at d) (drop (suc at) es) risen (equal d);
        here = equal;
        above = rising_above (part, key) (get_or es at d) (drop (suc at) es) not_less
            (rising_back (take at es) _ risen);
      },
      tt,
    )
searched es rising part key (Err at) in_range parted =
    let sides = parted (comparisons_rise (part, key) es rising) in (
      tt,
      record {
        in_range = in_range;
        below = all_take _ es at in_range (λ k d lt. sides.0 k d (omega arith) lt);
        above = all_drop _ es at (λ k d le lt. sides.1 k d le lt);
      },
    )

-- the slice from an index on
pub whole_rest : {X : Type 0} (from : ℕ) (xs : List X) → take (length xs - from) (drop from xs) ≡ drop from xs
whole_rest from xs = take_all (length xs - from) (drop from xs) (omega (arith, length-drop from xs))

pub slice_get-drop : (es : List Entry) (i : ℕ) → slice_get (drop i es) 0 ≡ slice_get es i
slice_get-drop [] zero = refl
slice_get-drop [] (suc i) = refl
slice_get-drop (e ∷ es) zero = refl
slice_get-drop (e ∷ es) (suc i) = slice_get-drop es i

module _ (es : List Entry) (part : ℕ) (key : OrderedKey) (i : ℕ) where
  rest_is : (e : Entry) → i < length es → e ≡ get_or es i e → drop i es ≡ e ∷ drop (suc i) es
  rest_is e lt h = drop-cons es i e lt ∙ ap (λ x. x ∷ drop (suc i) es) (sym h)

  whole : take i es ++ drop i es ≡ es
  whole = take-append-drop i es

  whole_is : (e : Entry) → i < length es → e ≡ get_or es i e → take i es ++ e ∷ drop (suc i) es ≡ es
  whole_is e lt h = ap (λ l. take i es ++ l) (sym (rest_is e lt h)) ∙ whole

  -- ---- the entry of the place, or none

  pub entry_at_found : IsPlaceOf es part key i → (e : Entry) → e ≡ get_or es i e → entry_at es part key ≡ Some e
  entry_at_found f e h =
      sym (ap (λ l. entry_at l part key) (whole_is e f.in_range h)) ∙ entry_at-append part key (take i es)
      (e ∷ drop (suc i) es) f.below
      ∙ entry_at_here part key e (drop (suc i) es) (subst (λ (x : Entry). place_cmp (place_of x) (part, key) ≡ Equal)
      (sym h) (f.here e))

  pub entry_at_absent : IsGapFor es part key i → entry_at es part key ≡ None
  entry_at_absent f = sym (ap (λ l. entry_at l part key) whole) ∙ entry_at-append part key (take i es) (drop i es)
      f.below ∙ entry_at_none part key (drop i es) f.above

  pub find_found : IsPlaceOf es part key i → (e : Entry) → e ≡ get_or es i e →
      find es part key ≡ Some (e.value, e.is_ghost)
  find_found f e h = ap (option_map (λ (x : Entry). (x.value, x.is_ghost))) (entry_at_found f e h)

  pub find_absent : IsGapFor es part key i → find es part key ≡ None
  find_absent f = ap (option_map (λ (x : Entry). (x.value, x.is_ghost))) (entry_at_absent f)

  pub find_present : IsPlaceOf es part key i → find es part key ≢ None
  find_present f none = let d = some_item es i f.in_range in let e = get_or es i d in
      absurd (cc (find_found f e (same_default es i d e f.in_range)))
    where
      same_default : {X : Type 0} (xs : List X) (k : ℕ) (c d : X) → k < length xs → get_or xs k c ≡ get_or xs k d
      same_default [] k c d lt = absurd (omega arith)
      same_default (x ∷ xs) zero c d lt = refl
      same_default (x ∷ xs) (suc k) c d lt = same_default xs k c d (omega arith)

  -- ---- the bounds

  not_less : (e : Entry) → place_cmp (place_of e) (part, key) ≢ Less → place_cmp (place_of e) (part, key) ≢ Less
  not_less e n = n

  pub lower_from_place : IsPlaceOf es part key i → IsLowerBound es part key i
  lower_from_place f =
      let d = some_item es i f.in_range in
      record {
        in_range = omega (arith, f.in_range);
        below = f.below;
        others = subst (NoneBelow (part, key)) (sym (drop-cons es i d f.in_range)) (
          (λ less. absurd (cc (f.here d))),
          AllByRecursion-map (λ e. place_cmp (place_of e) (part, key) ≡ Greater)
              (λ e. place_cmp (place_of e) (part, key) ≢ Less) (λ e g less. absurd (cc)) (drop (suc i) es) f.above,
        );
      }

  pub lower_from_gap : IsGapFor es part key i → IsLowerBound es part key i
  lower_from_gap f = record {
    in_range = f.in_range;
    below = f.below;
    others = AllByRecursion-map (λ e. place_cmp (place_of e) (part, key) ≡ Greater)
        (λ e. place_cmp (place_of e) (part, key) ≢ Less) (λ e g less. absurd (cc)) (drop i es) f.above;
  }

  none_above : (xs : List Entry) → AllBelow (part, key) xs → NoneAbove (part, key) xs
  none_above xs b = AllByRecursion-map (λ e. place_cmp (place_of e) (part, key) ≡ Less)
      (λ e. place_cmp (place_of e) (part, key) ≢ Greater) (λ e l g. absurd (cc)) xs b

  pub upper_from_gap : IsGapFor es part key i → IsUpperBound es part key i
  upper_from_gap f = record { in_range = f.in_range; others = none_above (take i es) f.below; above = f.above }

  pub upper_from_place : IsPlaceOf es part key i → IsUpperBound es part key (i + 1)
  upper_from_place f =
      let d = some_item es i f.in_range in
      let more : take (i + 1) es ≡ take i es ++ get_or es i d ∷ [] = take_more es i d f.in_range in
      record {
        in_range = omega (arith, f.in_range);
        others = subst (NoneAbove (part, key)) (sym more)
            (AllByRecursion-append (λ e. place_cmp (place_of e) (part, key) ≢ Greater) (take i es) (get_or es i d ∷ [])
            (none_above (take i es) f.below) ((λ g. absurd (cc (f.here d))), tt));
        above = subst (λ k. AllAbove (part, key) (drop k es)) {x = suc i} (omega arith) f.above;
      }

  -- ---- the walks

  first_left : slice_get (drop i es) 0 ≡ slice_get es i
  first_left = slice_get-drop es i

  pub next_any_at : IsLowerBound es part key i → slice_get es i ≡ next_any es part key
  next_any_at b =
      sym (sym (ap (λ l. next_any l part key) whole) ∙ next_any-append part key (take i es) (drop i es) b.below ∙
      next_any_front part key (drop i es) b.others ∙ first_left)

  pub next_ghost_at : IsLowerBound es part key i → first_such (λ e. e.is_ghost) (drop i es) ≡ next_ghost es part key
  next_ghost_at b =
      sym (sym (ap (λ l. next_ghost l part key) whole) ∙ next_ghost-append part key (take i es) (drop i es) b.below ∙
      next_ghost_front part key (drop i es) b.others)

  risen_rest : IsRising es → IsRising (drop i es)
  risen_rest rising = rising_back (take i es) (drop i es) (subst IsRising (sym whole) rising)

  pub next_from_at : IsLowerBound es part key i → IsRising es → only_of part (slice_get es i) ≡ next_from es part key
  next_from_at b rising =
      sym (sym (ap (λ l. next_from l part key) whole) ∙ next_from-append part key (take i es) (drop i es) b.below ∙
      next_from_front part key (drop i es) (risen_rest rising) b.others ∙ ap (only_of part) first_left)

  pub after_at : IsUpperBound es part key i → IsRising es → only_of part (slice_get es i) ≡ after es part key
  after_at b rising =
      sym (sym (ap (λ l. after l part key) whole) ∙ after-append part key (take i es) (drop i es) b.others ∙
      after_front part key (drop i es) (risen_rest rising) b.above ∙ ap (only_of part) first_left)

  -- ---- the edits

  pub set_found : IsPlaceOf es part key i → (e : Entry) → e ≡ get_or es i e → (value : List ℕ) (is_ghost : Bool)
      → (set es i (record e { value = value; is_ghost = is_ghost }) ≡ set_entry es part key value is_ghost)
  set_found f e h value is_ghost =
      let new : Entry = record e { value = value; is_ghost = is_ghost } in
      set_split es i new f.in_range ∙ sym (set_entry-append part key (take i es) e (drop (suc i) es) value is_ghost
      f.below (subst (λ (x : Entry). place_cmp (place_of x) (part, key) ≡ Equal) (sym h) (f.here e)))
      ∙ ap (λ l. set_entry l part key value is_ghost) (whole_is e f.in_range h)

  pub rising_set_found : IsRising es → IsPlaceOf es part key i → (e : Entry) → e ≡ get_or es i e →
      (value : List ℕ) (is_ghost : Bool) → IsRising (set es i (record e { value = value; is_ghost = is_ghost }))
  rising_set_found rising f e h value is_ghost =
      let new : Entry = record e { value = value; is_ghost = is_ghost } in
      subst IsRising (sym (set_split es i new f.in_range))
      (rising_set (take i es) e new (drop (suc i) es) refl (subst IsRising (sym (whole_is e f.in_range h)) rising))

  pub remove_found : IsPlaceOf es part key i → remove es i ≡ remove_entry es part key
  remove_found f =
      let d = some_item es i f.in_range in
      sym (remove_entry-append part key (take i es) (get_or es i d) (drop (suc i) es) f.below (f.here d)) ∙
      ap (λ l. remove_entry l part key) (sym (cut_at es i d f.in_range))

  pub rising_remove_found : IsRising es → IsPlaceOf es part key i → IsRising (remove es i)
  rising_remove_found rising f =
      let d = some_item es i f.in_range in
      rising_remove (take i es) (get_or es i d) (drop (suc i) es) (subst IsRising (cut_at es i d f.in_range) rising)

module _ (es : List Entry) (x : Entry) (i : ℕ) (f : IsGapFor es x.part x.key i) where
  pub insert_gap : insert es i x ≡ insert_entry es x
  insert_gap =
      let b = lower_from_gap es x.part x.key i f in
      sym (insert_entry-append x (take i es) (drop i es) f.below b.others) ∙
      ap (λ l. insert_entry l x) (take-append-drop i es)

  pub rising_insert_gap : IsRising es → IsRising (insert es i x)
  rising_insert_gap rising = rising_insert x (take i es) (drop i es)
      (subst IsRising (sym (take-append-drop i es)) rising) f.below f.above
