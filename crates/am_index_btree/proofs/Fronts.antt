-- The fronts of separators, where their list is changed and where it is searched.
use Rattle.std.proofs.Common.{◌≡◌, ◌≢◌, ℕ, zero, suc, ◌+◌, ◌-◌, ◌*◌, ◌/◌, ◌^◌, ◌<◌, ◌≤◌, min, List, []}
use Rattle.std.proofs.Common.{◌∷◌, ◌++◌, length, map, get_or, take, drop, nat_eq, nat_lt, refl, sym, ap, ◌∙◌, subst}
use Rattle.std.proofs.Common.{arith}
use Rattle.std.proofs.Common.{⊎_elim, length-append, length-drop}
use Rattle.std.proofs.lemmas.Bool.{cases_Bool, cond-true, cond-false, ltb-true, ltb-false, lt-ltb, le-ltb}
use Rattle.std.proofs.lemmas.List.{take-map, drop-map, length-map, get_or-map, get_or_default, take-append-drop}
use Rattle.std.proofs.lemmas.List.{take-append-le, drop-append-le, length-take-le}
use Rattle.std.proofs.lemmas.List.Sums.{count_by-le-length, prefix_len-le-length}
use Rattle.std.specs.declared.cmp.Ordering.{Ordering}
use Rattle.std.specs.declared.cmp.Ordering.TheVariants.{Less, Equal, Greater}
use Rattle.std.specs.Ordering.{nat_cmp, is_le, MatchOrdering}
use Rattle.std.specs.Cmp.{ranks}
use Rattle.std.specs.List.{AllByRecursion, count_by, prefix_len, insert, remove}
use Rattle.am_record.specs.OrderedKey.{OrderedKey, key_cmp}
use Rattle.am_record.specs.KeyFront.{key_front}
use Rattle.am_record.specs.EntryOrder.{Place, place_cmp, place_cmp-same}
use Rattle.am_record.proofs.NumberOrder.{NeverFalls, falls-drop, lower_first, higher_last}
use Rattle.am_record.proofs.Lists.{AllByRecursion-map, AllByRecursion-append, AllByRecursion-take}
use Rattle.am_record.proofs.Lists.{some_item}
use Rattle.am_record.proofs.Orderings.{less_or_greater}
use Rattle.am_record.proofs.PlaceOrder.{turned_less, lower_part}
use Rattle.am_index_btree.specs.declared.separator.Separator.{Separator}
use Rattle.am_index_btree.specs.Separators.{separator_place, SeparatorsRise, IsReach}
use Rattle.am_index_btree.specs.Fronts.{short_front, place_front, fronts_of, FrontsRise}
use Rattle.am_index_btree.proofs.SeparatorReach.{reached_to, reached_all, reached_no_further}

-- ---- where the list is changed

module _ {X Y : Type 0} (f : X → Y) where
  map-insert : (xs : List X) (i : ℕ) (x : X) → map f (insert xs i x) ≡ insert (map f xs) i (f x)
  map-insert xs zero x = refl
  map-insert [] (suc i) x = refl
  map-insert (y ∷ xs) (suc i) x = ap (λ l. f y ∷ l) (map-insert xs i x)

  map-remove : (xs : List X) (i : ℕ) → map f (remove xs i) ≡ remove (map f xs) i
  map-remove [] zero = refl
  map-remove [] (suc i) = refl
  map-remove (y ∷ xs) zero = refl
  map-remove (y ∷ xs) (suc i) = ap (λ l. f y ∷ l) (map-remove xs i)

abbrev front : Separator → ℕ
front l = place_front (separator_place l)

module _ (ls : List Separator) (fs : List ℕ) (same : fs ≡ fronts_of ls) (i : ℕ) where
  pub fronts-remove : remove fs i ≡ fronts_of (remove ls i)
  fronts-remove = ap (λ l. remove l i) same ∙ sym (map-remove front ls i)

  module _ (x : Separator) (n : ℕ) (its : n ≡ front x) where
    pub fronts-insert : insert fs i n ≡ fronts_of (insert ls i x)
    fronts-insert =
        ap (λ l. insert l i n) same ∙ ap (insert (fronts_of ls) i) its ∙ sym (map-insert front ls i x)

    pub fronts-take : (m : ℕ) → take m (insert fs i n) ≡ fronts_of (take m (insert ls i x))
    fronts-take m = ap (take m) fronts-insert ∙ take-map front m (insert ls i x)

    pub fronts-drop : (m : ℕ) → drop m (insert fs i n) ≡ fronts_of (drop m (insert ls i x))
    fronts-drop m = ap (drop m) fronts-insert ∙ drop-map front m (insert ls i x)

-- ---- a lower front is that of a lower place

short-small : (n : ℕ) → n < 2 ^ 47 → short_front n ≡ n
unfolding short_front
short-small n h = cond-true (nat_lt n (2 ^ 47)) n (min (2 ^ 47 + n / 2 ^ 17) (2 ^ 48 - 1)) (lt-ltb n (2 ^ 47) h)

short-large : (n : ℕ) → 2 ^ 47 ≤ n → short_front n ≡ min (2 ^ 47 + n / 2 ^ 17) (2 ^ 48 - 1)
unfolding short_front
short-large n h = cond-false (nat_lt n (2 ^ 47)) n (min (2 ^ 47 + n / 2 ^ 17) (2 ^ 48 - 1)) (le-ltb n (2 ^ 47) h)

short_most : (n : ℕ) → short_front n < 2 ^ 48
short_most n = ⊎_elim (λ e. let small = ltb-true n (2 ^ 47) e in omega (arith, short-small n small))
    (λ e. omega (arith, short-large n (ltb-false n (2 ^ 47) e))) (cases_Bool (nat_lt n (2 ^ 47)))

short_follows : (n m : ℕ) → short_front n < short_front m → n < m
short_follows n m h =
    ⊎_elim
    (λ e. let small = ltb-true n (2 ^ 47) e in
    ⊎_elim (λ f. omega (arith, h, short-small n small, short-small m (ltb-true m (2 ^ 47) f)))
    (λ f. let large = ltb-false m (2 ^ 47) f in omega (arith, small, large)) (cases_Bool (nat_lt m (2 ^ 47))))
    (λ e. let large = ltb-false n (2 ^ 47) e in
    ⊎_elim
    (λ f. let small = ltb-true m (2 ^ 47) f in omega (arith, h, small, short-small m small, short-large n large))
    (λ f. omega (arith, h, short-large n large, short-large m (ltb-false m (2 ^ 47) f)))
    (cases_Bool (nat_lt m (2 ^ 47))))
    (cases_Bool (nat_lt n (2 ^ 47)))

front-low : (p : Place) → p.0 < 65535 → place_front p ≡ p.0 * 2 ^ 48 + short_front (key_front p.1)
unfolding place_front
front-low p h = cond-true (nat_lt p.0 65535) (p.0 * 2 ^ 48 + short_front (key_front p.1)) (2 ^ 64 - 1)
    (lt-ltb p.0 65535 h)

front-high : (p : Place) → 65535 ≤ p.0 → place_front p ≡ 2 ^ 64 - 1
unfolding place_front
front-high p h = cond-false (nat_lt p.0 65535) (p.0 * 2 ^ 48 + short_front (key_front p.1)) (2 ^ 64 - 1)
    (le-ltb p.0 65535 h)

front_most : (p : Place) → place_front p < 2 ^ 64
front_most p = ⊎_elim (λ e. let low = ltb-true p.0 65535 e in
    omega (arith, low, front-low p low, short_most (key_front p.1)))
    (λ e. omega (arith, front-high p (ltb-false p.0 65535 e))) (cases_Bool (nat_lt p.0 65535))

as_rise : (fs : List ℕ) → NeverFalls (λ n. n) fs → FrontsRise fs
as_rise [] r = tt
as_rise (f ∷ fs) r = (r.0, as_rise fs r.1)

module _ (law : (k l : OrderedKey) → key_front k < key_front l → key_cmp k l ≡ Less) where
  -- in partitions below the last
  among : (a b : Place) → a.0 < 65535 → b.0 < 65535 → place_front a < place_front b →
      (r : Ordering) → MatchOrdering r (a.0 < b.0) (a.0 ≡ b.0) (b.0 < a.0) → place_cmp a b ≡ Less
  among a b la lb h Less m = lower_part a b m
  among a b la lb h Equal m =
      let lower = short_follows (key_front a.1) (key_front b.1) (omega (arith, h, front-low a la, front-low b lb, m)) in
      ap (λ n. place_cmp (n, a.1) b) m ∙ place_cmp-same b.0 a.1 b.1 ∙ law a.1 b.1 lower
  among a b la lb h Greater m =
      absurd (omega (arith, h, front-low a la, front-low b lb, m, short_most (key_front b.1)))

  pub places_follow : (a b : Place) → place_front a < place_front b → place_cmp a b ≡ Less
  places_follow a b h =
      ⊎_elim
      (λ e. let la = ltb-true a.0 65535 e in
      ⊎_elim (λ f. among a b la (ltb-true b.0 65535 f) h (nat_cmp a.0 b.0) (ranks a.0 b.0))
      (λ f. let hb = ltb-false b.0 65535 f in lower_part a b (omega (arith, la, hb))) (cases_Bool (nat_lt b.0 65535)))
      (λ e. absurd (omega (arith, h, front-high a (ltb-false a.0 65535 e), front_most b)))
      (cases_Bool (nat_lt a.0 65535))

  -- along a rising list the fronts don't fall
  never_falls : (a b : Place) → place_cmp a b ≡ Less → place_front a ≤ place_front b
  never_falls a b h =
      ⊎_elim
      (λ e. absurd (less_or_greater (place_cmp b a) (places_follow b a (ltb-true (place_front b) (place_front a) e))
      (turned_less a b h)))
      (λ e. ltb-false (place_front b) (place_front a) e) (cases_Bool (nat_lt (place_front b) (place_front a)))

  -- ---- the search

  rise-drop : (n : ℕ) (ls : List Separator) → SeparatorsRise ls → SeparatorsRise (drop n ls)
  rise-drop zero ls r = r
  rise-drop (suc n) [] r = tt
  rise-drop (suc n) (l ∷ ls) r = rise-drop n ls r.1

  rise-take : (n : ℕ) (ls : List Separator) → SeparatorsRise ls → SeparatorsRise (take n ls)
  rise-take zero ls r = tt
  rise-take (suc n) [] r = tt
  rise-take (suc n) (l ∷ ls) r = (
    AllByRecursion-take (λ m. place_cmp (separator_place l) (separator_place m) ≡ Less) n ls r.0,
    rise-take n ls r.1,
  )

  -- what holds of fronts, and of the separators that have them
  into_fronts : (P : ℕ → Type 0) (ls : List Separator) → AllByRecursion (λ l. P (front l)) ls →
      AllByRecursion P (fronts_of ls)
  into_fronts P [] a = tt
  into_fronts P (l ∷ ls) a = (a.0, into_fronts P ls a.1)

  out_of_fronts : (P : ℕ → Type 0) (ls : List Separator) (fs : List ℕ) → fs ≡ fronts_of ls → AllByRecursion P fs →
      AllByRecursion (λ l. P (front l)) ls
  out_of_fronts P [] fs e a = tt
  out_of_fronts P (l ∷ ls) fs e a = let b = subst (AllByRecursion P) e a in
      (b.0, out_of_fronts P ls (fronts_of ls) refl b.1)

  fronts_rise : (ls : List Separator) → SeparatorsRise ls → NeverFalls (λ n. n) (fronts_of ls)
  fronts_rise [] r = tt
  fronts_rise (l ∷ ls) r = (
    into_fronts (λ n. front l ≤ n) ls
        (AllByRecursion-map (λ m. place_cmp (separator_place l) (separator_place m) ≡ Less) (λ m. front l ≤ front m)
        (λ m h. never_falls (separator_place l) (separator_place m) h) ls r.0),
    fronts_rise ls r.1,
  )

  pub their_fronts_rise : (ls : List Separator) (fs : List ℕ) → SeparatorsRise ls → fs ≡ fronts_of ls → FrontsRise fs
  their_fronts_rise ls fs r theirs = subst FrontsRise (sym theirs) (as_rise (fronts_of ls) (fronts_rise ls r))

  module _ (p : Place) where
    abbrev AreLower : List Separator → Type 0
    AreLower ls = AllByRecursion (λ l. front l < place_front p) ls

    abbrev AreHigher : List Separator → Type 0
    AreHigher ls = AllByRecursion (λ l. place_front p < front l) ls

    -- lower ones, some that are reached so far, and higher ones
    reach_joined : (ls ms hs : List Separator) (r : ℕ) → AreLower ls → IsReach ms p.0 p.1 r → AreHigher hs →
        IsReach (ls ++ (ms ++ hs)) p.0 p.1 (length ls + r)
    reach_joined [] ms hs r a b c =
        subst (IsReach (ms ++ hs) p.0 p.1) {x = r} {y = 0 + r} (omega arith) (record {
          in_range = omega (arith, b.in_range, length-append ms hs);
          reached = subst (AllByRecursion (λ l. place_cmp (separator_place l) p ≢ Greater))
              (sym (take-append-le r ms hs b.in_range)) b.reached;
          above = subst (AllByRecursion (λ l. place_cmp (separator_place l) p ≡ Greater))
              (sym (drop-append-le r ms hs b.in_range))
              (AllByRecursion-append (λ l. place_cmp (separator_place l) p ≡ Greater) (drop r ms) hs b.above
              (AllByRecursion-map (λ l. place_front p < front l) (λ l. place_cmp (separator_place l) p ≡ Greater)
              (λ l h. turned_less p (separator_place l) (places_follow p (separator_place l) h)) hs c));
        })
    reach_joined (l ∷ ls) ms hs r a b c =
        let rest = reach_joined ls ms hs r a.1 b c in
        subst (IsReach (l ∷ (ls ++ (ms ++ hs))) p.0 p.1) {x = suc (length ls + r)} {y = suc (length ls) + r}
        (omega arith)
        (record {
          in_range = omega (arith, rest.in_range);
          reached = (
            (λ g. less_or_greater (place_cmp (separator_place l) p) (places_follow (separator_place l) p a.0) g),
            rest.reached,
          );
          above = rest.above;
        })

    module _ (ls : List Separator) (rise : SeparatorsRise ls) (fs : List ℕ) (theirs : fs ≡ fronts_of ls) (f : ℕ)
        (its : f ≡ place_front p) where
      -- where the last front is lower, all are
      pub reach_whole : (j x : ℕ) → suc j ≡ length fs → x ≡ get_or fs j x → x < f → IsReach ls p.0 p.1 (length fs)
      reach_whole j x last here below =
          let long : length fs ≡ length ls = ap length theirs ∙ length-map ls front in
          let within : j < length ls = omega (arith, last, long) in
          let d = some_item ls j within in let s = get_or ls j d in
          let is : x ≡ front s = here ∙ ap (λ l. get_or l j x) theirs ∙ get_or-map front ls j d x within in
          let lt : front s < place_front p = omega (arith, below, is, its) in
          reached_all p ls (length fs) long (reached_to p ls rise j s within (get_or_default ls j d s within)
          (ap is_le (places_follow (separator_place s) p lt)) (length fs) (omega (arith, last)))

      -- where a front is lower and the next one is higher, so many are reached
      pub reach_between : (j : ℕ) → suc j < length fs → get_or fs j 0 < f → f < get_or fs (suc j) 0 →
          IsReach ls p.0 p.1 (suc j)
      reach_between j more below above =
          let wide : length fs ≡ length ls = ap length theirs ∙ length-map ls front in
          let within : j < length ls = omega (arith, more, wide) in
          let within' : suc j < length ls = omega (arith, more, wide) in
          let d = some_item ls j within in let s = get_or ls j d in
          let d' = some_item ls (suc j) within' in let s' = get_or ls (suc j) d' in
          let is : get_or fs j 0 ≡ front s = ap (λ l. get_or l j 0) theirs ∙ get_or-map front ls j d 0 within in
          let is' : get_or fs (suc j) 0 ≡ front s' =
          ap (λ l. get_or l (suc j) 0) theirs ∙ get_or-map front ls (suc j) d' 0 within' in
          let lt : front s < place_front p = omega (arith, below, is, its) in
          let gt : place_front p < front s' = omega (arith, above, is', its) in
          reached_no_further p ls rise (suc j) s' within' (get_or_default ls (suc j) d' s' within')
          (ap is_le (turned_less p (separator_place s') (places_follow p (separator_place s') gt)))
          (reached_to p ls rise j s within (get_or_default ls j d s within)
          (ap is_le (places_follow (separator_place s) p lt)) (suc j) (omega arith))

      module _ (n m : ℕ) (first : n ≡ count_by (λ x. nat_lt x f) fs)
          (next : m ≡ prefix_len (λ x. nat_eq x f) (drop n fs)) where
        long : length fs ≡ length ls
        long = ap length theirs ∙ length-map ls front

        first_within : n ≤ length ls
        first_within = omega (arith, first, count_by-le-length (λ x. nat_lt x f) fs, long)

        pub both_within : n + m ≤ length ls
        both_within = omega (
          arith,
          first_within,
          next,
          prefix_len-le-length (λ x. nat_eq x f) (drop n fs),
          length-drop n fs,
          long,
        )

        pub these_rise : SeparatorsRise (take m (drop n ls))
        these_rise = rise-take m (drop n ls) (rise-drop n ls rise)

        -- those of the place's own front alone have to be looked at
        pub reach_by_fronts : (r : ℕ) → IsReach (take m (drop n ls)) p.0 p.1 r → IsReach ls p.0 p.1 (n + r)
        reach_by_fronts r h =
            let falls = subst (NeverFalls (λ x. x)) (sym theirs) (fronts_rise ls rise) in
            let parted = subst (λ k. AllByRecursion (λ x. x < f) (take k fs) ×
            AllByRecursion (λ x. f ≤ x) (drop k fs)) (sym first) (lower_first (λ x. x) f fs falls) in
            let behind = subst (λ k. AllByRecursion (λ x. f < x) (drop k (drop n fs))) (sym next)
            (higher_last (λ x. x) f (drop n fs) (falls-drop (λ x. x) n fs falls) parted.1) in
            let rest : drop n fs ≡ fronts_of (drop n ls) = ap (drop n) theirs ∙ drop-map front n ls in
            let below = out_of_fronts (λ x. x < f) (take n ls) (take n fs) (ap (take n) theirs ∙ take-map front n ls)
            parted.0 in
            let above = out_of_fronts (λ x. f < x) (drop m (drop n ls)) (drop m (drop n fs))
            (ap (drop m) rest ∙ drop-map front m (drop n ls)) behind in
            let whole : take n ls ++ (take m (drop n ls) ++ drop m (drop n ls)) ≡ ls =
            ap (λ l. take n ls ++ l) (take-append-drop m (drop n ls)) ∙ take-append-drop n ls in
            subst (λ k. IsReach ls p.0 p.1 (k + r)) (length-take-le n ls first_within)
            (subst (λ l. IsReach l p.0 p.1 (length (take n ls) + r)) whole
            (reach_joined (take n ls) (take m (drop n ls)) (drop m (drop n ls)) r
            (subst (λ k. AllByRecursion (λ l. front l < k) (take n ls)) its below) h
            (subst (λ k. AllByRecursion (λ l. k < front l) (drop m (drop n ls))) its above)))
