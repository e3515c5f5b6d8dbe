-- How far a clean step has come, from one ghost to the next.
use Rattle.std.proofs.Common.{◌≡◌, ℕ, zero, suc, ◌<◌, ◌≤◌, min, List, [], ◌∷◌, length, filter, take, drop, Bool, true}
use Rattle.std.proofs.Common.{false, Some, None, refl, sym, ap, ◌∙◌, subst, ⊎_elim, arith}
use Rattle.std.specs.Prelude.{◌&&◌, is_some, is_none, IsSome}
use Rattle.std.specs.declared.cmp.Ordering.{Ordering}
use Rattle.std.specs.declared.cmp.Ordering.TheVariants.{Less, Equal, Greater}
use Rattle.std.specs.Ordering.{is_lt, is_le, is_eq, ordering_reverse}
use Rattle.std.specs.List.{AllByRecursion}
use Rattle.std.proofs.lemmas.Bool.{cases_Bool, cond-true, cond-false, both_ways, and_parts, and_from, false≢true}
use Rattle.std.proofs.lemmas.Option.{none-some, same_Some}
use Rattle.am_record.specs.Interval.{Interval, key_le, key_le-itself, within}
use Rattle.am_record.specs.EntryOrder.{Place, place_of, place_cmp, place_cmp-total, place_cmp-equal}
use Rattle.am_record.specs.declared.entry.Entry.{Entry}
use Rattle.am_record.specs.declared.step.Reply.TheVariants.{Cleaned}
use Rattle.am_record.proofs.Lists.{AllByRecursion-always, AllByRecursion-map, filter-yes, filter-no, none_first}
use Rattle.am_record.proofs.Orderings.{lt_le}
use Rattle.am_index.specs.Entries.{first_such, entry_at, find, remove_entry, IsRising}
use Rattle.am_index.specs.Content.{content}
use Rattle.am_index.proofs.Edits.{first_such_passes, entry_at_slot, rising_removed, filter-removed}
use Rattle.am_index.proofs.Content.{all_found}
use Rattle.am_index.proofs.WalkLaws.{first_stands}
use Rattle.am_index_parts.specs.Partitions.{AreWellFormed}
use Rattle.am_law_effect.specs.MergeAnswers.{Holders, worked_off, all_worked_off, cleanable, CleanRight}
use Rattle.am_law_effect.proofs.Lists.{rising-filter}
use Rattle.am_law_effect.proofs.Maintenance.{clean_maintains}
use Rattle.am_law_effect.proofs.KnownEdits.{known_laws}
use Rattle.am_store_merge.specs.Walks.{later, is_from, ghost_from, GoesOnAt}
use Rattle.am_store_merge.specs.Steps.{is_cleanable, HasPassedNone}
use Rattle.am_store_merge.proofs.Firsts.{comes_to, All-zip, All-passed, none_under, first_comes, first_is}
use Rattle.am_store_merge.proofs.Firsts.{first_head, no_head, a_head}
use Rattle.am_store_merge.proofs.Walks.{le_trans, lo_le}
use Rattle.am_store_merge.proofs.PassingPrefixes.{take-next, drop-next}
use Rattle.am_store_merge.proofs.EntriesGoHome.{ghost_goes}

-- ---- places

lt_not_le_back : (a b : Place) → is_lt (place_cmp a b) ≡ true → is_le (place_cmp b a) ≡ false
lt_not_le_back a b h = by (place_cmp a b) (place_cmp b a) (place_cmp-total.antisymm b a) h
  where
    by : (o p : Ordering) → p ≡ ordering_reverse o → is_lt o ≡ true → is_le p ≡ false
    by Less p e h = ap is_le e
    by Equal p e h = absurd (false≢true h)
    by Greater p e h = absurd (false≢true h)

-- ---- how many pass a test

module _ (a b : Entry → Bool) where
  few : (es : List Entry) → AllByRecursion (λ f. a f ≡ true → b f ≡ true) es →
      length (filter a es) ≤ length (filter b es)
  few [] all = least
    where
      least : 0 ≤ 0
      least = omega arith
  few (e ∷ es) all =
      let more = few es all.1 in
      ⊎_elim
      (λ passes. omega (
        arith,
        ap length (filter-yes a e es passes),
        ap length (filter-yes b e es (all.0 passes)),
        more,
      ))
      (λ fails. let one = ap length (filter-no a e es fails) in ⊎_elim
      (λ passes. omega (arith, one, ap length (filter-yes b e es passes), more))
      (λ too. omega (arith, one, ap length (filter-no b e es too), more))
      (cases_Bool (b e)))
      (cases_Bool (a e))

  -- one that passes the second test alone makes a difference
  fewer : (es : List Entry) (x : Entry) → AllByRecursion (λ f. a f ≡ true → b f ≡ true) es →
      entry_at es x.part x.key ≡ Some x → b x ≡ true → a x ≡ false → length (filter a es) < length (filter b es)
  fewer [] x all there passes fails = absurd (none-some x there)
  fewer (e ∷ es) x all there passes fails =
      let tie : Bool = is_eq (place_cmp (place_of e) (x.part, x.key)) in
      ⊎_elim
      (λ tied.
      let same : e ≡ x = same_Some e x (sym (cond-true tie (Some e) (entry_at es x.part x.key) tied) ∙ there) in
      omega (
        arith,
        ap length (filter-no a e es (ap a same ∙ fails)),
        ap length (filter-yes b e es (ap b same ∙ passes)),
        few es all.1,
      ))
      (λ apart.
      let more = fewer es x all.1 (sym (cond-false tie (Some e) (entry_at es x.part x.key) apart) ∙ there) passes
      fails in
      ⊎_elim
      (λ yes_. omega (arith, ap length (filter-yes a e es yes_), ap length (filter-yes b e es (all.0 yes_)), more))
      (λ no_. let one = ap length (filter-no a e es no_) in ⊎_elim
      (λ yes_. omega (arith, one, ap length (filter-yes b e es yes_), more))
      (λ too. omega (arith, one, ap length (filter-no b e es too), more))
      (cases_Bool (b e)))
      (cases_Bool (a e)))
      (cases_Bool tie)

-- ---- the walk to the next ghost

-- how many entries a walk has before it
abbrev pub ahead_of : List Entry → Place → ℕ
ahead_of es from = length (filter (is_from from) es)

module _ (es : List Entry) (held : Holders) (range : Interval) (rise : IsRising es) (from : Place)
    (h : HasPassedNone es held range from) where
  abbrev passes : Entry → Bool
  passes e = is_cleanable held range e

  abbrev wanted : Entry → Bool
  wanted e = ghost_from range from e

  in_range : (f : Entry) → passes f ≡ true → within range f.key ≡ true
  in_range f t = (and_parts (within range f.key) (is_none (held f.key))
      (and_parts f.is_ghost (within range f.key && is_none (held f.key)) t).1).0

  all_wanted : AllByRecursion (λ f. passes f ≡ true → wanted f ≡ true) es
  all_wanted =
      AllByRecursion-map (λ f. passes f ≡ true → is_from from f ≡ true) (λ f. passes f ≡ true → wanted f ≡ true)
      (λ f ahead t. and_from f.is_ghost (is_from from f && within range f.key)
      (and_parts f.is_ghost (within range f.key && is_none (held f.key)) t).0
      (and_from (is_from from f) (within range f.key) (ahead t) (in_range f t)))
      es h.ahead

  pub walk_ends : None ≡ first_such wanted es → None ≡ first_such passes es
  walk_ends none = sym (none_under passes wanted es all_wanted (sym none))

  module _ (e : Entry) (found : Some e ≡ first_such wanted es) where
    is_wanted : (is_from from e ≡ true) × (within range e.key ≡ true)
    is_wanted = and_parts (is_from from e) (within range e.key)
        (and_parts e.is_ghost (is_from from e && within range e.key) (first_such_passes wanted es e (sym found))).1

    is_dead : e.is_ghost ≡ true
    is_dead = (and_parts e.is_ghost (is_from from e && within range e.key)
        (first_such_passes wanted es e (sym found))).0

    pub inside : within range e.key ≡ true
    inside = is_wanted.1

    there : entry_at es e.part e.key ≡ Some e
    there = first_stands wanted es e rise (sym found)

    comes : AllByRecursion (λ f. passes f ≡ true → comes_to (Some e) f ≡ true) es
    comes =
        AllByRecursion-map (λ f. (passes f ≡ true → wanted f ≡ true) × (wanted f ≡ true → comes_to (Some e) f ≡ true))
        (λ f. passes f ≡ true → comes_to (Some e) f ≡ true) (λ f w t. w.1 (w.0 t)) es
        (All-zip _ _ es all_wanted (subst (λ o. AllByRecursion (λ f. wanted f ≡ true → comes_to o f ≡ true) es)
        (sym found) (first_comes wanted es rise)))

    module _ (free : Bool) (is : free ≡ is_none (held e.key)) where
      test_is : passes e ≡ free
      test_is = (λ i. is_dead i && (inside i && is_none (held e.key))) ∙ sym is

      pub walk_finds : free ≡ true → Some e ≡ first_such passes es
      walk_finds t = sym (first_is passes es e rise there (test_is ∙ t) comes)

      -- what is to be cleaned is not e, so it comes later
      is_later : free ≡ false → (f : Entry) → entry_at es f.part f.key ≡ Some f → comes_to (Some e) f ≡ true →
          passes f ≡ true → later range e f ≡ true
      is_later locked f stands le t = and_from (is_lt (place_cmp (place_of e) (place_of f))) (within range f.key)
          (by_order (place_cmp (place_of e) (place_of f)) refl le) (in_range f t)
        where
          by_order : (o : Ordering) → place_cmp (place_of e) (place_of f) ≡ o → is_le o ≡ true → is_lt o ≡ true
          by_order Less o le = refl
          by_order Equal o le =
              let places = place_cmp-equal (place_of e) (place_of f) o in
              let same : f ≡ e = same_Some f e (sym stands ∙ ap (λ p. entry_at es p f.key) (sym places.0) ∙
              ap (entry_at es e.part) (sym places.1) ∙ there) in
              absurd (both_ways (passes f) (ap passes same ∙ test_is ∙ locked) t)
          by_order Greater o le = absurd (false≢true le)

      all_later : free ≡ false → AllByRecursion (λ f. passes f ≡ true → later range e f ≡ true) es
      all_later locked =
          AllByRecursion-map (λ f. (entry_at es f.part f.key ≡ Some f) × (passes f ≡ true → comes_to (Some e) f ≡ true))
          (λ f. passes f ≡ true → later range e f ≡ true)
          (λ f w t. is_later locked f w.0 (w.1 t) t) es (All-zip _ _ es (all_found es rise) comes)

      pub walk_goes_on : free ≡ false → (next : Place) → GoesOnAt es range e next → HasPassedNone es held range next
      walk_goes_on locked next on = record {
        in_range = on.in_range;
        ahead = AllByRecursion-map (λ f. (passes f ≡ true → later range e f ≡ true) ×
            (later range e f ≡ true → is_from next f ≡ true)) (λ f. passes f ≡ true → is_from next f ≡ true)
            (λ f w t. w.1 (w.0 t)) es (All-zip _ _ es (all_later locked) on.ahead);
      }

      pub walk_stops : free ≡ false → first_such (later range e) es ≡ None → None ≡ first_such passes es
      walk_stops locked none = sym (none_under passes (later range e) es (all_later locked) none)

    pub walk_goes_down : (next : Place) → GoesOnAt es range e next → ahead_of es next < ahead_of es from
    walk_goes_down next on =
        fewer (is_from next) (is_from from) es e
        (AllByRecursion-always (λ f. is_from next f ≡ true → is_from from f ≡ true)
        (λ f t. le_trans from next (place_of f) (le_trans from (place_of e) next is_wanted.0
        (lt_le (place_cmp (place_of e) next) on.above)) t) es)
        there is_wanted.0 (lt_not_le_back (place_of e) next on.above)

-- ---- a ghost is taken away

-- ---- the loop

-- n ghosts are taken away, and the walk has passed over none that is still to be
pub record IsCleaned (es : List Entry) (held : Holders) (range : Interval) (cur : List Entry) (from : Place)
    (n : ℕ) : Type 0 where
  pub some : n ≤ length (cleanable es held range)
  pub entries : cur ≡ all_worked_off (take n (cleanable es held range)) es
  pub left : cleanable cur held range ≡ drop n (cleanable es held range)
  pub rises : IsRising cur
  pub passed : HasPassedNone cur held range from

-- how long a list is, by what is left of it after its place n
none_left : (n : ℕ) (xs : List Entry) → drop n xs ≡ [] → length xs ≤ n
none_left zero [] h = omega arith
none_left (suc n) [] h = least
  where
    least : 0 ≤ suc n
    least = omega arith
none_left zero (x ∷ xs) h = absurd (none_first (sym h))
none_left (suc n) (x ∷ xs) h = omega (arith, none_left n xs h)

one_left : (x : Entry) (rest : List Entry) (n : ℕ) (xs : List Entry) → drop n xs ≡ x ∷ rest → suc n ≤ length xs
one_left x rest zero [] h = absurd (none_first h)
one_left x rest (suc n) [] h = absurd (none_first h)
one_left x rest zero (y ∷ xs) h = omega arith
one_left x rest (suc n) (y ∷ xs) h = omega (arith, one_left x rest n xs h)

module _ (es : List Entry) (held : Holders) (range : Interval) (sound : AreWellFormed es) where
  abbrev is_ours : Entry → Bool
  is_ours e = is_cleanable held range e

  passes_in : (f : Entry) → is_ours f ≡ true → within range f.key ≡ true
  passes_in f t = (and_parts (within range f.key) (is_none (held f.key))
      (and_parts f.is_ghost (within range f.key && is_none (held f.key)) t).1).0

  pub clean_starts : IsCleaned es held range es (0, range.lo) 0
  clean_starts = record {
    some = omega arith;
    entries = refl;
    left = refl;
    rises = sound.rising;
    passed = record {
      in_range = key_le-itself range.lo;
      ahead = AllByRecursion-always (λ f. is_ours f ≡ true → is_from (0, range.lo) f ≡ true)
          (λ f t. lo_le range.lo 0 f (omega arith) (and_parts (key_le range.lo f.key) (key_le f.key range.hi)
          (passes_in f t)).0) es;
    };
  }

  module _ (cur : List Entry) (from : Place) (n limit : ℕ) (so : IsCleaned es held range cur from n) where
    pub all_clean : None ≡ first_such is_ours cur → n < limit → CleanRight es held range limit (Cleaned n)
    all_clean none below =
        let empty : drop n (cleanable es held range) ≡ [] = sym so.left ∙
        no_head (cleanable cur held range) (sym (first_head is_ours cur) ∙ sym none) in
        let least : length (cleanable es held range) ≤ n = none_left n (cleanable es held range) empty in
        let all : n ≡ min limit (length (cleanable es held range)) = omega (arith, so.some) in
        ap Cleaned all

    pub clean_full : n ≡ limit → CleanRight es held range limit (Cleaned limit)
    clean_full at =
        let all : limit ≡ min limit (length (cleanable es held range)) = omega (arith, so.some) in
        ap Cleaned all

    module _ (e : Entry) (found : Some e ≡ first_such is_ours cur) where
      cur_left : (rest : List Entry) × (cleanable cur held range ≡ e ∷ rest)
      cur_left = a_head (cleanable cur held range) e (sym (first_head is_ours cur) ∙ sym found)

      at_n : drop n (cleanable es held range) ≡ e ∷ cur_left.0
      at_n = sym so.left ∙ cur_left.1

      passing : is_ours e ≡ true
      passing = first_such_passes is_ours cur e (sym found)

      pub is_there : IsSome (find cur e.part e.key)
      is_there = ap is_some (entry_at_slot cur e.part e.key e (first_stands is_ours cur e so.rises (sym found)))

      pub clean_goes_on : (m : ℕ) (cur' : List Entry) → m ≡ suc n → cur' ≡ remove_entry cur e.part e.key →
          IsCleaned es held range cur' (place_of e) m
      clean_goes_on m cur' more taken =
          let gone : cur' ≡ worked_off e cur = taken ∙ ghost_goes e cur
          (and_parts e.is_ghost (within range e.key && is_none (held e.key)) passing).0 in
          let all : cur' ≡ all_worked_off (take (suc n) (cleanable es held range)) es =
          gone ∙ ap (worked_off e) so.entries ∙ sym ((known_laws es sound.rising sound.one_place).one_more
          (take n (cleanable es held range)) e)
          ∙ ap (λ l. all_worked_off l es) (sym (take-next e cur_left.0 n (cleanable es held range) at_n)) in
          let rest : cleanable cur' held range ≡ cur_left.0 = ap (filter is_ours) taken ∙
          filter-removed is_ours cur e cur_left.0 so.rises cur_left.1 in
          let rises' : IsRising cur' = subst IsRising (sym taken) (rising_removed cur e.part e.key so.rises) in
          let above : IsRising (e ∷ cur_left.0) = subst IsRising cur_left.1 (rising-filter is_ours cur so.rises) in
          let later_ones = All-passed (λ f. place_cmp (place_of e) (place_of f) ≡ Less) is_ours cur'
          (subst (AllByRecursion (λ f. place_cmp (place_of e) (place_of f) ≡ Less)) (sym rest) above.0) in
          record {
            some = subst (λ i. i ≤ length (cleanable es held range)) (sym more)
                (one_left e cur_left.0 n (cleanable es held range) at_n);
            entries = all ∙ ap (λ i. all_worked_off (take i (cleanable es held range)) es) (sym more);
            left = rest ∙ sym (drop-next e cur_left.0 n (cleanable es held range) at_n) ∙
                ap (λ i. drop i (cleanable es held range)) (sym more);
            rises = rises';
            passed = record {
              in_range = (and_parts (key_le range.lo e.key) (key_le e.key range.hi) (passes_in e passing)).0;
              ahead = AllByRecursion-map (λ f. is_ours f ≡ true → place_cmp (place_of e) (place_of f) ≡ Less)
                  (λ f. is_ours f ≡ true → is_from (place_of e) f ≡ true) (λ f less t. ap is_le (less t)) cur'
                  later_ones;
            };
          }

    -- the content is as before
    pub clean_content : content cur ≡ content es
    clean_content = ap content so.entries ∙ (clean_maintains es held range n sound.rising).same sound.one_place
