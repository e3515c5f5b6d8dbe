-- Walks over the entries of a range, from partition to partition.
use Rattle.std.proofs.Common.{◌≡◌, ◌≢◌, ℕ, ◌+◌, ◌-◌, ◌^◌, ◌<◌, ◌≤◌, List, Bool, true, false, Some, None}
use Rattle.std.proofs.Common.{refl, sym, ap, ◌∙◌, subst, arith, ◌⊎◌, inl, inr, ⊎_elim}
use Rattle.std.specs.Prelude.{nat_le, ◌==◌, ◌&&◌, not}
use Rattle.std.proofs.lemmas.Bool.{cases_Bool, both_ways, and_parts, and_from, and_left}
use Rattle.std.proofs.lemmas.Bool.{false_from_ne_true, leb-true, le-leb, eqb-true, eq-eqb, cases_lt}
use Rattle.std.specs.declared.cmp.Ordering.{Ordering}
use Rattle.std.specs.declared.cmp.Ordering.TheVariants.{Less, Equal, Greater}
use Rattle.std.specs.Ordering.{is_lt, is_gt, is_le, is_ge, ordering_reverse}
use Rattle.std.specs.Cmp.{upto}
use Rattle.std.specs.List.{AllByRecursion}
use Rattle.am_record.specs.OrderedKey.{OrderedKey, key_cmp, key_cmp-total}
use Rattle.am_record.specs.Interval.{Interval, key_le, key_le-itself, within}
use Rattle.am_record.specs.EntryOrder.{Place, place_of, place_cmp, place_cmp-total, place_cmp-part, place_cmp-same}
use Rattle.am_record.specs.declared.entry.Entry.{Entry}
use Rattle.am_record.proofs.Lists.{AllByRecursion-always, AllByRecursion-map}
use Rattle.am_record.proofs.PlaceOrder.{lower_part}
use Rattle.am_record.proofs.Outcomes.{same_test}
use Rattle.am_record.proofs.Orderings.{le_not_greater, ge_reversed, le_not_gt, not_gt_le, gt_reversed, lt_le}
use Rattle.am_record.proofs.KeyOrder.{key_le_trans}
use Rattle.am_index.specs.Entries.{first_such, next_ghost, after, IsRising}
use Rattle.am_index.proofs.Lists.{first_such_none}
use Rattle.am_index.proofs.Edits.{first_such_all, first_such_passes, none_such}
use Rattle.am_index.proofs.WalkLaws.{first_stands}
use Rattle.am_index_parts.specs.MergedRanges.{HasNoneBefore}
use Rattle.am_index_parts.specs.Partitions.{AreWellFormed}
use Rattle.am_store_merge.specs.Walks.{in_parts_from, later, is_from, ghost_from, GoesOnAt}
use Rattle.am_store_merge.proofs.Firsts.{comes_to, All-zip, first_same, none_under, first_comes, first_is}

-- ---- orderings

le_reversed : (o : Ordering) → is_le (ordering_reverse o) ≡ is_ge o
le_reversed Less = refl
le_reversed Equal = refl
le_reversed Greater = refl

not_le_ge : (o : Ordering) → is_le o ≡ false → is_ge o ≡ true
not_le_ge Less h = absurd (cc)
not_le_ge Equal h = refl
not_le_ge Greater h = refl

-- ---- places

pub ge_le : (a b : Place) → is_ge (place_cmp b a) ≡ true → is_le (place_cmp a b) ≡ true
ge_le a b h = ap is_le (place_cmp-total.antisymm a b) ∙ le_reversed (place_cmp b a) ∙ h

le_ge : (a b : Place) → is_le (place_cmp a b) ≡ true → is_ge (place_cmp b a) ≡ true
le_ge a b h = ap is_ge (place_cmp-total.antisymm b a) ∙ ge_reversed (place_cmp a b) ∙ h

pub le_trans : (a b c : Place) → is_le (place_cmp a b) ≡ true → is_le (place_cmp b c) ≡ true →
    is_le (place_cmp a c) ≡ true
le_trans a b c h k = not_gt_le (place_cmp a c)
    (upto place_cmp-total a b c (le_not_gt (place_cmp a b) h) (le_not_gt (place_cmp b c) k))

pub ge_key : (lo k : OrderedKey) → is_ge (key_cmp k lo) ≡ key_le lo k
ge_key lo k = sym (ap is_le (key_cmp-total.antisymm lo k) ∙ le_reversed (key_cmp k lo))

gt_lt : (a b : Place) → is_gt (place_cmp b a) ≡ true → is_lt (place_cmp a b) ≡ true
gt_lt a b h = sym (gt_reversed (place_cmp a b)) ∙ ap is_gt (sym (place_cmp-total.antisymm b a)) ∙ h

lt_gt : (a b : Place) → is_lt (place_cmp a b) ≡ true → is_gt (place_cmp b a) ≡ true
lt_gt a b h = ap is_gt (place_cmp-total.antisymm b a) ∙ gt_reversed (place_cmp a b) ∙ h

-- what is not above stands in no greater partition
pub le_part : (a b : Place) → is_le (place_cmp a b) ≡ true → a.0 ≤ b.0
le_part a b h = place_cmp-part a b (le_not_greater (place_cmp a b) h)

-- within a partition the keys decide
pub same_part : (x e : Entry) → x.part ≡ e.part → place_cmp (place_of x) (place_of e) ≡ key_cmp x.key e.key
same_part x e same = ap (λ p. place_cmp (p, x.key) (place_of e)) same ∙ place_cmp-same e.part x.key e.key

-- ---- keys

-- a key that is not below the range and not in it is above it
pub above_range : (range : Interval) (k : OrderedKey) → within range k ≡ false → key_le range.lo k ≡ true →
    key_le k range.hi ≡ false
above_range range k out from = false_from_ne_true (key_le k range.hi)
    (λ to. both_ways (within range k) out (and_from (key_le range.lo k) (key_le k range.hi) from to))

-- from a partition on, what is not below the range stands at or above the beginning of the range
pub lo_le : (lo : OrderedKey) (part : ℕ) (e : Entry) → part ≤ e.part → key_le lo e.key ≡ true →
    is_from (part, lo) e ≡ true
lo_le lo part e le keys = ⊎_elim
    (λ same. ap is_le (ap (λ p. place_cmp (p, lo) (place_of e)) (eqb-true part e.part same) ∙
    place_cmp-same e.part lo e.key) ∙ keys)
    (λ other. let apart : part ≢ e.part = λ h. both_ways (part == e.part) other (eq-eqb part e.part h) in
    let up : part < e.part = omega arith in ap is_le (lower_part (part, lo) (place_of e) up))
    (cases_Bool (part == e.part))

-- the numbers of partitions end
pub none_past : (es : List Entry) → AreWellFormed es → (range : Interval) (to : ℕ) → 2 ^ 32 ≤ to →
    first_such (in_parts_from to range) es ≡ None
none_past es sound range to over =
    first_such_none (in_parts_from to range) es
    (AllByRecursion-map (λ e. e.part < 2 ^ 32) (λ e. in_parts_from to range e ≡ false)
    (λ e fits. and_left (nat_le to e.part) (within range e.key)
    (false_from_ne_true (nat_le to e.part) (λ t. let le : to ≤ e.part = leb-true to e.part t in omega arith)))
    es sound.fits)

ge_not_lt : (o : Ordering) → is_ge o ≡ not (is_lt o)
ge_not_lt Less = refl
ge_not_lt Equal = refl
ge_not_lt Greater = refl

-- a test of a key against the least key of a range
pub tells_from : (range : Interval) (k lo : OrderedKey) (b t : Bool) → lo ≡ range.lo → b ≡ is_lt (key_cmp k lo) →
    b ≡ t → key_le range.lo k ≡ not t
tells_from range k lo b t same is told =
    ap is_le (key_cmp-total.antisymm range.lo k) ∙ le_reversed (key_cmp k range.lo) ∙ ge_not_lt (key_cmp k range.lo) ∙
    ap not (ap (λ q. is_lt (key_cmp k q)) (sym same) ∙ sym is ∙ told)

-- ---- on in one partition

-- in the range, and in x's partition after x
abbrev later_in_part : Interval → Entry → Entry → Bool
later_in_part range x e = (e.part == x.part) && (is_lt (key_cmp x.key e.key) && within range e.key)

module _ (es : List Entry) (rise : IsRising es) (range : Interval) (x : Entry) (inside : within range x.key ≡ true)
  where
    abbrev above_x : Entry → Bool
    above_x e = (e.part == x.part) && is_gt (place_cmp (place_of e) (x.part, x.key))

    in_above : (e : Entry) → later_in_part range x e ≡ true → above_x e ≡ true
    in_above e t =
        let p = and_parts (e.part == x.part) (is_lt (key_cmp x.key e.key) && within range e.key) t in
        let keys = and_parts (is_lt (key_cmp x.key e.key)) (within range e.key) p.1 in
        and_from (e.part == x.part) (is_gt (place_cmp (place_of e) (place_of x))) p.0
        (lt_gt (place_of x) (place_of e) (ap is_lt (same_part x e (sym (eqb-true e.part x.part p.0))) ∙ keys.0))

    -- what is above x in its partition has a key above x's
    keys_above : (e : Entry) → above_x e ≡ true → (e.part ≡ x.part) × (is_lt (key_cmp x.key e.key) ≡ true)
    keys_above e t =
        let p = and_parts (e.part == x.part) (is_gt (place_cmp (place_of e) (place_of x))) t in
        let same = eqb-true e.part x.part p.0 in
        (same, sym (ap is_lt (same_part x e (sym same))) ∙ gt_lt (place_of x) (place_of e) p.1)

    pub part_ends : None ≡ after es x.part x.key → None ≡ first_such (later_in_part range x) es
    part_ends found =
        sym (none_under (later_in_part range x) above_x es
        (AllByRecursion-always (λ e. later_in_part range x e ≡ true → above_x e ≡ true) in_above es) (sym found))

    module _ (y : Entry) (found : Some y ≡ after es x.part x.key) where
      at_y : first_such above_x es ≡ Some y
      at_y = sym found

      keys : (y.part ≡ x.part) × (is_lt (key_cmp x.key y.key) ≡ true)
      keys = keys_above y (first_such_passes above_x es y at_y)

      comes_to_y : AllByRecursion (λ f. later_in_part range x f ≡ true → comes_to (Some y) f ≡ true) es
      comes_to_y =
          AllByRecursion-map (λ f. above_x f ≡ true → comes_to (Some y) f ≡ true) (λ f. later_in_part range x f ≡ true →
          comes_to (Some y) f ≡ true) (λ f h t. h (in_above f t)) es
          (subst (λ o. AllByRecursion (λ f. above_x f ≡ true → comes_to o f ≡ true) es) at_y
          (first_comes above_x es rise))

    -- ---- and on in the partitions after it

    -- what is later stands in x's partition or in a later one
    later_where : (e : Entry) → later range x e ≡ true → (later_in_part range x e ≡ true) ⊎
        ((x.part < e.part) × (within range e.key ≡ true))
    later_where e t =
        let p = and_parts (is_lt (place_cmp (place_of x) (place_of e))) (within range e.key) t in
        let le : x.part ≤ e.part = le_part (place_of x) (place_of e)
        (lt_le (place_cmp (place_of x) (place_of e)) p.0) in
        ⊎_elim
        (λ same. inl (and_from (e.part == x.part) (is_lt (key_cmp x.key e.key) && within range e.key) same
        (and_from (is_lt (key_cmp x.key e.key)) (within range e.key)
        (sym (ap is_lt (same_part x e (sym (eqb-true e.part x.part same)))) ∙ p.0) p.1)))
        (λ other. let apart : e.part ≢ x.part = λ h. both_ways (e.part == x.part) other (eq-eqb e.part x.part h) in
        inr (omega arith, p.1))
        (cases_Bool (e.part == x.part))

    -- ---- where a walk goes on

    -- at the next entry of x's partition
    pub goes_on_here : (y : Entry) → Some y ≡ after es x.part x.key → GoesOnAt es range x (place_of y)
    goes_on_here y found =
        let beside = keys y found in record {
          above = ap is_lt (same_part x y (sym beside.0)) ∙ beside.1;
          in_range = key_le_trans range.lo x.key y.key (and_parts (key_le range.lo x.key) (key_le x.key range.hi)
              inside).0 (lt_le (key_cmp x.key y.key) beside.1);
          ahead = AllByRecursion-map (λ f. later_in_part range x f ≡ true → comes_to (Some y) f ≡ true)
              (λ f. later range x f ≡ true → is_from (place_of y) f ≡ true)
              (λ f h t. ⊎_elim (λ here. h here) (λ w. let up : y.part < f.part = omega (arith, w.0, beside.0) in
              ap is_le (lower_part (place_of y) (place_of f) up)) (later_where f t))
              es (comes_to_y y found);
        }

    none_here : None ≡ after es x.part x.key → AllByRecursion (λ f. later_in_part range x f ≡ false) es
    none_here none = none_such (later_in_part range x) es (sym (part_ends none))

    -- where it has none, at the beginning of the range in the partition after it
    pub goes_on_there : None ≡ after es x.part x.key → (to : ℕ) → to ≡ x.part + 1 → GoesOnAt es range x (to, range.lo)
    goes_on_there none to next = record {
      above = let up : x.part < to = omega arith in ap is_lt (lower_part (place_of x) (to, range.lo) up);
      in_range = key_le-itself range.lo;
      ahead = AllByRecursion-map (λ f. later_in_part range x f ≡ false) (λ f. later range x f ≡ true →
          is_from (to, range.lo) f ≡ true)
          (λ f not_here t. ⊎_elim
          (λ here. absurd (both_ways (later_in_part range x f) not_here here))
          (λ w. lo_le range.lo to f (omega (arith, w.0))
          (and_parts (key_le range.lo f.key) (key_le f.key range.hi) w.1).0)
          (later_where f t))
          es (none_here none);
    }

    -- or nowhere
    pub goes_on_nowhere : None ≡ after es x.part x.key → 2 ^ 32 ≤ x.part + 1 → AllByRecursion (λ e. e.part < 2 ^ 32)
        es →
        first_such (later range x) es ≡ None
    goes_on_nowhere none over fits =
        first_such_none (later range x) es
        (AllByRecursion-map (λ f. (later_in_part range x f ≡ false) × (f.part < 2 ^ 32)) (λ f. later range x f ≡ false)
        (λ f w. false_from_ne_true (later range x f) (λ t. ⊎_elim (λ here. both_ways (later_in_part range x f) w.0 here)
        (λ v. absurd (omega (arith, v.0, w.1))) (later_where f t)))
        es (All-zip _ _ es (none_here none) fits))

-- ---- a look for the next ghost

module _ (es : List Entry) (rise : IsRising es) (range : Interval) (part : ℕ) (key : OrderedKey)
    (low : key_le range.lo key ≡ true) where
  abbrev from : Place
  from = (part, key)

  abbrev ghost_ahead : Entry → Bool
  ghost_ahead e = e.is_ghost && is_ge (place_cmp (place_of e) from)

  abbrev wanted : Entry → Bool
  wanted e = ghost_from range from e

  wanted_parts : (e : Entry) → wanted e ≡ true → (e.is_ghost ≡ true) × (is_from from e ≡ true) ×
      (within range e.key ≡ true)
  wanted_parts e t = let p = and_parts e.is_ghost (is_from from e && within range e.key) t in
      let q = and_parts (is_from from e) (within range e.key) p.1 in (p.0, q.0, q.1)

  is_wanted : (to : Place) (e : Entry) → e.is_ghost ≡ true → is_from to e ≡ true → within range e.key ≡ true →
      ghost_from range to e ≡ true
  is_wanted to e ghost up w = and_from e.is_ghost (is_from to e && within range e.key) ghost
      (and_from (is_from to e) (within range e.key) up w)

  is_ahead : (e : Entry) → wanted e ≡ true → ghost_ahead e ≡ true
  is_ahead e t = let p = wanted_parts e t in and_from e.is_ghost (is_ge (place_cmp (place_of e) from)) p.0
      (le_ge from (place_of e) p.1)

  pub ghosts_end : None ≡ next_ghost es part key → None ≡ first_such wanted es
  ghosts_end none = sym (none_under wanted ghost_ahead es
      (AllByRecursion-always (λ e. wanted e ≡ true → ghost_ahead e ≡ true) is_ahead es) (sym none))

  module _ (x : Entry) (found : Some x ≡ next_ghost es part key) where
    found_parts : (x.is_ghost ≡ true) × (is_ge (place_cmp (place_of x) from) ≡ true)
    found_parts = and_parts x.is_ghost (is_ge (place_cmp (place_of x) from))
        (first_such_passes ghost_ahead es x (sym found))

    up : is_from from x ≡ true
    up = ge_le from (place_of x) found_parts.1

    pub ghost_part : part ≤ x.part
    ghost_part = le_part from (place_of x) up

    walk_comes : AllByRecursion (λ f. wanted f ≡ true → comes_to (Some x) f ≡ true) es
    walk_comes =
        AllByRecursion-map (λ f. ghost_ahead f ≡ true → comes_to (Some x) f ≡ true)
        (λ f. wanted f ≡ true → comes_to (Some x) f ≡ true) (λ f h t. h (is_ahead f t)) es
        (subst (λ o. AllByRecursion (λ f. ghost_ahead f ≡ true → comes_to o f ≡ true) es) (sym found)
        (first_comes ghost_ahead es rise))

    pub ghost_is_in : within range x.key ≡ true → Some x ≡ first_such wanted es
    ghost_is_in w = sym (first_is wanted es x rise (first_stands ghost_ahead es x rise (sym found))
        (is_wanted from x found_parts.0 up w) walk_comes)

    -- on at the beginning of the range in another partition, if it is not below x, and none that is wanted stands
    -- before it
    ghosts_go_on : (to : ℕ) → is_le (place_cmp (place_of x) (to, range.lo)) ≡ true →
        ((f : Entry) → within range f.key ≡ true → comes_to (Some x) f ≡ true → to ≤ f.part)
        → first_such (ghost_from range (to, range.lo)) es ≡ first_such wanted es
    ghosts_go_on to on f =
        first_same (ghost_from range (to, range.lo)) wanted es
        (AllByRecursion-map (λ e. wanted e ≡ true → comes_to (Some x) e ≡ true)
        (λ e. ghost_from range (to, range.lo) e ≡ wanted e)
        (λ e h. same_test (ghost_from range (to, range.lo) e) (wanted e)
        (λ t. let p = and_parts e.is_ghost (is_from (to, range.lo) e && within range e.key) t in
        let q = and_parts (is_from (to, range.lo) e) (within range e.key) p.1 in
        is_wanted from e p.0 (le_trans from (place_of x) (place_of e) up
        (le_trans (place_of x) (to, range.lo) (place_of e) on q.0)) q.1)
        (λ t. let p = wanted_parts e t in
        is_wanted (to, range.lo) e p.0 (lo_le range.lo to e (f e p.2 (h t))
        (and_parts (key_le range.lo e.key) (key_le e.key range.hi) p.2).0) p.2))
        es walk_comes)

    pub ghost_below : key_le range.lo x.key ≡ false → first_such (ghost_from range (x.part, range.lo)) es ≡ first_such
        wanted es
    ghost_below below =
        let turned : key_cmp x.key range.lo ≡ ordering_reverse (key_cmp range.lo x.key) =
        key_cmp-total.antisymm x.key range.lo in
        let on : is_le (place_cmp (place_of x) (x.part, range.lo)) ≡ true =
        ap is_le (place_cmp-same x.part x.key range.lo ∙ turned) ∙ le_reversed (key_cmp range.lo x.key) ∙
        not_le_ge (key_cmp range.lo x.key) below in
        ghosts_go_on x.part on (λ f w c. le_part (place_of x) (place_of f) c)

    pub ghost_above : within range x.key ≡ false → key_le range.lo x.key ≡ true →
        first_such (ghost_from range (x.part + 1, range.lo)) es ≡ first_such wanted es
    ghost_above out not_below =
        let above : key_le x.key range.hi ≡ false = above_range range x.key out not_below in
        let less : x.part < x.part + 1 = omega arith in
        ghosts_go_on (x.part + 1) (ap is_le (lower_part (place_of x) (x.part + 1, range.lo) less)) (λ f w c.
        let le : x.part ≤ f.part = le_part (place_of x) (place_of f) c in
        let other : x.part ≢ f.part = λ same.
        let keys : key_le x.key f.key ≡ true = ap is_le (sym (same_part x f same)) ∙ c in
        both_ways (key_le x.key range.hi) above (key_le_trans x.key f.key range.hi keys
        (and_parts (key_le range.lo f.key) (key_le f.key range.hi) w).1) in
        omega arith)

    -- the partitions rise
    pub ghost_goes_up : key_le range.lo x.key ≡ false → part < x.part
    ghost_goes_up below =
        let le : part ≤ x.part = ghost_part in
        let other : part ≢ x.part = λ same.
        let keys : key_le key x.key ≡ true = ap is_le
        (sym (ap (λ p. place_cmp (p, key) (place_of x)) same ∙ place_cmp-same x.part key x.key)) ∙ up in
        both_ways (key_le range.lo x.key) below (key_le_trans range.lo key x.key low keys) in
        omega arith

-- beyond all partitions
pub no_ghost_past : (es : List Entry) → AreWellFormed es → (range : Interval) (to : ℕ) → 2 ^ 32 ≤ to →
    first_such (ghost_from range (to, range.lo)) es ≡ None
no_ghost_past es sound range to over =
    first_such_none (ghost_from range (to, range.lo)) es
    (AllByRecursion-map (λ e. e.part < 2 ^ 32) (λ e. ghost_from range (to, range.lo) e ≡ false)
    (λ e fits. false_from_ne_true (ghost_from range (to, range.lo) e) (λ t.
    let p = and_parts e.is_ghost (is_from (to, range.lo) e && within range e.key) t in
    let le : to ≤ e.part = le_part (to, range.lo) (place_of e)
    (and_parts (is_from (to, range.lo) e) (within range e.key) p.1).0 in
    absurd (omega arith)))
    es sound.fits)

-- a step of the loop, by what its calls answer
module _ (es : List Entry) (sound : AreWellFormed es) (range : Interval) (part : ℕ) (key : OrderedKey)
    (low : key_le range.lo key ≡ true) (x : Entry) (found : Some x ≡ next_ghost es part key) where
  ghost_fits : x.part < 2 ^ 32
  ghost_fits = first_such_all (λ y. y.part < 2 ^ 32) (ghost_ahead es sound.rising range part key low) es x sound.fits
      (sym found)

  pub ghost_goes_down : key_le range.lo x.key ≡ false → 2 ^ 32 - x.part < 2 ^ 32 - part
  ghost_goes_down below = omega (arith, ghost_goes_up es sound.rising range part key low x found below, ghost_fits)

  pub ghost_past_down : 2 ^ 32 - (x.part + 1) < 2 ^ 32 - part
  ghost_past_down = omega (arith, ghost_part es sound.rising range part key low x found, ghost_fits)

  pub ghost_past_all : within range x.key ≡ false → key_le range.lo x.key ≡ true → 2 ^ 32 ≤ x.part + 1 →
      None ≡ first_such (ghost_from range (part, key)) es
  ghost_past_all out not_below over = sym (sym (ghost_above es sound.rising range part key low x found out not_below) ∙
      no_ghost_past es sound range (x.part + 1) over)

-- ---- runs that have nothing in the range

-- a look may pass them
pub look_passes : (es : List Entry) (range : Interval) (run : ℕ) → 0 < run → HasNoneBefore es range run →
    first_such (in_parts_from run range) es ≡ first_such (in_parts_from 1 range) es
look_passes es range run some none =
    first_same (in_parts_from run range) (in_parts_from 1 range) es
    (AllByRecursion-map (λ e. 0 < e.part → e.part < run → within range e.key ≡ false)
    (λ e. in_parts_from run range e ≡ in_parts_from 1 range e)
    (λ e h. same_test (in_parts_from run range e) (in_parts_from 1 range e)
    (λ t. let p = and_parts (nat_le run e.part) (within range e.key) t in
    let le : run ≤ e.part = leb-true run e.part p.0 in
    and_from (nat_le 1 e.part) (within range e.key) (le-leb 1 e.part (omega (arith, le, some))) p.1)
    (λ t. let p = and_parts (nat_le 1 e.part) (within range e.key) t in
    let le : 1 ≤ e.part = leb-true 1 e.part p.0 in
    and_from (nat_le run e.part) (within range e.key)
    (⊎_elim (λ (less : e.part < run). absurd (both_ways (within range e.key) (h (omega (arith, le)) less) p.1))
    (λ (on : run ≤ e.part). le-leb run e.part on) (cases_lt e.part run)) p.1))
    es none)

-- and where it finds nothing, it has passed all
pub none_in_runs : (es : List Entry) (range : Interval) (run : ℕ) → first_such (in_parts_from 1 range) es ≡ None →
    HasNoneBefore es range run
none_in_runs es range run none =
    AllByRecursion-map (λ e. in_parts_from 1 range e ≡ false) (λ e. 0 < e.part → e.part < run →
    within range e.key ≡ false)
    (λ e h some less. false_from_ne_true (within range e.key)
    (λ yes. both_ways (in_parts_from 1 range e) h
    (and_from (nat_le 1 e.part) (within range e.key) (le-leb 1 e.part (omega (arith, some))) yes))) es
    (none_such (in_parts_from 1 range) es none)
