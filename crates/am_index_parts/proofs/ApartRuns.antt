-- Runs in order: what a search among them finds, and what each change leaves.
use Rattle.std.proofs.Common.{◌≡◌, ◌⊎◌, inl, inr, ⊎_elim, ℕ, zero, suc, ◌<◌, Bool, true, false, cond, List, [], ◌∷◌}
use Rattle.std.proofs.Common.{length, get_or, take, drop, refl, sym, ap, ◌∙◌, subst, arith}
use Rattle.std.specs.Prelude.{filter}
use Rattle.std.proofs.lemmas.Bool.{and_from, and_left, and_right, and_parts, cond-true}
use Rattle.std.proofs.lemmas.Bool.{both_ways, false_from_ne_true, true_from_ne_false, true≢false, false≢true}
use Rattle.std.specs.List.{AllByRecursion, insert, remove}
use Rattle.std.specs.List.Sorted.{IsPartitionedBy}
use Rattle.std.specs.declared.cmp.Ordering.{Ordering}
use Rattle.std.specs.declared.cmp.Ordering.TheVariants.{Less, Equal, Greater}
use Rattle.std.specs.Ordering.{is_le, is_lt, ordering_reverse}
use Rattle.am_record.specs.OrderedKey.{OrderedKey, key_cmp, key_cmp-total}
use Rattle.am_record.specs.Interval.{Interval, key_le, within, meets, point}
use Rattle.am_record.proofs.KeyOrder.{key_le_trans, key_le_total}
use Rattle.am_record.proofs.Lists.{AllByRecursion-map, AllByRecursion-at, AllByRecursion-filter}
use Rattle.am_index_parts.specs.declared.apart_runs.ApartRun.{ApartRun}
use Rattle.am_index_parts.specs.ApartRuns.{StandsApart, AreInOrder, NoneMeets}

-- ---- the order of keys

-- one of two keys is up to the other
other_way : (a b : OrderedKey) → key_le a b ≡ false → key_le b a ≡ true
other_way a b past = ⊎_elim (λ yes. absurd (both_ways (key_le a b) past yes)) (λ yes. yes) (key_le_total a b)

reversed : (a b : OrderedKey) (o : Ordering) → key_cmp a b ≡ o → key_le b a ≡ is_le (ordering_reverse o)
reversed a b o h = ap is_le (key_cmp-total.antisymm b a ∙ ap ordering_reverse h)

pub before_it : (a b : OrderedKey) → is_lt (key_cmp a b) ≡ true → key_le b a ≡ false
before_it a b h = by_order (key_cmp a b) refl h
  where
    by_order : (o : Ordering) → key_cmp a b ≡ o → is_lt o ≡ true → key_le b a ≡ false
    by_order Less is lt = reversed a b Less is
    by_order Equal is lt = absurd (false≢true lt)
    by_order Greater is lt = absurd (false≢true lt)

pub not_before : (a b : OrderedKey) → is_lt (key_cmp a b) ≡ false → key_le b a ≡ true
not_before a b h = by_order (key_cmp a b) refl h
  where
    by_order : (o : Ordering) → key_cmp a b ≡ o → is_lt o ≡ false → key_le b a ≡ true
    by_order Less is lt = absurd (true≢false lt)
    by_order Equal is lt = reversed a b Equal is
    by_order Greater is lt = reversed a b Greater is

-- what isn't up to a key isn't up to one below it
not_up_to : (x lower key : OrderedKey) → key_le lower key ≡ true → key_le x key ≡ false → key_le x lower ≡ false
not_up_to x lower key le past = false_from_ne_true (key_le x lower)
    (λ yes. both_ways (key_le x key) past (key_le_trans x lower key yes le))

-- nor is what is above it
not_from : (x above key : OrderedKey) → key_le x above ≡ true → key_le x key ≡ false → key_le above key ≡ false
not_from x above key le past = false_from_ne_true (key_le above key)
    (λ yes. both_ways (key_le x key) past (key_le_trans x above key le yes))

-- ---- the search

-- whether the run ends before the key
abbrev pub ends_before : OrderedKey → ApartRun → Bool
ends_before key a = is_lt (key_cmp a.range.hi key)

-- each range has its ends in order
ordered_at : (rs : List ApartRun) (i : ℕ) (d : ApartRun) → AreInOrder rs → i < length rs →
    key_le (get_or rs i d).range.lo (get_or rs i d).range.hi ≡ true
ordered_at [] i d order lt = absurd (omega (arith, lt))
ordered_at (a ∷ rs) zero d order lt = order.0
ordered_at (a ∷ rs) (suc i) d order lt = ordered_at rs i d order.2 (omega (arith, lt))

-- where one ends before the key, an earlier one does
ends_earlier : (a b : ApartRun) (key : OrderedKey) → key_le b.range.lo a.range.hi ≡ false →
    key_le b.range.lo b.range.hi ≡ true → ends_before key b ≡ true → ends_before key a ≡ true
ends_earlier a b key apart ordered ends =
    let past : key_le key b.range.hi ≡ false = before_it b.range.hi key ends in
    true_from_ne_false (ends_before key a) (λ not_yet.
    let up : key_le key b.range.lo ≡ true =
    key_le_trans key a.range.hi b.range.lo (not_before a.range.hi key not_yet)
    (other_way b.range.lo a.range.hi apart) in
    both_ways (key_le key b.range.hi) past (key_le_trans key b.range.lo b.range.hi up ordered))

pub parted : (key : OrderedKey) (rs : List ApartRun) → AreInOrder rs → IsPartitionedBy (ends_before key) rs
parted key [] order i j d le lt h = absurd (omega arith)
parted key (a ∷ rs) order zero zero d le lt h = h
parted key (a ∷ rs) order zero (suc j) d le lt h =
    ends_earlier a (get_or rs j d) key
    (AllByRecursion-at (λ (b : ApartRun). key_le b.range.lo a.range.hi ≡ false) rs j d order.1 (omega arith))
    (ordered_at rs j d order.2 (omega arith)) h
parted key (a ∷ rs) order (suc i) zero d le lt h = absurd (omega arith)
parted key (a ∷ rs) order (suc i) (suc j) d le lt h = parted key rs order.2 i j d (omega arith) (omega arith) h

-- ---- what the first one that doesn't end before a range says of all

-- these end before the key, or at it or later
abbrev pub EndBefore : OrderedKey → List ApartRun → Type 0
EndBefore key rs = AllByRecursion (λ (a : ApartRun). key_le key a.range.hi ≡ false) rs

abbrev pub EndLater : OrderedKey → List ApartRun → Type 0
EndLater key rs = AllByRecursion (λ (a : ApartRun). key_le key a.range.hi ≡ true) rs

pub none_meets : (rs : List ApartRun) (range : Interval) (at : ℕ) → AreInOrder rs → EndBefore range.lo (take at rs) →
    EndLater range.lo (drop at rs) →
    ((d : ApartRun) → at < length rs → meets (get_or rs at d).range range ≡ false) → NoneMeets rs range
none_meets [] range at order before from misses = tt
none_meets (a ∷ rs) range zero order before from misses =
    let above : key_le a.range.lo range.hi ≡ false = false_from_ne_true (key_le a.range.lo range.hi)
    (λ yes. both_ways (meets a.range range) (misses a (omega arith))
    (and_from (key_le a.range.lo range.hi) (key_le range.lo a.range.hi) yes from.0)) in (
      misses a (omega arith),
      AllByRecursion-map (λ (b : ApartRun). key_le b.range.lo a.range.hi ≡ false)
          (λ (b : ApartRun). meets b.range range ≡ false)
          (λ b apart. and_left (key_le b.range.lo range.hi) (key_le range.lo b.range.hi)
          (not_from a.range.lo b.range.lo range.hi (key_le_trans a.range.lo a.range.hi b.range.lo order.0
          (other_way b.range.lo a.range.hi apart)) above)) rs order.1,
    )
none_meets (a ∷ rs) range (suc at) order before from misses = (
  and_right (key_le a.range.lo range.hi) (key_le range.lo a.range.hi) before.0,
  none_meets rs range at order.2 before.1 from (λ d lt. misses d (omega (arith, lt))),
)

-- ---- where a key stands

pub stands_at : (rs : List ApartRun) (key : OrderedKey) (i : ℕ) (d : ApartRun) → i < length rs →
    within (get_or rs i d).range key ≡ true → StandsApart rs (get_or rs i d).part key
stands_at [] key i d lt there = absurd (omega (arith, lt))
stands_at (a ∷ rs) key zero d lt there = inl (refl, there)
stands_at (a ∷ rs) key (suc i) d lt there = inr (stands_at rs key i d (omega (arith, lt)) there)

pub stands_nowhere : (rs : List ApartRun) (part : ℕ) (key : OrderedKey) → NoneMeets rs (point key) →
    StandsApart rs part key → ⊥
stands_nowhere [] part key none it = it
stands_nowhere (a ∷ rs) part key none (inl here) = both_ways (within a.range key) none.0 here.1
stands_nowhere (a ∷ rs) part key none (inr later) = stands_nowhere rs part key none.1 later

-- where the key lies in the first one it lies in no later one
behind : (a : ApartRun) (rs : List ApartRun) (part : ℕ) (key : OrderedKey) →
    AllByRecursion (λ (b : ApartRun). key_le b.range.lo a.range.hi ≡ false) rs → within a.range key ≡ true →
    StandsApart rs part key → ⊥
behind a rs part key apart there = stands_nowhere rs part key
    (AllByRecursion-map (λ (b : ApartRun). key_le b.range.lo a.range.hi ≡ false)
    (λ (b : ApartRun). within b.range key ≡ false)
    (λ b above. and_left (key_le b.range.lo key) (key_le key b.range.hi) (not_up_to b.range.lo key a.range.hi
    (and_parts (key_le a.range.lo key) (key_le key a.range.hi) there).1 above)) rs apart)

pub only_one : (rs : List ApartRun) (p q : ℕ) (key : OrderedKey) → AreInOrder rs → StandsApart rs p key →
    StandsApart rs q key → p ≡ q
only_one [] p q key order one other = absurd one
only_one (a ∷ rs) p q key order (inl here) (inl there) = sym here.0 ∙ there.0
only_one (a ∷ rs) p q key order (inl here) (inr later) = absurd (behind a rs q key order.1 here.1 later)
only_one (a ∷ rs) p q key order (inr later) (inl here) = absurd (behind a rs p key order.1 here.1 later)
only_one (a ∷ rs) p q key order (inr one) (inr other) = only_one rs p q key order.2 one other

-- ---- one more

all_with : (P : ApartRun → Type 0) (rs : List ApartRun) (i : ℕ) (run : ApartRun) → AllByRecursion P rs → P run →
    AllByRecursion P (insert rs i run)
all_with P [] zero run all is = (is, tt)
all_with P [] (suc i) run all is = (is, tt)
all_with P (a ∷ rs) zero run all is = (is, all)
all_with P (a ∷ rs) (suc i) run all is = (all.0, all_with P rs i run all.1 is)

-- what ends later than a range begins and doesn't meet it begins behind it
all_behind : (run : ApartRun) (rs : List ApartRun) → EndLater run.range.lo rs → NoneMeets rs run.range →
    AllByRecursion (λ (b : ApartRun). key_le b.range.lo run.range.hi ≡ false) rs
all_behind run [] later none = tt
all_behind run (b ∷ rs) later none = (
  false_from_ne_true (key_le b.range.lo run.range.hi) (λ yes. both_ways (meets b.range run.range) none.0
      (and_from (key_le b.range.lo run.range.hi) (key_le run.range.lo b.range.hi) yes later.0)),
  all_behind run rs later.1 none.1,
)

pub in_order_with : (rs : List ApartRun) (i : ℕ) (run : ApartRun) → AreInOrder rs → NoneMeets rs run.range →
    key_le run.range.lo run.range.hi ≡ true → EndBefore run.range.lo (take i rs) → EndLater run.range.lo (drop i rs)
    → AreInOrder (insert rs i run)
in_order_with [] zero run order none ordered before from = (ordered, tt, tt)
in_order_with [] (suc i) run order none ordered before from = (ordered, tt, tt)
in_order_with (a ∷ rs) zero run order none ordered before from =
    (ordered, all_behind run (a ∷ rs) from none, order)
in_order_with (a ∷ rs) (suc i) run order none ordered before from = (
  order.0,
  all_with (λ (b : ApartRun). key_le b.range.lo a.range.hi ≡ false) rs i run order.1 before.0,
  in_order_with rs i run order.2 none.1 ordered before.1 from,
)

module _ (part : ℕ) (key : OrderedKey) where
  pub stands_still : (rs : List ApartRun) (i : ℕ) (run : ApartRun) → StandsApart rs part key →
      StandsApart (insert rs i run) part key
  stands_still [] i run it = absurd it
  stands_still (a ∷ rs) zero run it = inr it
  stands_still (a ∷ rs) (suc i) run (inl here) = inl here
  stands_still (a ∷ rs) (suc i) run (inr later) = inr (stands_still rs i run later)

  pub stands_new : (rs : List ApartRun) (i : ℕ) (run : ApartRun) → run.part ≡ part → within run.range key ≡ true →
      StandsApart (insert rs i run) part key
  stands_new [] zero run is there = inl (is, there)
  stands_new [] (suc i) run is there = inl (is, there)
  stands_new (a ∷ rs) zero run is there = inl (is, there)
  stands_new (a ∷ rs) (suc i) run is there = inr (stands_new rs i run is there)

  -- ---- one less

  pub stands_or_gone : (rs : List ApartRun) (i : ℕ) (d : ApartRun) → StandsApart rs part key →
      StandsApart (remove rs i) part key ⊎ (((get_or rs i d).part ≡ part) × (within (get_or rs i d).range key ≡ true))
  stands_or_gone [] i d it = absurd it
  stands_or_gone (a ∷ rs) zero d (inl here) = inr here
  stands_or_gone (a ∷ rs) zero d (inr later) = inl later
  stands_or_gone (a ∷ rs) (suc i) d (inl here) = inl (inl here)
  stands_or_gone (a ∷ rs) (suc i) d (inr later) =
      ⊎_elim (λ stays. inl (inr stays)) (λ gone. inr gone) (stands_or_gone rs i d later)

  pub stands_among : (test : ℕ → Bool) (rs : List ApartRun) → test part ≡ true → StandsApart rs part key →
      StandsApart (filter (λ (a : ApartRun). test a.part) rs) part key
  stands_among test [] stays it = absurd it
  stands_among test (a ∷ rs) stays (inl here) =
      subst (λ (l : List ApartRun). StandsApart l part key) (sym (cond-true (test a.part) _ _ (ap test here.0 ∙ stays)))
      (inl here)
  stands_among test (a ∷ rs) stays (inr later) =
      let rest = stands_among test rs stays later in
      elim (test a.part) as (λ t. StandsApart (cond t (a ∷ filter (λ (b : ApartRun). test b.part) rs)
      (filter (λ (b : ApartRun). test b.part) rs)) part key) [ true ↦ inr rest | false ↦ rest ]

all_without : (P : ApartRun → Type 0) (rs : List ApartRun) (i : ℕ) → AllByRecursion P rs →
    AllByRecursion P (remove rs i)
all_without P [] zero all = tt
all_without P [] (suc i) all = tt
all_without P (a ∷ rs) zero all = all.1
all_without P (a ∷ rs) (suc i) all = (all.0, all_without P rs i all.1)

pub in_order_without : (rs : List ApartRun) (i : ℕ) → AreInOrder rs → AreInOrder (remove rs i)
in_order_without [] zero order = tt
in_order_without [] (suc i) order = tt
in_order_without (a ∷ rs) zero order = order.2
in_order_without (a ∷ rs) (suc i) order = (
  order.0,
  all_without (λ (b : ApartRun). key_le b.range.lo a.range.hi ≡ false) rs i order.1,
  in_order_without rs i order.2,
)

pub in_order_among : (test : ApartRun → Bool) (rs : List ApartRun) → AreInOrder rs → AreInOrder (filter test rs)
in_order_among test [] order = tt
in_order_among test (a ∷ rs) order =
    let rest = in_order_among test rs order.2 in
    elim (test a) as (λ t. AreInOrder (cond t (a ∷ filter test rs) (filter test rs))) [
      | true ↦ (
        order.0,
        AllByRecursion-filter (λ (b : ApartRun). key_le b.range.lo a.range.hi ≡ false) test rs order.1,
        rest,
      )
      | false ↦ rest
    ]
