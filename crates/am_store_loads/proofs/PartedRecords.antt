-- Rising records parted at a key: those below it, and the others.
use Rattle.std.proofs.Common.{◌≡◌, ℕ, ◌<◌, ◌≤◌, zero, suc, Bool, true, false, ◌&&◌, ◌||◌, not, cond, List, [], ◌∷◌}
use Rattle.std.proofs.Common.{◌+◌, ◌-◌, length, get_or, take, drop, filter, refl, sym, ap, ◌∙◌, subst, arith}
use Rattle.std.proofs.lemmas.Bool.{cond-true, cond-false, true≢false, false≢true, false_from_ne_true}
use Rattle.std.proofs.Math.Bool.{and-false}
use Rattle.std.proofs.lemmas.List.{length-drop, drop-drop, get_or-drop, get_or_default}
use Rattle.std.specs.declared.cmp.Ordering.{Ordering}
use Rattle.std.specs.declared.cmp.Ordering.TheVariants.{Less, Equal, Greater}
use Rattle.std.specs.Ordering.{is_lt, is_le, ordering_reverse}
use Rattle.std.specs.List.{AllWithin}
use Rattle.std.specs.List.Sorted.{IsPartitionedBy, IsPartitionPoint}
use Rattle.std.specs.FinMap.{is_sorted}
use Rattle.am_record.specs.OrderedKey.{OrderedKey, key_cmp, key_cmp-total, key_eq-exact}
use Rattle.am_record.specs.Interval.{key_le}
use Rattle.am_record.specs.Plain.{Records, is_key_of}
use Rattle.am_record.proofs.FirstRows.{key_eq, Record}
use Rattle.am_record.proofs.RisingRecords.{Below, sorted_parts, sorted_from}
use Rattle.am_record.proofs.Orderings.{is_less}

-- ---- orders of keys

pub not_less : (q k : OrderedKey) → is_lt (key_cmp q k) ≡ false → key_le k q ≡ true
not_less q k h = ap is_le (key_cmp-total.antisymm k q) ∙ turned (key_cmp q k) h
  where
    turned : (o : Ordering) → is_lt o ≡ false → is_le (ordering_reverse o) ≡ true
    turned Less h = absurd (true≢false h)
    turned Equal h = refl
    turned Greater h = refl

pub less_not : (q k : OrderedKey) → is_lt (key_cmp q k) ≡ true → key_le k q ≡ true → ⊥
less_not q k less le = opposed (key_cmp q k) less (sym (ap is_le (key_cmp-total.antisymm k q)) ∙ le)
  where
    opposed : (o : Ordering) → is_lt o ≡ true → is_le (ordering_reverse o) ≡ true → ⊥
    opposed Less less le = false≢true le
    opposed Equal less le = false≢true less
    opposed Greater less le = false≢true less

-- ---- the front of a list that passes a test, and the rest that doesn't

module _ {X : Type 0} (test : X → Bool) where
  none_pass : (xs : List X) → ((k : ℕ) (d : X) → k < length xs → test (get_or xs k d) ≡ false) → (filter test xs ≡ []) ×
      (filter (λ x. not (test x)) xs ≡ xs)
  none_pass [] fails = (refl, refl)
  none_pass (x ∷ xs) fails =
      let here : test x ≡ false = fails 0 x (omega arith) in
      let later = none_pass xs (λ k d less. fails (suc k) d (omega arith)) in (
        cond-false (test x) (x ∷ filter test xs) (filter test xs) here ∙ later.0,
        cond-true (not (test x)) (x ∷ filter (λ y. not (test y)) xs) (filter (λ y. not (test y)) xs) (ap not here) ∙
            ap (λ l. x ∷ l) later.1,
      )

  pub parted : (xs : List X) (i : ℕ) → IsPartitionPoint (λ x. test x ≡ true) (λ x. test x ≡ false) xs i →
      (take i xs ≡ filter test xs) × (drop i xs ≡ filter (λ x. not (test x)) xs)
  parted xs zero point = let none = none_pass xs (λ k d less. point.1 k d (omega arith) less) in
      (sym none.0, sym none.1)
  parted [] (suc i) point = (refl, refl)
  parted (x ∷ xs) (suc i) point =
      let here : test x ≡ true = point.0 0 x (omega arith) (omega arith) in
      let later = parted xs i (
        (λ k d from below. point.0 (suc k) d (omega arith) (omega arith)),
        (λ k d from below. point.1 (suc k) d (omega arith) (omega arith)),
      ) in (
        ap (λ l. x ∷ l) later.0 ∙ sym (cond-true (test x) (x ∷ filter test xs) (filter test xs) here),
        later.1 ∙ sym (cond-false (not (test x)) (x ∷ filter (λ y. not (test y)) xs) (filter (λ y. not (test y)) xs)
            (ap not here)),
      )

  -- the same of what is left of a list from a place on, up to another one
  pub parted_from : (xs : List X) (from to : ℕ) → from ≤ to → to ≤ length xs →
      AllWithin (λ x. test x ≡ true) xs from to → AllWithin (λ x. test x ≡ false) xs to (length xs) →
      (take (to - from) (drop from xs) ≡ filter test (drop from xs)) ×
      (drop to xs ≡ filter (λ x. not (test x)) (drop from xs))
  parted_from xs from to order within pass fail =
      let both = parted (drop from xs) (to - from) (
        (λ k d low below. subst (λ x. test x ≡ true) (sym (get_or-drop from xs k d))
            (pass (from + k) d (omega arith) (omega (arith, below, order)))),
        (λ k d low below. subst (λ x. test x ≡ false) (sym (get_or-drop from xs k d))
            (fail (from + k) d (omega (arith, low, order)) (omega (arith, below, length-drop from xs)))),
      ) in (
        both.0,
        ap (λ n. drop n xs) (omega (arith, order)) ∙ sym (drop-drop (to - from) from xs) ∙ both.1,
      )

-- ---- records below a key

above_at : (low : OrderedKey) (rs : Records) (j : ℕ) (d : Record) → Below low rs → j < length rs →
    key_cmp low (get_or rs j d).0 ≡ Less
above_at low [] j d below less = absurd (omega arith)
above_at low (r ∷ rs) zero d below less = below.0
above_at low (r ∷ rs) (suc j) d below less = above_at low rs j d below.1 (omega arith)

pub sorted_partitioned : (key : OrderedKey) (rs : Records) → is_sorted key_cmp rs ≡ true →
    IsPartitionedBy (λ (r : Record). is_lt (key_cmp r.0 key)) rs
sorted_partitioned key [] sorted i j d le less h = absurd (omega arith)
sorted_partitioned key (r ∷ rs) sorted zero zero d le less h = h
sorted_partitioned key (r ∷ rs) sorted zero (suc j) d le less h =
    ap is_lt (key_cmp-total.trans r.0 (get_or rs j d).0 key
    (above_at r.0 rs j d (sorted_parts r rs sorted).0 (omega arith)) (is_less (key_cmp (get_or rs j d).0 key) h))
sorted_partitioned key (r ∷ rs) sorted (suc i) zero d le less h = absurd (omega arith)
sorted_partitioned key (r ∷ rs) sorted (suc i) (suc j) d le less h =
    sorted_partitioned key rs (sorted_parts r rs sorted).1 i j d (omega arith) (omega arith) h

-- up to a record below the key all are
pub all_below_to : (key : OrderedKey) (rs : Records) → is_sorted key_cmp rs ≡ true → (i : ℕ) (r : Record) →
    i < length rs → is_lt (key_cmp (get_or rs i r).0 key) ≡ true
    → (k : ℕ) (d : Record) → k ≤ i → is_lt (key_cmp (get_or rs k d).0 key) ≡ true
all_below_to key rs sorted i r inside less k d le = sorted_partitioned key rs sorted k i d le inside
    (ap (λ (x : Record). is_lt (key_cmp x.0 key)) (get_or_default rs i d r inside) ∙ less)

-- from a record at or above the key on none is below it
pub none_below_from : (key : OrderedKey) (rs : Records) → is_sorted key_cmp rs ≡ true → (i : ℕ) (r : Record) →
    i < length rs → key_le key (get_or rs i r).0 ≡ true
    → (k : ℕ) (d : Record) → i ≤ k → k < length rs → is_lt (key_cmp (get_or rs k d).0 key) ≡ false
none_below_from key rs sorted i r inside le k d from below =
    false_from_ne_true (is_lt (key_cmp (get_or rs k d).0 key)) (λ yes.
    less_not (get_or rs i d).0 key (sorted_partitioned key rs sorted i k d from below yes)
    (ap (λ (x : Record). key_le key x.0) (get_or_default rs i d r inside) ∙ le))

-- ---- the first few of some records

below_taken : (low : OrderedKey) (n : ℕ) (rs : Records) → Below low rs → Below low (take n rs)
below_taken low zero rs below = tt
below_taken low (suc n) [] below = tt
below_taken low (suc n) (r ∷ rs) below = (below.0, below_taken low n rs below.1)

pub sorted_taken : (n : ℕ) (rs : Records) → is_sorted key_cmp rs ≡ true → is_sorted key_cmp (take n rs) ≡ true
sorted_taken zero rs sorted = refl
sorted_taken (suc n) [] sorted = refl
sorted_taken (suc n) (r ∷ rs) sorted =
    let parts = sorted_parts r rs sorted in
    sorted_from r (take n rs) (below_taken r.0 n rs parts.0) (sorted_taken n rs parts.1)

-- ---- records whose keys pass a test

abbrev pub is_below : OrderedKey → OrderedKey → Bool
is_below key q = is_lt (key_cmp q key)

one_more : (passes here later last : Bool) → (here ≡ true → passes ≡ last) → cond passes (here || (later && last))
    (later && last) ≡ ((here || later) && last)
one_more true true later last h = h refl
one_more true false later last h = refl
one_more false true later last h = subst (λ b. (later && b) ≡ b) (h refl) (and-false later)
one_more false false later last h = refl

module _ (test : OrderedKey → Bool) where
  abbrev pub kept : Records → Records
  kept rs = filter (λ (r : Record). test r.0) rs

  pub is_key_kept : (rs : Records) (q : OrderedKey) → is_key_of (kept rs) q ≡ (is_key_of rs q && test q)
  is_key_kept [] q = refl
  is_key_kept (r ∷ rs) q =
      elim (test r.0) as (λ b. is_key_of (cond b (r ∷ kept rs) (kept rs)) q ≡ cond b
      (key_eq q r.0 || is_key_of (kept rs) q) (is_key_of (kept rs) q)) [ true ↦ refl | false ↦ refl ]
      ∙ ap (λ b. cond (test r.0) (key_eq q r.0 || b) b) (is_key_kept rs q)
      ∙ one_more (test r.0) (key_eq q r.0) (is_key_of rs q) (test q) (λ tie. ap test (sym (key_eq-exact q r.0 tie)))

  below_kept : (low : OrderedKey) (rs : Records) → Below low rs → Below low (kept rs)
  below_kept low [] below = tt
  below_kept low (r ∷ rs) below = elim (test r.0) as (λ b. Below low (cond b (r ∷ kept rs) (kept rs)))
      [ true ↦ (below.0, below_kept low rs below.1) | false ↦ below_kept low rs below.1 ]

  pub sorted_kept : (rs : Records) → is_sorted key_cmp rs ≡ true → is_sorted key_cmp (kept rs) ≡ true
  sorted_kept [] sorted = refl
  sorted_kept (r ∷ rs) sorted =
      let parts = sorted_parts r rs sorted in
      elim (test r.0) as (λ b. is_sorted key_cmp (cond b (r ∷ kept rs) (kept rs)) ≡ true) [
        | true ↦ sorted_from r (kept rs) (below_kept r.0 rs parts.0) (sorted_kept rs parts.1)
        | false ↦ sorted_kept rs
            parts.1
      ]
