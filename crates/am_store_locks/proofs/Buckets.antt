-- The buckets of locks and keys: a lock with a key in its range is in that key's bucket, or in the last one.
use Rattle.std.proofs.Common.{◌≡◌, ◌≢◌, ℕ, ◌≤◌, Bool, true, false, cond, not, ◌==◌, ◌&&◌, ◌||◌, refl, sym, ap}
use Rattle.std.proofs.Common.{◌∙◌, subst, arith}
use Rattle.std.proofs.lemmas.Bool.{and_parts, and_from, or_left, or_right, eq-eqb}
use Rattle.am_record.specs.OrderedKey.{OrderedKey, key_eq-exact}
use Rattle.am_record.specs.Interval.{Interval, key_le, within}
use Rattle.am_record.specs.Locks.{conflicts, covers, is_exclusive, are_compatible}
use Rattle.am_record.specs.declared.lock.Mode.{Mode}
use Rattle.am_record.specs.declared.lock.Mode.TheVariants.{Shared, Exclusive}
use Rattle.am_record.specs.declared.lock.Lock.{Lock}
use Rattle.am_record.proofs.FirstRows.{le_both}
use Rattle.am_store_locks.specs.KeyCounts.{key_bucket, has_one_key, bucket_of, may_clash}

pub the_one_key : (r : Interval) (key : OrderedKey) → r.lo ≡ r.hi → within r key ≡ true → key ≡ r.lo
the_one_key r key one h =
    let parts = and_parts _ _ h in
    le_both key r.lo (ap (key_le key) one ∙ parts.1) parts.0

pub key_bucket-few : (key : OrderedKey) → key_bucket key ≤ 32767
key_bucket-few key = omega arith

few : (b : Bool) (n : ℕ) → n ≤ 32767 → cond b n 32768 ≤ 32768
few true n h = omega (arith, h)
few false n h = omega arith

pub bucket_of-few : (l : Lock) → bucket_of l ≤ 32768
bucket_of-few l = few (has_one_key l) (key_bucket l.range.lo) (key_bucket-few l.range.lo)

-- a lock of one key
pub record HasOneKey (l : Lock) : Type 0 where
  pub ends : l.range.lo ≡ l.range.hi
  pub bucket : bucket_of l ≡ key_bucket l.range.lo

with_one : (l : Lock) → has_one_key l ≡ true → HasOneKey l
with_one l e = record {
  ends = key_eq-exact _ _ e;
  bucket = ap (λ b. cond b (key_bucket l.range.lo) 32768) e;
}

with_more : (l : Lock) → has_one_key l ≡ false → bucket_of l ≡ 32768
with_more l e = ap (λ b. cond b (key_bucket l.range.lo) 32768) e

-- what is not in the last bucket has one key
one_key : (l : Lock) (b : Bool) → has_one_key l ≡ b → bucket_of l ≢ 32768 → HasOneKey l
one_key l true e n = with_one l e
one_key l false e n = absurd (n (with_more l e))

pub HasOneKey-from_bucket : (l : Lock) (bucket : ℕ) → bucket ≡ bucket_of l → bucket ≢ 32768 → HasOneKey l
HasOneKey-from_bucket l bucket e n = one_key l (has_one_key l) refl (λ w. n (e ∙ w))

-- ---- what has a key in its range

abbrev pub is_at : ℕ → Lock → Bool
is_at bucket l = (bucket_of l == bucket) || (bucket_of l == 32768)

at_key : (l : Lock) (key : OrderedKey) (b : Bool) → has_one_key l ≡ b → within l.range key ≡ true →
    is_at (key_bucket key) l ≡ true
at_key l key true e w =
    let one = with_one l e in
    or_left _ _ (eq-eqb _ _ (one.bucket ∙ ap key_bucket (sym (the_one_key l.range key one.ends w))))
at_key l key false e w = or_right _ _ (eq-eqb _ _ (with_more l e))

pub is_at-from_within : (l : Lock) (key : OrderedKey) → within l.range key ≡ true → is_at (key_bucket key) l ≡ true
is_at-from_within l key w = at_key l key (has_one_key l) refl w

-- ---- what is in the way of a lock of one key

pub never : (m : Mode) → not (are_compatible Exclusive m) ≡ true
never Shared = refl
never Exclusive = refl

-- whether the lock has the key, and doesn't go with the mode
abbrev pub clashes_at : OrderedKey → Mode → Lock → Bool
clashes_at key mode l = within l.range key && not (are_compatible mode l.mode)

-- whether it has the key, and makes a lock of the mode needless
abbrev pub covers_at : OrderedKey → Mode → Lock → Bool
covers_at key mode l = within l.range key && (is_exclusive l.mode || not (is_exclusive mode))

module _ (asked : Lock) (bucket : ℕ) (is : bucket ≡ bucket_of asked) (one : bucket ≢ 32768) where
  key : HasOneKey asked
  key = HasOneKey-from_bucket asked bucket is one

  place : key_bucket asked.range.lo ≡ bucket
  place = sym (is ∙ key.bucket)

  pub may_clash-from_conflict : (l : Lock) → conflicts asked l ≡ true → may_clash asked.mode bucket l ≡ true
  may_clash-from_conflict l h =
      let parts = and_parts _ _ h in
      let ends = and_parts _ _ parts.0 in
      let has : within l.range asked.range.lo ≡ true = and_from _ _ (ap (key_le l.range.lo) key.ends ∙ ends.1) ends.0 in
      and_from _ _ (subst (λ n. is_at n l ≡ true) place (is_at-from_within l asked.range.lo has)) parts.1

  pub may_clash-from_clash : (l : Lock) → clashes_at asked.range.lo asked.mode l ≡ true →
      may_clash asked.mode bucket l ≡ true
  may_clash-from_clash l h =
      let parts = and_parts _ _ h in
      and_from _ _ (subst (λ n. is_at n l ≡ true) place (is_at-from_within l asked.range.lo parts.0)) parts.1

  -- what covers it may clash with an exclusive lock
  pub may_clash-from_covers : (l : Lock) → covers l asked ≡ true → may_clash Exclusive bucket l ≡ true
  may_clash-from_covers l h =
      let ends = and_parts _ _ (and_parts _ _ h).0 in
      let has : within l.range asked.range.lo ≡ true = and_from _ _ ends.0
      (ap (λ k. key_le k l.range.hi) key.ends ∙ ends.1) in
      and_from _ _ (subst (λ n. is_at n l ≡ true) place (is_at-from_within l asked.range.lo has)) (never l.mode)

  -- as tests of the key
  swap : (x y : Bool) → (x && y) ≡ (y && x)
  swap true true = refl
  swap true false = refl
  swap false true = refl
  swap false false = refl

  pub conflicts-clashes_at : (l : Lock) → conflicts asked l ≡ clashes_at asked.range.lo asked.mode l
  conflicts-clashes_at l =
      (λ i. (key_le asked.range.lo l.range.hi && key_le l.range.lo (sym key.ends i)) && not
      (are_compatible asked.mode l.mode))
      ∙ ap (λ b. b && not (are_compatible asked.mode l.mode))
      (swap (key_le asked.range.lo l.range.hi) (key_le l.range.lo asked.range.lo))

  pub covers-covers_at : (l : Lock) → covers l asked ≡ covers_at asked.range.lo asked.mode l
  covers-covers_at l i =
      (key_le l.range.lo asked.range.lo && key_le (sym key.ends i) l.range.hi) && (is_exclusive l.mode || not
      (is_exclusive asked.mode))

  pub asked_bucket : bucket ≡ key_bucket asked.range.lo
  asked_bucket = sym place

-- ---- an exclusive lock on a key

apart_from_shared : (m : Mode) → is_exclusive m ≡ true → not (are_compatible Shared m) ≡ true
apart_from_shared Exclusive e = refl
apart_from_shared Shared e = cc

pub may_clash-from_exclusive : (l : Lock) (key : OrderedKey) → (is_exclusive l.mode && within l.range key) ≡ true →
    may_clash Shared (key_bucket key) l ≡ true
may_clash-from_exclusive l key h =
    let parts = and_parts _ _ h in
    and_from _ _ (is_at-from_within l key parts.1) (apart_from_shared l.mode parts.0)
