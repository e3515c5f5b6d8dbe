-- The locks of all owners, and how many of them pass a test.
use Rattle.std.proofs.Common.{◌≡◌, ◌≢◌, ℕ, ◌+◌, ◌<◌, ◌≤◌, List, [], ◌∷◌, ◌++◌, length, get_or, set, take, drop, map}
use Rattle.std.proofs.Common.{Bool, true, false, cond, not, ◌==◌, ◌&&◌, ◌||◌, All, refl, sym, ap, ◌∙◌, arith}
use Rattle.std.specs.List.{list_any, count_by, sum_by}
use Rattle.std.proofs.lemmas.Bool.{eqb-true, eqb-false, or_parts, both_ways, false_from_ne_true, and_from}
use Rattle.std.proofs.lemmas.Bool.{and_parts}
use Rattle.std.proofs.lemmas.List.{append-nil}
use Rattle.std.proofs.lemmas.List.Concat.{flat_map-append, length-flat_map}
use Rattle.std.proofs.lemmas.List.Elements.{All-nil, All-cons, All-head, All-tail, All-weaker}
use Rattle.std.proofs.lemmas.List.Folds.{list_any-append, Any-from_list_any, list_any_none}
use Rattle.std.proofs.lemmas.List.Sums.{sum_by-append, sum_by-cons, sum_by_push, sum_by-set, sum_by-take-drop}
use Rattle.std.proofs.lemmas.List.Sums.{sum_by-le}
use Rattle.am_record.specs.OrderedKey.{OrderedKey}
use Rattle.am_record.specs.Interval.{within}
use Rattle.am_record.specs.Locks.{conflicts, covers, is_covered, is_exclusive, are_compatible}
use Rattle.am_record.specs.declared.lock.Mode.{Mode}
use Rattle.am_record.specs.declared.lock.Mode.TheVariants.{Shared, Exclusive}
use Rattle.am_record.specs.declared.lock.Lock.{Lock}
use Rattle.am_record.proofs.KeyOrder.{key_le_trans}
use Rattle.am_store_locks.specs.declared.count.Count.{Count}
use Rattle.am_store_locks.specs.OwnerLocks.{OwnerLocks, HasFew, has_conflict, is_exclusive_at, AreApart}
use Rattle.am_store_locks.specs.Table.{locks_owned, entered, without_owner, blockers, exclusive_holders, AreAllApart}
use Rattle.am_store_locks.specs.KeyCounts.{bucket_of, key_bucket, AreCountsOf, all_locks, any_within, may_clash}
use Rattle.am_store_locks.proofs.Apart.{Spares, Spares-own, filter_none}
use Rattle.am_store_locks.proofs.Buckets.{may_clash-from_conflict, may_clash-from_clash, may_clash-from_exclusive}
use Rattle.am_store_locks.proofs.Buckets.{may_clash-from_covers}
use Rattle.am_store_locks.proofs.Buckets.{is_at-from_within, clashes_at, never}
use Rattle.am_store_locks.proofs.LockCounts.{none_counted, count_by-le-count_by, one, one_more, may_clash-counted}
use Rattle.am_store_locks.proofs.LockCounts.{AreCountsOf-same, none_of}
use Rattle.am_record.proofs.Lists.{AllByRecursion-from_All}
use Rattle.am_record.proofs.ByNumber.{has_number-none, without_number-none}

-- ---- counts of the locks of all owners

in_both : (p : Lock → Bool) (xs ys : List Lock) → count_by p (xs ++ ys) ≡ count_by p xs + count_by p ys
in_both p xs ys = sum_by-append (λ l. one (p l)) xs ys

by_owner : (p : Lock → Bool) (table : List OwnerLocks) → count_by p (all_locks table) ≡ sum_by
    (λ (h : OwnerLocks). count_by p h.locks) table
by_owner p [] = refl
by_owner p (h ∷ table) =
    in_both p h.locks (all_locks table) ∙ ap (λ n. count_by p h.locks + n) (by_owner p table)
    ∙ sym (sum_by-cons (λ (g : OwnerLocks). count_by p g.locks) h table)

-- who enters brings none
pub all_locks-entered : (table : List OwnerLocks) (tx : ℕ) → all_locks (entered table tx) ≡ all_locks table
all_locks-entered table tx =
    flat_map-append (λ (h : OwnerLocks). h.locks) table (record { owner = tx; locks = [] } ∷ [])
    ∙ append-nil (all_locks table)

written : (p : Lock → Bool) (table : List OwnerLocks) (i : ℕ) (old new : OwnerLocks) → i < length table →
    old ≡ get_or table i old
    → count_by p (all_locks (set table i new)) + count_by p old.locks ≡ count_by p (all_locks table) +
    count_by p new.locks
written p table i old new inside is = omega (
  arith,
  by_owner p (set table i new),
  by_owner p table,
  sum_by-set (λ (h : OwnerLocks). count_by p h.locks) table i new old inside,
  ap (λ (h : OwnerLocks). count_by p h.locks) is,
)

-- an owner with one lock more
pub counted-added : (table : List OwnerLocks) (i : ℕ) (old new : OwnerLocks) (asked : Lock) → i < length table →
    old ≡ get_or table i old → new.locks ≡ old.locks ++ asked ∷ [] → (p : Lock → Bool) →
    count_by p (asked ∷ all_locks table) ≡ count_by p (all_locks (set table i new))
counted-added table i old new asked inside is e p = omega (
  arith,
  written p table i old new inside is,
  ap (count_by p) e,
  sum_by_push (λ l. one (p l)) old.locks asked,
  one_more p asked (all_locks table),
)

-- an owner with its first locks alone
pub counted-cut : (table : List OwnerLocks) (i n : ℕ) (old new : OwnerLocks) → i < length table →
    old ≡ get_or table i old → new.locks ≡ take n old.locks → (p : Lock → Bool) →
    count_by p (all_locks table) ≡ count_by p (drop n old.locks ++ all_locks (set table i new))
counted-cut table i n old new inside is e p = omega (
  arith,
  written p table i old new inside is,
  ap (count_by p) e,
  sum_by-take-drop (λ l. one (p l)) old.locks n,
  in_both p (drop n old.locks) (all_locks (set table i new)),
)

leaves : (p : Lock → Bool) (h : OwnerLocks) (table : List OwnerLocks) (tx : ℕ) (b : Bool) → (h.owner == tx) ≡ b →
    All (AreApart h) table
    → count_by p (all_locks table) ≡ count_by p (locks_owned table tx ++ all_locks (without_owner table tx))
    → count_by p (h.locks ++ all_locks table) ≡ count_by p
    (cond b h.locks (locks_owned table tx) ++ all_locks (cond (not b) (h ∷ without_owner table tx)
    (without_owner table tx)))
leaves p h table tx true e a rest =
    let others : All (λ (g : OwnerLocks). g.owner ≢ tx) table = λ k d less w.
    (a k d less).numbers (eqb-true h.owner tx e ∙ sym w) in
    ap (λ gs. count_by p (h.locks ++ all_locks gs)) (sym (without_number-none (λ (g : OwnerLocks). g.owner) tx table
    (has_number-none (λ (g : OwnerLocks). g.owner) tx table
    (AllByRecursion-from_All (λ (g : OwnerLocks). g.owner ≢ tx) table others))))
leaves p h table tx false e a rest =
    let own = locks_owned table tx in
    let left = all_locks (without_owner table tx) in
    omega (
      arith,
      rest,
      in_both p own left,
      in_both p h.locks (all_locks table),
      in_both p own (h.locks ++ left),
      in_both p h.locks left,
    )

-- the locks of one owner and those of the others
pub counted-released : (p : Lock → Bool) (table : List OwnerLocks) (tx : ℕ) → AreAllApart table →
    count_by p (all_locks table) ≡ count_by p (locks_owned table tx ++ all_locks (without_owner table tx))
counted-released p [] tx a = refl
counted-released p (h ∷ table) tx a = leaves p h table tx (h.owner == tx) refl a.0 (counted-released p table tx a.1)

-- ---- what is counted once an owner changed

-- once its newest lock was counted
pub AreCountsOf-added : (table : List OwnerLocks) (i : ℕ) (old new : OwnerLocks) (asked : Lock)
    (buckets : List Count) → i < length table → old ≡ get_or table i old → new.locks ≡ old.locks ++ asked ∷ [] →
    AreCountsOf (asked ∷ all_locks table) buckets → AreCountsOf (all_locks (set table i new)) buckets
AreCountsOf-added table i old new asked buckets inside is e counts = AreCountsOf-same (asked ∷ all_locks table)
    (all_locks (set table i new)) buckets (counted-added table i old new asked inside is e) counts

-- its last locks stand before all others
pub AreCountsOf-cut : (table : List OwnerLocks) (i n : ℕ) (old new : OwnerLocks) (buckets : List Count) →
    i < length table → old ≡ get_or table i old → new.locks ≡ take n old.locks → AreCountsOf (all_locks table) buckets →
    AreCountsOf (drop n old.locks ++ all_locks (set table i new)) buckets
AreCountsOf-cut table i n old new buckets inside is e counts = AreCountsOf-same (all_locks table)
    (drop n old.locks ++ all_locks (set table i new)) buckets (counted-cut table i n old new inside is e) counts

-- all its locks do
pub AreCountsOf-released : (table : List OwnerLocks) (tx : ℕ) (buckets : List Count) → AreAllApart table →
    AreCountsOf (all_locks table) buckets → AreCountsOf
    (locks_owned table tx ++ all_locks (without_owner table tx)) buckets
AreCountsOf-released table tx buckets a counts = AreCountsOf-same (all_locks table)
    (locks_owned table tx ++ all_locks (without_owner table tx)) buckets (λ p. counted-released p table tx a) counts

-- 64 owners of at most 256 locks
pub all_locks-few : (table : List OwnerLocks) → length table ≤ 64 → All HasFew table →
    length (all_locks table) ≤ 16384
all_locks-few table short few = omega (
  arith,
  short,
  length-flat_map (λ (h : OwnerLocks). h.locks) table,
  sum_by-le (λ (h : OwnerLocks). length h.locks) 256 table few,
)

-- ---- who has none of the locks that pass a test

pub none_of_any : (p : Lock → Bool) (table : List OwnerLocks) → list_any p (all_locks table) ≡ false →
    All (λ h. list_any p h.locks ≡ false) table
none_of_any p [] e = All-nil (λ h. list_any p h.locks ≡ false)
none_of_any p (h ∷ table) e =
    let parts = or_parts _ _ (sym (list_any-append p h.locks (all_locks table)) ∙ e) in
    All-cons (λ g. list_any p g.locks ≡ false) h table parts.0 (none_of_any p table parts.1)

-- an owner of another number has none
abbrev pub LeavesOthers : (Lock → Bool) → ℕ → OwnerLocks → Type 0
LeavesOthers p tx h = h.owner ≢ tx → list_any p h.locks ≡ false

stays : (p : Lock → Bool) (h : OwnerLocks) (table : List OwnerLocks) (tx : ℕ) (b : Bool) → (h.owner == tx) ≡ b →
    (list_any p (all_locks (without_owner table tx)) ≡ false → All (LeavesOthers p tx) table)
    → list_any p (all_locks (cond (not b) (h ∷ without_owner table tx) (without_owner table tx))) ≡ false →
    All (LeavesOthers p tx) (h ∷ table)
stays p h table tx true e rest none = All-cons (LeavesOthers p tx) h table (λ n. absurd (n (eqb-true h.owner tx e)))
    (rest none)
stays p h table tx false e rest none =
    let parts = or_parts _ _ (sym (list_any-append p h.locks (all_locks (without_owner table tx))) ∙ none) in
    All-cons (LeavesOthers p tx) h table (λ _. parts.0) (rest parts.1)

others : (p : Lock → Bool) (table : List OwnerLocks) (tx : ℕ) →
    list_any p (all_locks (without_owner table tx)) ≡ false → All (LeavesOthers p tx) table
others p [] tx e = All-nil (LeavesOthers p tx)
others p (h ∷ table) tx e = stays p h table tx (h.owner == tx) refl (others p table tx) e

-- where an owner has all of them, nobody else has one
pub LeavesOthers-from_count : (p : Lock → Bool) (table : List OwnerLocks) (tx : ℕ) → AreAllApart table →
    count_by p (all_locks table) ≤ count_by p (locks_owned table tx) → All (LeavesOthers p tx) table
LeavesOthers-from_count p table tx a few = others p table tx (none_counted p (all_locks (without_owner table tx))
    (omega (
      arith,
      few,
      counted-released p table tx a,
      in_both p (locks_owned table tx) (all_locks (without_owner table tx)),
    )))

-- ---- nobody blocks

spared : (h : OwnerLocks) (rest : List OwnerLocks) (tx : ℕ) (asked : Lock) (b : Bool) → (h.owner == tx) ≡ b →
    LeavesOthers (conflicts asked) tx h
    → map (λ (g : OwnerLocks). g.owner) rest ≡ []
    → map (λ (g : OwnerLocks). g.owner) (cond (not b && has_conflict asked h) (h ∷ rest) rest) ≡ []
spared h rest tx asked true e f r = r
spared h rest tx asked false e f r =
    ap (λ b. map (λ (g : OwnerLocks). g.owner) (cond b (h ∷ rest) rest)) (f (eqb-false h.owner tx e)) ∙ r

pub nobody_blocks : (table : List OwnerLocks) (tx : ℕ) (asked : Lock) → All (LeavesOthers (conflicts asked) tx) table →
    blockers table tx asked ≡ []
nobody_blocks [] tx asked a = refl
nobody_blocks (h ∷ table) tx asked a =
    spared h _ tx asked (h.owner == tx) refl (All-head (LeavesOthers (conflicts asked) tx) h table a)
    (nobody_blocks table tx asked (All-tail (LeavesOthers (conflicts asked) tx) h table a))

-- what no test finds, a narrower test doesn't find
narrower : (p q : Lock → Bool) (ls : List Lock) → ((l : Lock) → q l ≡ true → p l ≡ true) → list_any p ls ≡ false →
    list_any q ls ≡ false
narrower p q ls h e = none_of p q (λ l f. false_from_ne_true (q l) (λ t. both_ways (p l) f (h l t))) ls e

-- no lock is near the asked one but those of its owner
pub nobody_near : (table : List OwnerLocks) (tx bucket : ℕ) (asked : Lock) → AreAllApart table →
    bucket ≡ bucket_of asked → bucket ≢ 32768
    → count_by (may_clash asked.mode bucket) (all_locks table)
    ≤ count_by (clashes_at asked.range.lo asked.mode) (locks_owned table tx) →
    blockers table tx asked ≡ []
nobody_near table tx bucket asked a is narrow few =
    let test = may_clash asked.mode bucket in
    let near = clashes_at asked.range.lo asked.mode in
    let own : count_by near (locks_owned table tx) ≤ count_by test (locks_owned table tx) =
    count_by-le-count_by near test (locks_owned table tx) (may_clash-from_clash asked bucket is narrow) in
    nobody_blocks table tx asked (All-weaker (LeavesOthers test tx) (LeavesOthers (conflicts asked) tx)
    (λ h none n. narrower test (conflicts asked) h.locks (may_clash-from_conflict asked bucket is narrow) (none n))
    table
    (LeavesOthers-from_count test table tx a (omega (arith, few, own))))

-- ---- a lock that an own one covers

not_apart : (own asked m : Mode) → (is_exclusive own || not (is_exclusive asked)) ≡ true →
    not (are_compatible asked m) ≡ true → not (are_compatible own m) ≡ true
not_apart Exclusive asked Shared e f = refl
not_apart Exclusive asked Exclusive e f = refl
not_apart Shared Shared m e f = f
not_apart Shared Exclusive m e f = cc

covered_conflicts : (own asked m : Lock) → covers own asked ≡ true → conflicts asked m ≡ true → conflicts own m ≡ true
covered_conflicts own asked m c h =
    let over = and_parts _ _ c in
    let round = and_parts _ _ over.0 in
    let clash = and_parts _ _ h in
    let ends = and_parts _ _ clash.0 in
    and_from _ _ (and_from _ _ (key_le_trans own.range.lo asked.range.lo m.range.hi round.0 ends.0)
    (key_le_trans m.range.lo asked.range.hi own.range.hi ends.1 round.1))
    (not_apart own.mode asked.mode m.mode over.1 clash.1)

covered_leaves : (own : List Lock) (tx : ℕ) (asked : Lock) (h : OwnerLocks) → is_covered own asked ≡ true →
    Spares tx own h → LeavesOthers (conflicts asked) tx h
covered_leaves own tx asked h e spares = λ n.
    let some = Any-from_list_any (λ (l : Lock). covers l asked) own e in
    list_any_none (conflicts asked) h.locks (λ j d less. false_from_ne_true (conflicts asked (get_or h.locks j d)) (λ t.
    both_ways (conflicts (get_or own some.0 some.1) (get_or h.locks j d)) (spares n some.0 some.1 some.2 j d less)
    (covered_conflicts (get_or own some.0 some.1) asked (get_or h.locks j d)
    (ap (λ (l : Lock). covers l asked) some.3 ∙ some.4) t)))

pub nobody_blocks_covered : (table : List OwnerLocks) (tx : ℕ) (asked : Lock) → AreAllApart table →
    is_covered (locks_owned table tx) asked ≡ true → blockers table tx asked ≡ []
nobody_blocks_covered table tx asked a e =
    nobody_blocks table tx asked (All-weaker (Spares tx (locks_owned table tx)) (LeavesOthers (conflicts asked) tx)
    (λ h. covered_leaves (locks_owned table tx) tx asked h e) table (Spares-own table tx a))

-- no lock is near the asked one, so no own lock covers it
pub nothing_covers : (table : List OwnerLocks) (tx bucket : ℕ) (asked : Lock) → AreAllApart table →
    bucket ≡ bucket_of asked → bucket ≢ 32768 → count_by (may_clash Exclusive bucket) (all_locks table) ≡ 0 →
    is_covered (locks_owned table tx) asked ≡ false
nothing_covers table tx bucket asked a is narrow none =
    let test = may_clash Exclusive bucket in
    narrower test (λ l. covers l asked) (locks_owned table tx)
    (λ l c. may_clash-from_covers asked bucket is narrow l c)
    (none_counted test (locks_owned table tx) (omega (
      arith,
      none,
      counted-released test table tx a,
      in_both test (locks_owned table tx) (all_locks (without_owner table tx)),
    )))

-- ---- nobody holds a key

pub nobody_holds : (table : List OwnerLocks) (key : OrderedKey) →
    count_by (may_clash Shared (key_bucket key)) (all_locks table) ≡ 0 → exclusive_holders table key ≡ []
nobody_holds table key e =
    let holds : Lock → Bool = λ l. is_exclusive l.mode && within l.range key in
    let test = may_clash Shared (key_bucket key) in
    ap (map (λ (h : OwnerLocks). h.owner)) (filter_none (is_exclusive_at key) table (none_of_any holds table
    (narrower test holds (all_locks table) (λ l. may_clash-from_exclusive l key)
    (none_counted test (all_locks table) e))))

pub uncounted_free : (table : List OwnerLocks) (buckets : List Count) → AreCountsOf (all_locks table) buckets →
    (key : OrderedKey) (d : Count) → (get_or buckets (key_bucket key) d).all ≡ 0 → (get_or buckets 32768 d).all ≡ 0 →
    any_within (all_locks table) key ≡ false
uncounted_free table buckets counts key d one wide =
    let test = may_clash Exclusive (key_bucket key) in
    narrower test (λ l. within l.range key) (all_locks table)
    (λ l w. and_from _ _ (is_at-from_within l key w) (never l.mode))
    (none_counted test (all_locks table) (omega (
      arith,
      one,
      wide,
      may_clash-counted Exclusive (all_locks table) buckets counts (key_bucket key) d d (omega arith),
    )))
