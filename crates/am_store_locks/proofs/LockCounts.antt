-- Locks counted in buckets.
use Rattle.std.proofs.Common.{◌≡◌, ◌≢◌, ℕ, ◌+◌, ◌<◌, ◌≤◌, List, [], ◌∷◌, length, get_or, set, replicate, Bool, true}
use Rattle.std.proofs.Common.{false, cond}
use Rattle.std.proofs.Common.{not, ◌==◌, ◌&&◌, ◌||◌, refl, sym, ap, ◌∙◌, subst, arith, ⊎_elim}
use Rattle.std.specs.List.{list_any, count_by}
use Rattle.std.proofs.Math.Dec.{ltb}
use Rattle.std.proofs.lemmas.Bool.{cases_eq, eq-eqb, ne_eqb, eqb-true, lt-ltb}
use Rattle.std.proofs.lemmas.List.{length-set, get_or-set_same, get_or-set_other, length-replicate, get_or-replicate}
use Rattle.std.proofs.lemmas.List.Sums.{sum_by-cons}
use Rattle.am_record.specs.OrderedKey.{OrderedKey}
use Rattle.am_record.specs.Interval.{within}
use Rattle.am_record.specs.Locks.{conflicts, is_covered, is_exclusive, are_compatible}
use Rattle.am_record.specs.declared.lock.Mode.{Mode}
use Rattle.am_record.specs.declared.lock.Mode.TheVariants.{Shared, Exclusive}
use Rattle.am_record.specs.declared.lock.Lock.{Lock}
use Rattle.am_store_locks.specs.declared.count.Count.{Count}
use Rattle.am_store_locks.specs.KeyCounts.{bucket_of, AreCountsOf, may_clash}
use Rattle.am_store_locks.specs.Chains.{any_exclusive, IsCountAt}
use Rattle.am_store_locks.proofs.Buckets.{clashes_at, covers_at, conflicts-clashes_at, covers-covers_at}

-- ---- counts of what passes a test

abbrev pub one : Bool → ℕ
one b = cond b 1 0

pub one_more : (p : Lock → Bool) (l : Lock) (ls : List Lock) → count_by p (l ∷ ls) ≡ one (p l) + count_by p ls
one_more p l ls = sum_by-cons (λ x. one (p x)) l ls

none_here : (b : Bool) (n : ℕ) → one b + n ≡ 0 → (b ≡ false) × (n ≡ 0)
none_here true n e = absurd (omega (arith, e))
none_here false n e = (refl, omega (arith, e))

pub none_counted : (p : Lock → Bool) (ls : List Lock) → count_by p ls ≡ 0 → list_any p ls ≡ false
none_counted p [] e = refl
none_counted p (l ∷ ls) e =
    let parts = none_here (p l) (count_by p ls) (sym (one_more p l ls) ∙ e) in
    ap (λ b. b || list_any p ls) parts.0 ∙ none_counted p ls parts.1

no_more : (b c : Bool) (m n : ℕ) → (b ≡ true → c ≡ true) → m ≤ n → one b + m ≤ one c + n
no_more true true m n h le = omega (arith, le)
no_more true false m n h le = absurd (let e = h refl in cc)
no_more false true m n h le = omega (arith, le)
no_more false false m n h le = omega (arith, le)

pub count_by-le-count_by : (p q : Lock → Bool) (ls : List Lock) → ((l : Lock) → p l ≡ true → q l ≡ true) →
    count_by p ls ≤ count_by q ls
count_by-le-count_by p q [] h = omega arith
count_by-le-count_by p q (l ∷ ls) h = omega (
  arith,
  one_more p l ls,
  one_more q l ls,
  no_more (p l) (q l) (count_by p ls) (count_by q ls) (h l) (count_by-le-count_by p q ls h),
)

-- what passes one of two tests, which nothing passes both of
in_two : (b c d : Bool) (m n k : ℕ) → (b ≡ true → c ≡ true → ⊥) → d ≡ (b || c) → k ≡ m + n →
    one d + k ≡ (one b + m) + (one c + n)
in_two true true d m n k h e s = absurd (h refl refl)
in_two true false d m n k h e s = ap (λ x. one x + k) e ∙ omega (arith, s)
in_two false true d m n k h e s = ap (λ x. one x + k) e ∙ omega (arith, s)
in_two false false d m n k h e s = ap (λ x. one x + k) e ∙ omega (arith, s)

pub count_by-either : (p q r : Lock → Bool) (ls : List Lock) → ((l : Lock) → p l ≡ true → q l ≡ true → ⊥) →
    ((l : Lock) → r l ≡ (p l || q l)) → count_by r ls ≡ count_by p ls + count_by q ls
count_by-either p q r [] apart same = refl
count_by-either p q r (l ∷ ls) apart same =
    one_more r l ls ∙ in_two (p l) (q l) (r l) (count_by p ls) (count_by q ls) (count_by r ls) (apart l) (same l)
    (count_by-either p q r ls apart same) ∙ (λ i. sym (one_more p l ls) i + sym (one_more q l ls) i)

-- ---- tests that fail together

fails_too : (test other : Lock → Bool) (l : Lock) (b later others : Bool) → test l ≡ b → (b || later) ≡ false →
    (test l ≡ false → other l ≡ false) → (later ≡ false → others ≡ false) → (other l || others) ≡ false
fails_too test other l true later others k h fails rest = cc
fails_too test other l false later others k h fails rest = (λ i. fails k i || others) ∙ rest h

pub none_of : (test other : Lock → Bool) → ((l : Lock) → test l ≡ false → other l ≡ false) → (locks : List Lock) →
    list_any test locks ≡ false → list_any other locks ≡ false
none_of test other fails [] e = refl
none_of test other fails (l ∷ locks) e = fails_too test other l (test l) (list_any test locks) (list_any other locks)
    refl e (fails l) (none_of test other fails locks)

-- ---- a bucket written

abbrev pub is_in : ℕ → Lock → Bool
is_in n l = bucket_of l == n

abbrev pub is_exclusive_in : ℕ → Lock → Bool
is_exclusive_in n l = is_exclusive l.mode && (bucket_of l == n)

module _ (locks : List Lock) (lock : Lock) (buckets : List Count) (b : ℕ) (new : Count) (is : b ≡ bucket_of lock)
  where
    hit : (n : ℕ) → n ≡ b → (one (is_in n lock) ≡ 1) × (one (is_exclusive_in n lock) ≡ one (is_exclusive lock.mode))
    hit n e = (
      ap one (eq-eqb (bucket_of lock) n (sym (e ∙ is))),
      ap one (kept (is_exclusive lock.mode) (bucket_of lock == n)
          (eq-eqb (bucket_of lock) n (sym (e ∙ is)))),
    )
      where
        kept : (x y : Bool) → y ≡ true → (x && y) ≡ x
        kept true y e = e
        kept false y e = refl

    miss : (n : ℕ) → n ≢ b → (one (is_in n lock) ≡ 0) × (one (is_exclusive_in n lock) ≡ 0)
    miss n e = (
      ap one other,
      ap one (lost (is_exclusive lock.mode) (bucket_of lock == n) other),
    )
      where
        other : (bucket_of lock == n) ≡ false
        other = ne_eqb (bucket_of lock) n (λ w. e (sym (is ∙ w)))

        lost : (x y : Bool) → y ≡ false → (x && y) ≡ false
        lost true y e = e
        lost false y e = refl

    same_all : (n : ℕ) (d : Count) → n ≡ b → b < length buckets → (get_or (set buckets b new) n d).all ≡ new.all
    same_all n d e inside = ap (λ (k : ℕ). (get_or (set buckets b new) k d).all) e ∙
        ap (λ (x : Count). x.all) (get_or-set_same buckets b new d inside)

    same_exclusive : (n : ℕ) (d : Count) → n ≡ b → b < length buckets →
        (get_or (set buckets b new) n d).exclusive ≡ new.exclusive
    same_exclusive n d e inside = ap (λ (k : ℕ). (get_or (set buckets b new) k d).exclusive) e ∙
        ap (λ (x : Count). x.exclusive) (get_or-set_same buckets b new d inside)

    pub AreCountsOf-add : AreCountsOf locks buckets → b < 32769 →
        ((d : Count) → new.all ≡ (get_or buckets b d).all + 1) →
        ((d : Count) → new.exclusive ≡ (get_or buckets b d).exclusive + one (is_exclusive lock.mode)) →
        AreCountsOf (lock ∷ locks) (set buckets b new)
    AreCountsOf-add counts inside all exclusive = record {
      long = length-set buckets b new ∙ counts.long;
      all = λ n d less. ⊎_elim
          (λ e. omega (
            arith,
            same_all n d e (omega (arith, inside, counts.long)),
            all d,
            counts.all b d inside,
            ap (λ k. count_by (is_in k) locks) e,
            one_more (is_in n) lock locks,
            (hit n e).0,
          ))
          (λ e. omega (
            arith,
            ap (λ (x : Count). x.all) (get_or-set_other buckets b n new d e),
            counts.all n d less,
            one_more (is_in n) lock locks,
            (miss n e).0,
          ))
          (cases_eq n b);
      exclusive = λ n d less. ⊎_elim
          (λ e. omega (
            arith,
            same_exclusive n d e (omega (arith, inside, counts.long)),
            exclusive d,
            counts.exclusive b d inside,
            ap (λ k. count_by (is_exclusive_in k) locks) e,
            one_more (is_exclusive_in n) lock locks,
            (hit n e).1,
          ))
          (λ e. omega (
            arith,
            ap (λ (x : Count). x.exclusive) (get_or-set_other buckets b n new d e),
            counts.exclusive n d less,
            one_more (is_exclusive_in n) lock locks,
            (miss n e).1,
          ))
          (cases_eq n b);
    }

-- ---- what the counts of some locks are counts of too

-- no locks
pub AreCountsOf-none : (buckets : List Count) (none : Count) → buckets ≡ replicate 32769 none → none.all ≡ 0 →
    none.exclusive ≡ 0 → AreCountsOf [] buckets
AreCountsOf-none buckets none e all exclusive = record {
  long = ap length e ∙ length-replicate 32769 none;
  all = λ n d less. ap (λ xs. (get_or xs n d).all) e ∙
      ap (λ (x : Count). x.all) (get_or-replicate 32769 n none d less) ∙ all;
  exclusive = λ n d less. ap (λ xs. (get_or xs n d).exclusive) e ∙
      ap (λ (x : Count). x.exclusive) (get_or-replicate 32769 n none d less) ∙ exclusive;
}

-- the same locks in another order, as far as counts tell
pub AreCountsOf-same : (xs ys : List Lock) (buckets : List Count) →
    ((p : Lock → Bool) → count_by p xs ≡ count_by p ys) → AreCountsOf xs buckets → AreCountsOf ys buckets
AreCountsOf-same xs ys buckets same counts = record {
  long = counts.long;
  all = λ n d less. counts.all n d less ∙ same (is_in n);
  exclusive = λ n d less. counts.exclusive n d less ∙ same (is_exclusive_in n);
}

-- ---- what may clash is in one of two buckets

abbrev pub counted_for : Mode → Count → ℕ
counted_for mode bucket = cond (is_exclusive mode) bucket.all bucket.exclusive

abbrev pub clashes_in : Mode → ℕ → Lock → Bool
clashes_in mode n l = (bucket_of l == n) && not (are_compatible mode l.mode)

by_mode : (mode m : Mode) (b : Bool) → (b && not (are_compatible mode m)) ≡ cond (is_exclusive mode) b
    (is_exclusive m && b)
by_mode Exclusive Exclusive true = refl
by_mode Exclusive Exclusive false = refl
by_mode Exclusive Shared true = refl
by_mode Exclusive Shared false = refl
by_mode Shared Exclusive true = refl
by_mode Shared Exclusive false = refl
by_mode Shared Shared true = refl
by_mode Shared Shared false = refl

both_parts : (b c d : Bool) → (b ≡ true → c ≡ true → ⊥) → (b && d) ≡ true → (c && d) ≡ true → ⊥
both_parts true true d h e f = h refl refl
both_parts true false d h e f = cc
both_parts false c d h e f = cc

of_two : (b c d : Bool) → ((b || c) && d) ≡ ((b && d) || (c && d))
of_two true true true = refl
of_two true true false = refl
of_two true false true = refl
of_two true false false = refl
of_two false c d = refl

by_one : (e x y : Bool) (t : Bool → ℕ) → t (cond e x y) ≡ cond e (t x) (t y)
by_one true x y t = refl
by_one false x y t = refl

module _ (mode : Mode) (locks : List Lock) (buckets : List Count) (counts : AreCountsOf locks buckets) where
  -- a bucket tells how many of its locks don't go with the mode
  clashing : (n : ℕ) (d : Count) → n < 32769 → counted_for mode (get_or buckets n d) ≡ count_by (clashes_in mode n)
      locks
  clashing n d less = by_kind mode
    where
      by_kind : (m : Mode) → counted_for m (get_or buckets n d) ≡ count_by (clashes_in m n) locks
      by_kind Exclusive = counts.all n d less ∙ (λ i. count_by (λ l. sym (by_mode Exclusive l.mode (is_in n l)) i)
          locks)
      by_kind Shared = counts.exclusive n d less ∙ (λ i. count_by (λ l. sym (by_mode Shared l.mode (is_in n l)) i)
          locks)

  pub may_clash-counted : (n : ℕ) (d e : Count) → n < 32768 →
      counted_for mode (get_or buckets n d) + counted_for mode (get_or buckets 32768 e) ≡ count_by (may_clash mode n)
      locks
  may_clash-counted n d e less =
      (λ i. clashing n d (omega (arith, less)) i + clashing 32768 e (omega arith) i) ∙
      sym (count_by-either (clashes_in mode n) (clashes_in mode 32768) (may_clash mode n) locks
      (λ l. both_parts (is_in n l) (is_in 32768 l) (not (are_compatible mode l.mode)) (λ p q.
      let same = eqb-true (bucket_of l) n p in
      let last = eqb-true (bucket_of l) 32768 q in
      absurd (omega (arith, less, same, last))))
      (λ l. of_two (is_in n l) (is_in 32768 l) (not (are_compatible mode l.mode))))

-- ---- counts at a key

-- a test finds one exactly where it counts some
pub list_any-counted : (p : Lock → Bool) (ls : List Lock) → list_any p ls ≡ ltb 0 (count_by p ls)
list_any-counted p [] = refl
list_any-counted p (l ∷ ls) = more (p l) (list_any p ls) (count_by p ls) (list_any-counted p ls) ∙
    ap (ltb 0) (sym (one_more p l ls))
  where
    more : (b any : Bool) (n : ℕ) → any ≡ ltb 0 n → (b || any) ≡ ltb 0 (one b + n)
    more true any n e = sym (lt-ltb 0 (1 + n) (omega arith))
    more false any n e =
        let same : 0 + n ≡ n = omega arith in
        e ∙ ap (ltb 0) (sym same)

module _ (locks : List Lock) (key : OrderedKey) (count : Count) (counts : IsCountAt locks key count) where
  pub clashing-counted : (mode : Mode) → counted_for mode count ≡ count_by (clashes_at key mode) locks
  clashing-counted Exclusive = counts.all ∙ (λ i. count_by (λ l. sym (by_mode Exclusive l.mode (within l.range key)) i)
      locks)
  clashing-counted Shared = counts.exclusive ∙ (λ i. count_by (λ l. sym (by_mode Shared l.mode (within l.range key)) i)
      locks)

  covering : (mode m : Mode) (b : Bool) → (b && (is_exclusive m || not (is_exclusive mode))) ≡ cond (is_exclusive mode)
      (is_exclusive m && b) b
  covering Exclusive Exclusive true = refl
  covering Exclusive Exclusive false = refl
  covering Exclusive Shared true = refl
  covering Exclusive Shared false = refl
  covering Shared Exclusive true = refl
  covering Shared Exclusive false = refl
  covering Shared Shared true = refl
  covering Shared Shared false = refl

  pub covering-counted : (mode : Mode) → cond (is_exclusive mode) count.exclusive count.all ≡ count_by
      (covers_at key mode) locks
  covering-counted Exclusive = counts.exclusive ∙
      (λ i. count_by (λ l. sym (covering Exclusive l.mode (within l.range key)) i) locks)
  covering-counted Shared = counts.all ∙
      (λ i. count_by (λ l. sym (covering Shared l.mode (within l.range key)) i) locks)

-- ---- what an owner's locks at a key tell of a lock that is asked for it

module _ (asked : Lock) (bucket : ℕ) (locks : List Lock) (key : OrderedKey) (count : Count) (n : ℕ)
    (is : bucket ≡ bucket_of asked) (narrow : bucket ≢ 32768) (at : key ≡ asked.range.lo)
    (counts : IsCountAt locks key count) where
  here : IsCountAt locks asked.range.lo count
  here = subst (λ k. IsCountAt locks k count) at counts

  pub clash-counted : n ≡ counted_for asked.mode count → n ≡ count_by (clashes_at asked.range.lo asked.mode) locks
  clash-counted e = e ∙ clashing-counted locks asked.range.lo count here asked.mode

  pub conflict-counted : n ≡ counted_for asked.mode count → ltb 0 n ≡ list_any (conflicts asked) locks
  conflict-counted e =
      ap (ltb 0) (clash-counted e)
      ∙ sym (list_any-counted (clashes_at asked.range.lo asked.mode) locks)
      ∙ (λ i. list_any (λ l. sym (conflicts-clashes_at asked bucket is narrow l) i) locks)

  pub cover-counted : n ≡ cond (is_exclusive asked.mode) count.exclusive count.all →
      ltb 0 n ≡ is_covered locks asked
  cover-counted e =
      ap (ltb 0) (e ∙ covering-counted locks asked.range.lo count here asked.mode)
      ∙ sym (list_any-counted (covers_at asked.range.lo asked.mode) locks)
      ∙ (λ i. list_any (λ l. sym (covers-covers_at asked bucket is narrow l) i) locks)

-- ---- where no lock is exclusive

no_clash : (m n : Mode) (x : Bool) → is_exclusive m ≡ false → is_exclusive n ≡ false →
    (x && not (are_compatible m n)) ≡ false
no_clash Shared Shared true e f = refl
no_clash Shared Shared false e f = refl
no_clash Shared Exclusive x e f = cc
no_clash Exclusive n x e f = cc

-- a shared lock conflicts with none of them
pub none_conflicts : (asked : Lock) (locks : List Lock) → any_exclusive locks ≡ false →
    is_exclusive asked.mode ≡ false → list_any (conflicts asked) locks ≡ false
none_conflicts asked locks e f = none_of (λ l. is_exclusive l.mode) (conflicts asked)
    (λ l k. no_clash asked.mode l.mode _ f k) locks e

-- and no key is exclusively locked
pub none_exclusive_at : (key : OrderedKey) (locks : List Lock) → any_exclusive locks ≡ false →
    list_any (λ l. is_exclusive l.mode && within l.range key) locks ≡ false
none_exclusive_at key locks e = none_of (λ l. is_exclusive l.mode) (λ l. is_exclusive l.mode && within l.range key)
    (λ l k. ap (λ b. b && within l.range key) k) locks e
