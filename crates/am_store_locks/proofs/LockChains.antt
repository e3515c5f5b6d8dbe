-- Chains of locks, and how many locks of a chain pass a test.
use Rattle.std.proofs.Common.{◌≡◌, ◌≢◌, ◌⊎◌, inl, inr, ℕ, zero, suc, ◌+◌, ◌-◌, ◌/◌, ◌<◌, ◌≤◌, List, [], ◌∷◌, ◌++◌}
use Rattle.std.proofs.Common.{length, get_or, set}
use Rattle.std.proofs.Common.{take, replicate, Bool, true, false, ◌==◌, ◌&&◌, ◌||◌, refl, sym, ap, ◌∙◌, subst, arith}
use Rattle.std.proofs.Common.{⊎_elim}
use Rattle.std.proofs.Math.Seq.{take-length, get_or-append_seam}
use Rattle.std.specs.List.{count_by}
use Rattle.std.proofs.lemmas.Bool.{cases_eq, cases_lt, eq-eqb, ne_eqb, eqb-true, and_parts, or_cases}
use Rattle.std.proofs.lemmas.List.{get_or_append_left, get_or-set_same, get_or-set_other, length-append, length-take-le}
use Rattle.std.proofs.lemmas.List.{get_or-take, get_or-replicate}
use Rattle.std.proofs.lemmas.List.Sums.{count_by_more_no, count_by_more_yes}
use Rattle.am_record.specs.OrderedKey.{OrderedKey, key_least}
use Rattle.am_record.specs.Interval.{within, point}
use Rattle.am_record.specs.Locks.{is_exclusive}
use Rattle.am_record.specs.declared.lock.Mode.TheVariants.{Shared}
use Rattle.am_record.specs.declared.lock.Lock.{Lock}
use Rattle.am_store_locks.specs.KeyCounts.{bucket_of, key_bucket}
use Rattle.am_store_locks.specs.Chains.{chain_of, is_chained, EndsAt, AreChainsOf, IsCountAt}
use Rattle.am_store_locks.specs.declared.count.Count.{Count}
use Rattle.am_store_locks.proofs.Buckets.{is_at-from_within}
use Rattle.am_store_locks.proofs.LockCounts.{one, count_by-either}

-- ---- how far a chain goes

EndsAt-fewer : (chain : ℕ) (locks : List Lock) (count fewer n : ℕ) → n ≤ fewer → fewer ≤ count →
    EndsAt chain locks count n → EndsAt chain locks fewer n
EndsAt-fewer chain locks count fewer n fits less end = record {
  among = fits;
  last = end.last;
  others = λ k d from below. end.others k d from (omega (arith, below, less));
}

-- it depends on the first locks alone
pub EndsAt-append : (chain : ℕ) (locks more : List Lock) (count n : ℕ) → count ≤ length locks →
    EndsAt chain locks count n → EndsAt chain (locks ++ more) count n
EndsAt-append chain locks more count n fits end = record {
  among = end.among;
  last = λ d some. ap chain_of (get_or_append_left locks more d (n - 1) (omega (arith, some, end.among, fits))) ∙
      end.last d some;
  others = λ k d from below e. end.others k d from below
      (sym (ap chain_of (get_or_append_left locks more d k (omega (arith, below, fits)))) ∙ e);
}

pub EndsAt-first : (chain : ℕ) (locks more : List Lock) (count n : ℕ) → count ≤ length locks →
    EndsAt chain (locks ++ more) count n → EndsAt chain locks count n
EndsAt-first chain locks more count n fits end = record {
  among = end.among;
  last = λ d some. sym (ap chain_of (get_or_append_left locks more d (n - 1) (omega (arith, some, end.among, fits)))) ∙
      end.last d some;
  others = λ k d from below e. end.others k d from below
      (ap chain_of (get_or_append_left locks more d k (omega (arith, below, fits))) ∙ e);
}

-- the next lock is of this chain
pub EndsAt-here : (chain : ℕ) (locks : List Lock) (i n : ℕ) → n ≡ i + 1 →
    ((d : Lock) → chain_of (get_or locks i d) ≡ chain) → EndsAt chain locks (i + 1) n
EndsAt-here chain locks i n e is = record {
  among = omega (arith, e);
  last = λ d some. ap (λ k. chain_of (get_or locks k d)) (omega (arith, e)) ∙ is d;
  others = λ k d from below. absurd (omega (arith, e, from, below));
}

-- it is of another
pub EndsAt-elsewhere : (chain : ℕ) (locks : List Lock) (i n : ℕ) → ((d : Lock) → chain_of (get_or locks i d) ≢ chain) →
    EndsAt chain locks i n → EndsAt chain locks (i + 1) n
EndsAt-elsewhere chain locks i n other end = record {
  among = omega (arith, end.among);
  last = end.last;
  others = λ k d from below e. ⊎_elim (λ less. end.others k d from less e)
      (λ past. other d (ap (λ j. chain_of (get_or locks j d)) (omega (arith, past, below)) ∙ e))
      (cases_lt k i);
}

-- the table of the ends once the next lock was written into it
pub ends-written : (locks : List Lock) (ends : List ℕ) (i at n : ℕ) → length ends ≡ 129 → n ≡ i + 1 →
    ((d : Lock) → chain_of (get_or locks i d) ≡ at) →
    ((chain d : ℕ) → chain < 129 → EndsAt chain locks i (get_or ends chain d)) →
    (chain d : ℕ) → chain < 129 → EndsAt chain locks (i + 1) (get_or (set ends at n) chain d)
ends-written locks ends i at n long e is before chain d less = ⊎_elim
    (λ same. subst (EndsAt chain locks (i + 1))
    (sym (ap (λ (k : ℕ). get_or (set ends at n) k d) same ∙
    get_or-set_same ends at n d (omega (arith, long, less, same))))
    (EndsAt-here chain locks i n e (λ x. is x ∙ sym same)))
    (λ other. subst (EndsAt chain locks (i + 1)) (sym (get_or-set_other ends at chain n d other))
    (EndsAt-elsewhere chain locks i (get_or ends chain d) (λ x w. other (sym w ∙ is x)) (before chain d less)))
    (cases_eq chain at)

pub ends-none : (locks : List Lock) (ends : List ℕ) → ends ≡ replicate 129 0 → (chain d : ℕ) → chain < 129 →
    EndsAt chain locks 0 (get_or ends chain d)
ends-none locks ends e chain d less =
    subst (EndsAt chain locks 0) (sym (ap (λ xs. get_or xs chain d) e ∙ get_or-replicate 129 chain 0 d less))
    (record {
      among = omega arith;
      last = λ x some. absurd (omega (arith, some));
      others = λ k x from below. absurd (omega (arith, below));
    })

-- ---- one lock more, and fewer

pub AreChainsOf-none : (ends before : List ℕ) → ends ≡ replicate 129 0 → before ≡ [] → AreChainsOf [] ends before
AreChainsOf-none ends before e none = record {
  long = ap length none;
  last = ends-none [] ends e;
  earlier = λ i d x less. absurd (omega (arith, less));
}

pub AreChainsOf-first : (locks more : List Lock) (ends old before kept : List ℕ) → kept ≡ take (length locks) before →
    ((chain d : ℕ) → chain < 129 → EndsAt chain locks (length locks) (get_or ends chain d)) →
    AreChainsOf (locks ++ more) old before → AreChainsOf locks ends kept
AreChainsOf-first locks more ends old before kept e last chains =
    let all : length before ≡ length locks + length more = chains.long ∙ length-append locks more in
    record {
      long = ap length e ∙ length-take-le (length locks) before (omega (arith, all));
      last = last;
      earlier = λ i d x less.
          subst (EndsAt (chain_of (get_or locks i x)) locks i)
          (sym (ap (λ (xs : List ℕ). get_or xs i d) e ∙ get_or-take (length locks) before i d less))
          (EndsAt-first (chain_of (get_or locks i x)) locks more i _ (omega (arith, less))
          (subst (λ (l : Lock). EndsAt (chain_of l) (locks ++ more) i (get_or before i d))
          (get_or_append_left locks more x i less)
          (chains.earlier i d x (omega (arith, less, length-append locks more)))));
    }

pub AreChainsOf-added : (locks : List Lock) (lock : Lock) (ends before : List ℕ) (chain n old : ℕ) →
    length ends ≡ 129 → chain ≡ chain_of lock → n ≡ length locks + 1 → old ≡ get_or ends chain 0 →
    chain < 129 → AreChainsOf locks ends before →
    AreChainsOf (locks ++ lock ∷ []) (set ends chain n) (before ++ old ∷ [])
AreChainsOf-added locks lock ends before chain n old long is e read inside chains =
    let all = locks ++ lock ∷ [] in
    let count : length all ≡ length locks + 1 = length-append locks (lock ∷ []) in
    let newest : (d : Lock) → get_or all (length locks) d ≡ lock = λ d. get_or-append_seam locks lock [] d in
    record {
      long = omega (arith, length-append before (old ∷ []), count, chains.long);
      last = λ c d less. subst (λ k. EndsAt c all k (get_or (set ends chain n) c d)) (sym count)
          (ends-written all ends (length locks) chain n long e (λ x. ap chain_of (newest x) ∙ sym is)
          (λ a b fits. EndsAt-append a locks (lock ∷ []) (length locks) _ (omega arith) (chains.last a b fits)) c d
          less);
      earlier = λ i d x less. ⊎_elim
          (λ earlier.
          let same : get_or all i x ≡ get_or locks i x = get_or_append_left locks (lock ∷ []) x i earlier in
          subst (λ (l : Lock). EndsAt (chain_of l) all i (get_or (before ++ old ∷ []) i d)) (sym same)
          (subst (EndsAt (chain_of (get_or locks i x)) all i)
          (sym (get_or_append_left before (old ∷ []) d i (omega (arith, earlier, chains.long))))
          (EndsAt-append (chain_of (get_or locks i x)) locks (lock ∷ []) i _ (omega (arith, earlier))
          (chains.earlier i d x earlier))))
          (λ last.
          let here : i ≡ length locks = omega (arith, last, less, count) in
          let at : i ≡ length before = omega (arith, here, chains.long) in
          let is_newest : get_or all i x ≡ lock = ap (λ (k : ℕ). get_or all k x) here ∙ newest x in
          let is_old : get_or (before ++ old ∷ []) i d ≡ get_or ends chain 0 =
          ap (λ (k : ℕ). get_or (before ++ old ∷ []) k d) at ∙ get_or-append_seam before old [] d ∙ read in
          subst (λ (l : Lock). EndsAt (chain_of l) all i (get_or (before ++ old ∷ []) i d)) (sym is_newest)
          (subst (λ (k : ℕ). EndsAt k all i (get_or (before ++ old ∷ []) i d)) is
          (subst (EndsAt chain all i) (sym is_old)
          (subst (λ (k : ℕ). EndsAt chain all k (get_or ends chain 0)) (sym here)
          (EndsAt-append chain locks (lock ∷ []) (length locks) _ (omega arith) (chains.last chain 0 inside))))))
          (cases_lt i (length locks));
    }

-- where the chain of a lock went on
pub end_before : (locks : List Lock) (ends before read : List ℕ) (chain upto : ℕ) (l : Lock) →
    AreChainsOf locks ends before → read ≡ before →
    ((d : Lock) → 0 < upto → chain_of (get_or locks (upto - 1) d) ≡ chain) → 0 < upto → upto ≤ length locks →
    EndsAt chain locks (upto - 1) (get_or read (upto - 1) 0)
end_before locks ends before read chain upto l chains same there some fits =
    subst (λ (xs : List ℕ). EndsAt chain locks (upto - 1) (get_or xs (upto - 1) 0)) (sym same)
    (subst (λ (k : ℕ). EndsAt k locks (upto - 1) (get_or before (upto - 1) 0)) (there l some)
    (chains.earlier (upto - 1) 0 l (omega (arith, some, fits))))

-- ---- how many of a chain pass a test

some_lock : Lock
some_lock = record { mode = Shared; range = point key_least }

module _ (locks : List Lock) (chain : ℕ) (test : Lock → Bool) where
  of_another : (l : Lock) → chain_of l ≢ chain → is_chained chain test l ≡ false
  of_another l n = ap (λ b. b && test l) (ne_eqb (chain_of l) chain n)

  of_this : (l : Lock) → chain_of l ≡ chain → is_chained chain test l ≡ test l
  of_this l e = ap (λ b. b && test l) (eq-eqb (chain_of l) chain e)

  -- none of them stands after the last one
  passed : (count n : ℕ) → EndsAt chain locks count n → count ≤ length locks →
      count_by (is_chained chain test) (take count locks) ≡ count_by (is_chained chain test) (take n locks)
  passed zero n end fits =
      let same : 0 ≡ n = omega (arith, end.among) in
      ap (λ (k : ℕ). count_by (is_chained chain test) (take k locks)) same
  passed (suc m) n end fits = ⊎_elim
      (λ less.
      let next : suc m ≡ m + 1 = omega arith in
      ap (λ (k : ℕ). count_by (is_chained chain test) (take k locks)) next
      ∙ count_by_more_no (is_chained chain test) locks m some_lock (omega (arith, fits))
      (of_another (get_or locks m some_lock) (end.others m some_lock (omega (arith, less)) (omega arith)))
      ∙ passed m n (EndsAt-fewer chain locks (suc m) m n (omega (arith, less)) (omega arith) end) (omega (arith, fits)))
      (λ all.
      let same : suc m ≡ n = omega (arith, all, end.among) in
      ap (λ (k : ℕ). count_by (is_chained chain test) (take k locks)) same)
      (cases_lt n (suc m))

  pub counted_from_end : (n : ℕ) → EndsAt chain locks (length locks) n →
      count_by (is_chained chain test) locks ≡ count_by (is_chained chain test) (take n locks)
  counted_from_end n end =
      ap (count_by (is_chained chain test)) (sym (take-length locks)) ∙ passed (length locks) n end (omega arith)

  by_test : (m : ℕ) (l : Lock) (b : Bool) → l ≡ get_or locks m l → chain_of l ≡ chain → test l ≡ b →
      m < length locks → count_by (is_chained chain test) (take (m + 1) locks) ≡ one b +
      count_by (is_chained chain test) (take m locks)
  by_test m l true at is e less = omega (
    arith,
    count_by_more_yes (is_chained chain test) locks m l less
        (ap (is_chained chain test) (sym at) ∙ of_this l is ∙ e),
  )
  by_test m l false at is e less = omega (
    arith,
    count_by_more_no (is_chained chain test) locks m l less
        (ap (is_chained chain test) (sym at) ∙ of_this l is ∙ e),
  )

  -- the last one, and those before it
  pub counted_step : (n m : ℕ) (l : Lock) → 0 < n → n ≤ length locks → l ≡ get_or locks (n - 1) l →
      ((d : Lock) → 0 < n → chain_of (get_or locks (n - 1) d) ≡ chain) → EndsAt chain locks (n - 1) m →
      count_by (is_chained chain test) (take n locks) ≡ one (test l) + count_by (is_chained chain test) (take m locks)
  counted_step n m l some fits at is end =
      let next : n ≡ n - 1 + 1 = omega (arith, some) in
      ap (λ (k : ℕ). count_by (is_chained chain test) (take k locks)) next
      ∙ by_test (n - 1) l (test l) at (ap chain_of at ∙ is l some) refl (omega (arith, some, fits))
      ∙ ap (λ k. one (test l) + k) (passed (n - 1) m end (omega (arith, fits)))

-- ---- the two chains that a lock with a key may be of

module _ (key : OrderedKey) (test : Lock → Bool) (at : (l : Lock) → test l ≡ true → within l.range key ≡ true) where
  apart : (l : Lock) → is_chained (key_bucket key / 256) test l ≡ true → is_chained 128 test l ≡ true → ⊥
  apart l p q =
      let here = eqb-true (chain_of l) (key_bucket key / 256) (and_parts _ _ p).0 in
      let there = eqb-true (chain_of l) 128 (and_parts _ _ q).0 in
      absurd (omega (arith, here, there))

  kept : (b c t : Bool) → (t ≡ true → (b ≡ true) ⊎ (c ≡ true)) → t ≡ ((b && t) || (c && t))
  kept true true true h = refl
  kept true false true h = refl
  kept false true true h = refl
  kept false false true h = absurd (⊎_elim (λ e. cc) (λ e. cc) (h refl))
  kept true true false h = refl
  kept true false false h = refl
  kept false true false h = refl
  kept false false false h = refl

  chained : (l : Lock) → within l.range key ≡ true →
      ((chain_of l == key_bucket key / 256) ≡ true) ⊎ ((chain_of l == 128) ≡ true)
  chained l w = ⊎_elim
      (λ e. inl (eq-eqb (chain_of l) (key_bucket key / 256) (ap (λ (n : ℕ). n / 256) (eqb-true (bucket_of l) _ e))))
      (λ e. inr (eq-eqb (chain_of l) 128 (ap (λ (n : ℕ). n / 256) (eqb-true (bucket_of l) 32768 e))))
      (or_cases _ _ (is_at-from_within l key w))

  pub counted_in_two : (locks : List Lock) → count_by test locks ≡ count_by (is_chained (key_bucket key / 256) test)
      locks +
      count_by (is_chained 128 test) locks
  counted_in_two locks = count_by-either (is_chained (key_bucket key / 256) test) (is_chained 128 test) test locks apart
      (λ l. kept (chain_of l == key_bucket key / 256) (chain_of l == 128) (test l) (λ e. chained l (at l e)))

-- what two chains have at a key is all
pub IsCountAt-two : (locks : List Lock) (key : OrderedKey) (bucket : ℕ) (narrow wide both : Count) →
    bucket ≡ key_bucket key →
    narrow.all ≡ count_by (is_chained (bucket / 256) (λ l. within l.range key)) locks →
    narrow.exclusive ≡ count_by (is_chained (bucket / 256) (λ l. is_exclusive l.mode && within l.range key)) locks →
    wide.all ≡ count_by (is_chained 128 (λ l. within l.range key)) locks →
    wide.exclusive ≡ count_by (is_chained 128 (λ l. is_exclusive l.mode && within l.range key)) locks →
    both.all ≡ narrow.all + wide.all → both.exclusive ≡ narrow.exclusive + wide.exclusive → IsCountAt locks key both
IsCountAt-two locks key bucket narrow wide both is na ne wa we all exclusive =
    let chain : bucket / 256 ≡ key_bucket key / 256 = ap (λ (n : ℕ). n / 256) is in
    record {
      all = all ∙ (λ i. (na ∙ ap (λ c. count_by (is_chained c (λ l. within l.range key)) locks) chain) i + wa i) ∙
          sym (counted_in_two key (λ l. within l.range key) (λ l w. w) locks);
      exclusive = exclusive ∙
          (λ i. (ne ∙ ap (λ c. count_by (is_chained c (λ l. is_exclusive l.mode && within l.range key)) locks) chain) i
          +
          we i) ∙
          sym (counted_in_two key (λ l. is_exclusive l.mode && within l.range key) (λ l w. (and_parts _ _ w).1) locks);
    }
