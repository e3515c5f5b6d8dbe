-- Lists of bytes, compared eight bytes at a time as numbers.
use Rattle.std.proofs.Common.{◌≡◌, ℕ, zero, suc, ◌+◌, ◌*◌, ◌<◌, ◌≤◌, List, length, get_or, drop, refl, sym, ap, ◌∙◌}
use Rattle.std.proofs.Common.{arith, drop-cons}
use Rattle.std.specs.declared.cmp.Ordering.{Ordering}
use Rattle.std.specs.declared.cmp.Ordering.TheVariants.{Less, Equal, Greater}
use Rattle.std.specs.Ordering.{nat_cmp, ordering_then, MatchOrdering}
use Rattle.std.specs.Cmp.{ranks, nat_cmp_is}
use Rattle.std.specs.Cmp.Lexicographic.{slice_cmp}
use Rattle.std.proofs.lemmas.List.{drop_all}
use Rattle.am_record.specs.KeyWords.{word_at, key_words, AreBytes}

-- two numbers, each with a byte more after it
grown : (a b u v : ℕ) → u < 256 → v < 256 → (s p q : Ordering) → MatchOrdering p (a < b) (a ≡ b) (b < a) →
    MatchOrdering q (u < v) (u ≡ v) (v < u)
    → ordering_then (nat_cmp (a * 256 + u) (b * 256 + v)) s ≡ ordering_then p (ordering_then q s)
grown a b u v x y s Less q m n = ap (λ r. ordering_then r s)
    (sym (nat_cmp_is (a * 256 + u) (b * 256 + v) Less (omega (arith, m))))
grown a b u v x y s Greater q m n = ap (λ r. ordering_then r s)
    (sym (nat_cmp_is (a * 256 + u) (b * 256 + v) Greater (omega (arith, m))))
grown a b u v x y s Equal Less m n = ap (λ r. ordering_then r s)
    (sym (nat_cmp_is (a * 256 + u) (b * 256 + v) Less (omega (arith, m, n))))
grown a b u v x y s Equal Equal m n = ap (λ r. ordering_then r s)
    (sym (nat_cmp_is (a * 256 + u) (b * 256 + v) Equal (omega (arith, m, n))))
grown a b u v x y s Equal Greater m n = ap (λ r. ordering_then r s)
    (sym (nat_cmp_is (a * 256 + u) (b * 256 + v) Greater (omega (arith, m, n))))

-- the number of a and the n bytes from i + k on after it
abbrev pub spelt : List ℕ → ℕ → ℕ → ℕ → ℕ → ℕ
spelt bs i a k zero = a
spelt bs i a k (suc n) = spelt bs i (a * 256 + get_or bs (i + k) 0) (suc k) n

pub word_at-spelt : (bs : List ℕ) (i : ℕ) → word_at bs i ≡ spelt bs i 0 0 8
word_at-spelt bs i = let here : get_or bs (i + 0) 0 ≡ get_or bs i 0 = ap (λ k. get_or bs k 0) (omega arith) in
    omega (arith, here)

module _ (xs ys : List ℕ) (bx : AreBytes xs) (by : AreBytes ys) where
  -- how the lists compare from j on
  abbrev from : ℕ → Ordering
  from j = slice_cmp nat_cmp (drop j xs) (drop j ys)

  from_one : (j : ℕ) → j < length xs → j < length ys → from j ≡ ordering_then (nat_cmp (get_or xs j 0) (get_or ys j 0))
      (from (suc j))
  from_one j p q = λ t. slice_cmp nat_cmp (drop-cons xs j 0 p t) (drop-cons ys j 0 q t)

  from_spelt : (i n a b k : ℕ) → i + k + n ≤ length xs → i + k + n ≤ length ys
      → ordering_then (nat_cmp (spelt xs i a k n) (spelt ys i b k n)) (from (i + k + n)) ≡ ordering_then (nat_cmp a b)
      (from (i + k))
  from_spelt i zero a b k p q = ap (λ j. ordering_then (nat_cmp a b) (from j)) (omega arith)
  from_spelt i (suc n) a b k p q =
      let u = get_or xs (i + k) 0 in
      let v = get_or ys (i + k) 0 in
      let far : i + k + suc n ≡ i + suc k + n = omega arith in
      let near : i + suc k ≡ suc (i + k) = omega arith in
      ap (λ j. ordering_then (nat_cmp (spelt xs i a k (suc n)) (spelt ys i b k (suc n))) (from j)) far
      ∙ from_spelt i n (a * 256 + u) (b * 256 + v) (suc k) (omega arith) (omega arith)
      ∙ ap (λ j. ordering_then (nat_cmp (a * 256 + u) (b * 256 + v)) (from j)) near
      ∙ grown a b u v (bx (i + k)) (by (i + k)) (from (suc (i + k))) (nat_cmp a b) (nat_cmp u v) (ranks a b) (ranks u v)
      ∙ ap (λ r. ordering_then (nat_cmp a b) r) (sym (from_one (i + k) (omega arith) (omega arith)))

  -- a word decides, or else what stands after it
  from_word : (i : ℕ) → i + 8 ≤ length xs → i + 8 ≤ length ys →
      from i ≡ ordering_then (nat_cmp (word_at xs i) (word_at ys i)) (from (i + 8))
  from_word i p q =
      let here : i + 0 ≡ i = omega arith in
      let there : i + 0 + 8 ≡ i + 8 = omega arith in
      ap from (sym here)
      ∙ sym (from_spelt i 8 0 0 0 (omega arith) (omega arith))
      ∙ ap (λ j. ordering_then (nat_cmp (spelt xs i 0 0 8) (spelt ys i 0 0 8)) (from j)) there
      ∙ (λ t. ordering_then (nat_cmp (sym (word_at-spelt xs i) t) (sym (word_at-spelt ys i) t)) (from (i + 8)))

  -- 32 bytes compare as their words
  pub by_words : length xs ≡ 32 → length ys ≡ 32 → slice_cmp nat_cmp (key_words xs) (key_words ys) ≡ slice_cmp nat_cmp
      xs ys
  by_words p q =
      let then = λ (i : ℕ) (r : Ordering). ordering_then (nat_cmp (word_at xs i) (word_at ys i)) r in
      let end : from 32 ≡ Equal = λ t. slice_cmp nat_cmp (drop_all 32 xs (omega arith) t)
      (drop_all 32 ys (omega arith) t) in
      sym (from_word 0 (omega arith) (omega arith)
      ∙ ap (then 0) (from_word 8 (omega arith) (omega arith)
      ∙ ap (then 8) (from_word 16 (omega arith) (omega arith)
      ∙ ap (then 16) (from_word 24 (omega arith) (omega arith)
      ∙ ap (then 24) end))))

  -- 8 bytes compare as their one word
  pub by_word : length xs ≡ 8 → length ys ≡ 8 → nat_cmp (word_at xs 0) (word_at ys 0) ≡ slice_cmp nat_cmp xs ys
  by_word p q =
      let end : from 8 ≡ Equal = λ t. slice_cmp nat_cmp (drop_all 8 xs (omega arith) t)
      (drop_all 8 ys (omega arith) t) in
      sym (from_word 0 (omega arith) (omega arith) ∙ ap (λ r. ordering_then (nat_cmp (word_at xs 0) (word_at ys 0)) r)
      end ∙ then_Equal (nat_cmp (word_at xs 0) (word_at ys 0)))
    where
      then_Equal : (r : Ordering) → ordering_then r Equal ≡ r
      then_Equal Less = refl
      then_Equal Equal = refl
      then_Equal Greater = refl
