-- The beginnings of keys as numbers.
use Rattle.std.proofs.Common.{◌≡◌, ℕ, zero, suc, ◌+◌, ◌-◌, ◌*◌, ◌^◌, ◌<◌, ◌≤◌, false, List, [], ◌∷◌, ◌++◌, get_or, drop}
use Rattle.std.proofs.Common.{refl, sym, ap, ◌∙◌, arith, ⊎_elim}
use Rattle.std.specs.Prelude.{nat_lt, replicate}
use Rattle.std.proofs.lemmas.Bool.{cases_Bool, cond-true, cond-false, ltb-true, ltb-false, lt-ltb}
use Rattle.std.proofs.Math.Nat.{add-mul, mul_assoc, mul-le-mul_right, pow-succ', suc-mul}
use Rattle.std.proofs.lemmas.List.{drop_all}
use Rattle.std.specs.declared.cmp.Ordering.{Ordering}
use Rattle.std.specs.declared.cmp.Ordering.TheVariants.{Less, Equal, Greater}
use Rattle.std.specs.Ordering.{nat_cmp, ordering_then, MatchOrdering}
use Rattle.std.specs.Cmp.{ranks, nat_cmp_is}
use Rattle.std.specs.Cmp.Lexicographic.{slice_cmp}
use Rattle.am_record.specs.KeyFront.{front_of, key_front}
use Rattle.am_record.specs.KeyWords.{word_at, AreBytes}
use Rattle.am_record.specs.OrderedKey.{OrderedKey, key_cmp, bytes_of, key_of-bytes_of, key_cmp-key_of}
use Rattle.am_record.proofs.Words.{spelt, word_at-spelt}

power_some : (n : ℕ) → 0 < 256 ^ n
power_some zero = omega arith
power_some (suc n) = let p = power_some n in omega (arith, p)

module _ (n b : ℕ) (bs : List ℕ) where
  front-byte : b < 256 → front_of (suc n) (b ∷ bs) ≡ b * 256 ^ n + front_of n bs
  unfolding front_of
  front-byte h = cond-true (nat_lt b 256) (b * 256 ^ n + front_of n bs) (256 ^ suc n - 1) (lt-ltb b 256 h)

  front-other : nat_lt b 256 ≡ false → front_of (suc n) (b ∷ bs) ≡ 256 ^ suc n - 1
  unfolding front_of
  front-other h = cond-false (nat_lt b 256) (b * 256 ^ n + front_of n bs) (256 ^ suc n - 1) h

front-none : (n : ℕ) → front_of n [] ≡ 0
unfolding front_of
front-none zero = refl
front-none (suc n) = refl

front-zero : (bs : List ℕ) → front_of zero bs ≡ 0
unfolding front_of
front-zero bs = refl

-- so many of a power, and one more
next_power : (b c p : ℕ) → b < c → b * p + p ≤ c * p
next_power b c p h = let more : suc b * p ≤ c * p = mul-le-mul_right p h in omega (arith, more, suc-mul b p)

front_below : (n : ℕ) (bs : List ℕ) → front_of n bs < 256 ^ n
front_below zero bs = omega (arith, front-zero bs)
front_below (suc n) [] = omega (arith, front-none (suc n), power_some (suc n))
front_below (suc n) (b ∷ bs) =
    ⊎_elim
    (λ byte. let small : b < 256 = ltb-true b 256 byte in
    omega (arith, front-byte n b bs small, front_below n bs, next_power b 256 (256 ^ n) small))
    (λ other. omega (arith, front-other n b bs other, power_some (suc n)))
    (cases_Bool (nat_lt b 256))

-- ---- a lower number is that of a lower key

less : (x y : ℕ) → x < y → nat_cmp x y ≡ Less
less x y h = sym (nat_cmp_is x y Less h)

-- two bytes, and what stands after them
both : (n x y : ℕ) (xs ys : List ℕ) → x < 256 → y < 256 → front_of (suc n) (x ∷ xs) < front_of (suc n) (y ∷ ys) →
    (front_of n xs < front_of n ys → slice_cmp nat_cmp xs ys ≡ Less)
    → (r : Ordering) → MatchOrdering r (x < y) (x ≡ y) (y < x) → ordering_then r (slice_cmp nat_cmp xs ys) ≡ Less
both n x y xs ys small smaller h behind Less m = refl
both n x y xs ys small smaller h behind Equal m =
    let same : x * 256 ^ n ≡ y * 256 ^ n = ap (λ b. b * 256 ^ n) m in
    behind (omega (arith, h, front-byte n x xs small, front-byte n y ys smaller, same))
both n x y xs ys small smaller h behind Greater m =
    absurd (omega (
      arith,
      h,
      front-byte n x xs small,
      front-byte n y ys smaller,
      next_power y x (256 ^ n) m,
      front_below n ys,
    ))

front_less : (n : ℕ) (xs ys : List ℕ) → front_of n xs < front_of n ys → slice_cmp nat_cmp xs ys ≡ Less
front_less zero xs ys h = absurd (omega (arith, h, front-zero xs, front-zero ys))
front_less (suc n) [] [] h = absurd (omega (arith, h))
front_less (suc n) [] (y ∷ ys) h = refl
front_less (suc n) (x ∷ xs) [] h = absurd (omega (arith, h, front-none (suc n)))
front_less (suc n) (x ∷ xs) (y ∷ ys) h =
    ⊎_elim
    (λ byte.
    let small = ltb-true x 256 byte in
    ⊎_elim (λ other-byte. both n x y xs ys small (ltb-true y 256 other-byte) h (front_less n xs ys) (nat_cmp x y)
    (ranks x y)) (λ other. ap (λ r. ordering_then r (slice_cmp nat_cmp xs ys))
    (less x y (omega (arith, small, ltb-false y 256 other)))) (cases_Bool (nat_lt y 256)))
    (λ other. absurd (omega (arith, h, front-other n x xs other, front_below (suc n) (y ∷ ys))))
    (cases_Bool (nat_lt x 256))

pub fronts_follow : (a b : OrderedKey) → key_front a < key_front b → key_cmp a b ≡ Less
unfolding key_front
fronts_follow a b h =
    (λ i. key_cmp (sym (key_of-bytes_of a) i) (sym (key_of-bytes_of b) i))
    ∙ key_cmp-key_of (bytes_of a) (bytes_of b)
    ∙ front_less 8 (bytes_of a) (bytes_of b) h

-- ---- the number of padded bytes is that of the bytes

front-zeros : (n m : ℕ) → front_of n (replicate m 0) ≡ 0
front-zeros zero m = front-zero (replicate m 0)
front-zeros (suc n) zero = front-none (suc n)
front-zeros (suc n) (suc m) = omega (arith, front-byte n 0 (replicate m 0) (omega arith), front-zeros n m)

pub front-padded : (n : ℕ) (bs : List ℕ) (m : ℕ) → front_of n (bs ++ replicate m 0) ≡ front_of n bs
front-padded zero bs m = front-zero (bs ++ replicate m 0) ∙ sym (front-zero bs)
front-padded (suc n) [] m = front-zeros (suc n) m ∙ sym (front-none (suc n))
front-padded (suc n) (b ∷ bs) m =
    ⊎_elim
    (λ byte. let small = ltb-true b 256 byte in front-byte n b (bs ++ replicate m 0) small ∙
    ap (λ k. b * 256 ^ n + k) (front-padded n bs m) ∙ sym (front-byte n b bs small))
    (λ other. front-other n b (bs ++ replicate m 0) other ∙ sym (front-other n b bs other))
    (cases_Bool (nat_lt b 256))

-- ---- the word of bytes is their number

front-next : (n j : ℕ) (bs : List ℕ) → AreBytes bs → front_of (suc n) (drop j bs) ≡ get_or bs j 0 * 256 ^ n + front_of n
    (drop (suc j) bs)
front-next n j [] h =
    let here : front_of (suc n) (drop j []) ≡ 0 = ap (front_of (suc n)) (drop_all j [] (omega arith)) ∙
    front-none (suc n) in
    let behind : front_of n (drop (suc j) []) ≡ 0 = ap (front_of n) (drop_all (suc j) [] (omega arith)) ∙
    front-none n in
    omega (arith, here, behind)
front-next n zero (b ∷ bs) h = front-byte n b bs (h 0)
front-next n (suc j) (b ∷ bs) h = front-next n j bs (λ k. h (suc k))

split_power : (a u n f : ℕ) → (a * 256 + u) * 256 ^ n + f ≡ a * 256 ^ suc n + (u * 256 ^ n + f)
split_power a u n f = omega (
  arith,
  add-mul (a * 256) u (256 ^ n),
  mul_assoc a 256 (256 ^ n),
  ap (λ p. a * p) (pow-succ' 256 n),
)

spelt-front : (bs : List ℕ) → AreBytes bs → (i n a k : ℕ) → spelt bs i a k n ≡ a * 256 ^ n + front_of n
    (drop (i + k) bs)
spelt-front bs h i zero a k = omega (arith, front-zero (drop (i + k) bs))
spelt-front bs h i (suc n) a k =
    let u = get_or bs (i + k) 0 in
    let next : i + suc k ≡ suc (i + k) = omega arith in
    spelt-front bs h i n (a * 256 + u) (suc k)
    ∙ ap (λ j. (a * 256 + u) * 256 ^ n + front_of n (drop j bs)) next
    ∙ split_power a u n (front_of n (drop (suc (i + k)) bs))
    ∙ ap (λ f. a * 256 ^ suc n + f) (sym (front-next n (i + k) bs h))

pub word-front : (bs : List ℕ) → AreBytes bs → word_at bs 0 ≡ front_of 8 bs
word-front bs h = word_at-spelt bs 0 ∙ spelt-front bs h 0 8 0 0 ∙ omega arith
