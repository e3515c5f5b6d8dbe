-- Words, bit by bit.
use Rattle.std.proofs.Common.{◌≡◌, ◌≢◌, ℕ, zero, suc, ◌+◌, ◌-◌, ◌*◌, ◌/◌, ◌%◌, ◌^◌, ◌<◌, ◌≤◌, Bool, true, false, eqb}
use Rattle.std.proofs.Common.{refl, sym, ap, ◌∙◌, subst, arith}
use mir.Val.{bool_byte}
use Rattle.std.proofs.Math.Nat.{pow-suc, pow-succ', div-div-eq-div-mul, div-one, mod-eq_of_lt}
use Rattle.std.proofs.Math.Arith.{mod-mul}
use Rattle.std.proofs.lemmas.Bool.{eq-eqb, ne_eqb, true≢false}
use Rattle.std.specs.Int.{w64, bit_at, trailing_zeros}
use Rattle.std.proofs.lemmas.Nat.Bits.{bit_at-trailing_zeros}
use Rattle.am_index_leaf.specs.Bits.{has_bit, IsNextBit, bit, inserted_bit, removed_bit, changed_bit}

pub pow_double : (i : ℕ) → 2 ^ suc i ≡ 2 * 2 ^ i
pow_double i = pow-succ' 2 i

pub pow_positive : (i : ℕ) → 0 < 2 ^ i
pow_positive zero = omega arith
pow_positive (suc i) = let d = pow_double i in let p = pow_positive i in omega arith

pub pow_mono : (i n : ℕ) → i ≤ n → 2 ^ i ≤ 2 ^ n
pow_mono zero n le = let p = pow_positive n in omega arith
pow_mono (suc i) zero le = absurd (omega arith)
pow_mono (suc i) (suc n) le = let d = pow_double i in let e = pow_double n in let h = pow_mono i n (omega arith) in
    omega arith

-- one bit off the word, and the lowest bit of what is left
pub shifted : (m i : ℕ) → m / 2 ^ suc i ≡ m / 2 / 2 ^ i
shifted m i = ap (λ (k : ℕ). m / k) (pow_double i) ∙ sym (div-div-eq-div-mul m 2 (2 ^ i))

pub cut_low : (m i : ℕ) → m % 2 ^ suc i ≡ m / 2 % 2 ^ i * 2 + m % 2
cut_low m i = ap (λ (k : ℕ). m % k) (pow-suc 2 i) ∙ mod-mul m (pow_positive i) (let two : 0 < 2 = omega arith in two)

pub bit_is : (m i : ℕ) → eqb (m / 2 ^ i % 2) 1 ≡ has_bit m i
bit_is m zero = ap (λ (k : ℕ). eqb (k % 2) 1) (div-one m)
bit_is m (suc i) = ap (λ (k : ℕ). eqb (k % 2) 1) (shifted m i) ∙ bit_is (m / 2) i

-- ---- the words that the code computes

-- from the word of the other bits to the word
one_up : (m i x : ℕ) → m % 2 ^ suc i + 2 ^ suc i * x ≡ m % 2 + 2 * (m / 2 % 2 ^ i + 2 ^ i * x)
one_up m i x = let low = cut_low m i in let double = pow_double i in (λ j. low j + double j * x) ∙ omega arith

pub inserted_is : (m i : ℕ) (b : Bool) → m % 2 ^ i + 2 ^ i * (2 * (m / 2 ^ i) + bit b) ≡ inserted_bit m i b
inserted_is m zero b = let one = div-one m in omega arith
inserted_is m (suc i) b = one_up m i (2 * (m / 2 ^ suc i) + bit b) ∙
    ap (λ (q : ℕ). m % 2 + 2 * (m / 2 % 2 ^ i + 2 ^ i * (2 * q + bit b))) (shifted m i) ∙
    ap (λ (w : ℕ). m % 2 + 2 * w) (inserted_is (m / 2) i b)

pub removed_is : (m i : ℕ) → m % 2 ^ i + 2 ^ i * (m / 2 ^ i / 2) ≡ removed_bit m i
removed_is m zero = let one = div-one m in omega arith
removed_is m (suc i) = one_up m i (m / 2 ^ suc i / 2) ∙ ap (λ (q : ℕ). m % 2 + 2 * (m / 2 % 2 ^ i + 2 ^ i * (q / 2)))
    (shifted m i) ∙ ap (λ (w : ℕ). m % 2 + 2 * w) (removed_is (m / 2) i)

pub changed_is : (m i : ℕ) (b : Bool) → m % 2 ^ i + 2 ^ i * (2 * (m / 2 ^ i / 2) + bit b) ≡ changed_bit m i b
changed_is m zero b = let one = div-one m in omega arith
changed_is m (suc i) b = one_up m i (2 * (m / 2 ^ suc i / 2) + bit b) ∙
    ap (λ (q : ℕ). m % 2 + 2 * (m / 2 % 2 ^ i + 2 ^ i * (2 * (q / 2) + bit b))) (shifted m i) ∙
    ap (λ (w : ℕ). m % 2 + 2 * w) (changed_is (m / 2) i b)

byte_is : (b : Bool) → bool_byte b ≡ bit b
byte_is true = refl
byte_is false = refl

-- a 1 shifted up by a number that leaves it in the word
pub one_at : (i : ℕ) → i ≤ 32 → 1 * 2 ^ i % 2 ^ 64 ≡ 2 ^ i
one_at i le =
    let small : 2 ^ i < 2 ^ 64 = (let up = pow_mono i 32 le in omega arith) in
    ap (λ (k : ℕ). k % 2 ^ 64) {x = 1 * 2 ^ i} {y = 2 ^ i} (omega arith) ∙ mod-eq_of_lt small

pub computed_insert : (m i a b : ℕ) (is_set : Bool) → a ≡ m → b ≡ bool_byte is_set → i < 32
    → a % (1 * 2 ^ i % 2 ^ 64) + 1 * 2 ^ i % 2 ^ 64 * (2 * (a / (1 * 2 ^ i % 2 ^ 64)) + b) ≡ inserted_bit m i is_set
computed_insert m i a b is_set same byte lt =
    let w = one_at i (omega arith) in (λ j. same j % w j + w j * (2 * (same j / w j) + (byte ∙ byte_is is_set) j)) ∙
    inserted_is m i is_set

pub computed_remove : (m i a : ℕ) → a ≡ m → i < 32 → a % (1 * 2 ^ i % 2 ^ 64) + 1 * 2 ^ i % 2 ^ 64 *
    (a / (1 * 2 ^ i % 2 ^ 64) / 2) ≡ removed_bit m i
computed_remove m i a same lt = let w = one_at i (omega arith) in (λ j. same j % w j + w j * (same j / w j / 2)) ∙
    removed_is m i

pub computed_change : (m i a b : ℕ) (is_set : Bool) → a ≡ m → b ≡ bool_byte is_set → i < 32
    → a % (1 * 2 ^ i % 2 ^ 64) + 1 * 2 ^ i % 2 ^ 64 * (2 * (a / (1 * 2 ^ i % 2 ^ 64) / 2) + b) ≡ changed_bit m i is_set
computed_change m i a b is_set same byte lt =
    let w = one_at i (omega arith) in (λ j. same j % w j + w j * (2 * (same j / w j / 2) + (byte ∙ byte_is is_set) j)) ∙
    changed_is m i is_set

-- ---- the next bit

-- the bit at an index from `from` on
bit_from : (m from n k : ℕ) → n ≡ from + k → has_bit m n ≡ has_bit (m / 2 ^ from) k
bit_from m zero n k is = ap (has_bit m) {x = n} {y = k} (omega arith) ∙ ap (λ (w : ℕ). has_bit w k) (sym (div-one m))
bit_from m (suc from) zero k is = absurd (omega arith)
bit_from m (suc from) (suc n) k is = bit_from (m / 2) from n k (omega arith) ∙
    ap (λ (w : ℕ). has_bit w k) (sym (shifted m from))

bit_none : (k : ℕ) → has_bit 0 k ≡ false
bit_none zero = refl
bit_none (suc k) = bit_none k

pub no_bit : (m from left : ℕ) → left ≡ m / 2 ^ from → left ≡ 0 → (k : ℕ) → from ≤ k → has_bit m k ≡ false
no_bit m from left is none k le = bit_from m from k (k - from) (omega arith) ∙ ap (λ (n : ℕ). has_bit n (k - from))
    (sym is ∙ none) ∙ bit_none (k - from)

pub lowest_bit : (m from left : ℕ) → left ≡ m / 2 ^ from → left ≢ 0 → left < 2 ^ 64 →
    IsNextBit m from (from + trailing_zeros w64 left)
lowest_bit m from left is some fits =
    let lowest = bit_at-trailing_zeros w64 left (omega (arith, some)) fits in
    let at = trailing_zeros w64 left in
    record {
      reached = omega arith;
      is_set = bit_from m from (from + at) at refl ∙ ap (λ (n : ℕ). has_bit n at) (sym is) ∙ sym (bit_is left at) ∙
          eq-eqb _ _ lowest.1;
      none_before = λ k le lt.
          let unset : bit_at left (k - from) ≡ 0 = lowest.2 (k - from) (omega arith) in
          bit_from m from k (k - from) (omega arith) ∙ ap (λ (n : ℕ). has_bit n (k - from)) (sym is) ∙
          sym (bit_is left (k - from)) ∙ ap (λ (b : ℕ). eqb b 1) unset;
    }

-- a bit is set only where the word is long enough
pub bit_within : (m n i : ℕ) → m < 2 ^ n → has_bit m i ≡ true → i < n
bit_within m zero i lt is = absurd (true≢false (sym is ∙ ap (λ (k : ℕ). has_bit k i) {x = m} {y = 0} (omega arith) ∙
    bit_none i))
bit_within m (suc n) zero lt is = omega arith
bit_within m (suc n) (suc i) lt is = let d = pow_double n in let h = bit_within (m / 2) n i (omega arith) is in
    omega arith

-- ---- how large they are

pub inserted_below : (m i n : ℕ) (b : Bool) → i ≤ n → m < 2 ^ n → inserted_bit m i b < 2 ^ suc n
inserted_below m zero n true le lt = let d = pow_double n in omega arith
inserted_below m zero n false le lt = let d = pow_double n in omega arith
inserted_below m (suc i) zero b le lt = absurd (omega arith)
inserted_below m (suc i) (suc n) b le lt =
    let d = pow_double n in let e = pow_double (suc n) in
    let half : m / 2 < 2 ^ n = omega arith in
    let h = inserted_below (m / 2) i n b (omega arith) half in omega arith

pub removed_below : (m i n : ℕ) → i ≤ n → m < 2 ^ suc n → removed_bit m i < 2 ^ n
removed_below m zero n le lt = let d = pow_double n in omega arith
removed_below m (suc i) zero le lt = absurd (omega arith)
removed_below m (suc i) (suc n) le lt =
    let d = pow_double n in let e = pow_double (suc n) in
    let half : m / 2 < 2 ^ suc n = omega arith in
    let h = removed_below (m / 2) i n (omega arith) half in omega arith

pub changed_below : (m i n : ℕ) (b : Bool) → i < n → m < 2 ^ n → changed_bit m i b < 2 ^ n
changed_below m i zero b le lt = absurd (omega arith)
changed_below m zero (suc n) true le lt = let d = pow_double n in omega arith
changed_below m zero (suc n) false le lt = let d = pow_double n in omega arith
changed_below m (suc i) (suc n) b le lt =
    let d = pow_double n in
    let half : m / 2 < 2 ^ n = omega arith in
    let h = changed_below (m / 2) i n b (omega arith) half in omega arith

pub cut_below : (m i : ℕ) → m % 2 ^ i < 2 ^ i
cut_below m zero = omega arith
cut_below m (suc i) = let d = pow_double i in let l = cut_low m i in let h = cut_below (m / 2) i in omega arith

pub rest_below : (m i n : ℕ) → i ≤ n → m < 2 ^ n → m / 2 ^ i < 2 ^ (n - i)
rest_below m zero n le lt = let whole : n - 0 ≡ n = omega arith in subst (λ (k : ℕ). m / 2 ^ 0 < 2 ^ k) (sym whole)
    (subst (λ (k : ℕ). k < 2 ^ n) (sym (div-one m)) lt)
rest_below m (suc i) zero le lt = absurd (omega arith)
rest_below m (suc i) (suc n) le lt =
    let d = pow_double n in
    let left : suc n - suc i ≡ n - i = omega arith in
    subst (λ (k : ℕ). m / 2 ^ suc i < 2 ^ k) (sym left)
    (subst (λ (k : ℕ). k < 2 ^ (n - i)) (sym (shifted m i)) (rest_below (m / 2) i n (omega arith) (omega arith)))

-- ---- the lowest bit and the others

pub low_bit : (b : Bool) (m : ℕ) → ((bit b + 2 * m) / 2 ≡ m) × (has_bit (bit b + 2 * m) 0 ≡ b)
low_bit true m = (omega arith, eq-eqb _ _ (omega arith))
low_bit false m = (omega arith, ne_eqb _ _ (omega arith))

pub low_part : (r w : ℕ) → r < 2 → ((r + 2 * w) / 2 ≡ w) × ((r + 2 * w) % 2 ≡ r)
low_part r w lt = (omega arith, omega arith)
