-- What is covered once more was entered.
use Rattle.std.proofs.Common.{◌≡◌, ◌≢◌, ℕ, zero, suc, ◌+◌, ◌*◌, ◌/◌, ◌%◌, ◌^◌, ◌<◌, ◌≤◌, ◌⊎◌, inl, inr, ⊎_elim}
use Rattle.std.proofs.Common.{List, [], ◌∷◌, length, get_or, set, replicate, true, false}
use Rattle.std.proofs.Common.{lit<}
use Rattle.std.proofs.Common.{refl, sym, ap, ◌∙◌, subst, arith, bit_and, bit_or}
use Rattle.std.specs.List.{fold, All}
use Rattle.std.specs.Int.{bit_at}
use Rattle.std.specs.Int.Bits.{and_zero_l}
use Rattle.std.proofs.lemmas.Nat.{and_or_self, le_or_r, div_below, pow_pos}
use Rattle.std.proofs.lemmas.List.Elements.{All-nil, All-cons}
use Rattle.std.proofs.lemmas.Nat.Bits.{bit_at_and, bit_at_or, same_from_bits}
use Rattle.std.proofs.lemmas.Bool.{cases_eq, cases_lt}
use Rattle.std.proofs.lemmas.Bool.Decides.{nat_tests}
use Rattle.std.proofs.lemmas.List.{get_or-set_same, get_or-set_other, length-set, set_past}
use Rattle.am_index_filter.specs.Covers.{place, mark, marks, has_all, is_marked, marked, empty_for}

-- ---- bits

has_more : (w c b : ℕ) → bit_and w b ≡ b → bit_and (bit_or w c) b ≡ b
has_more w c b had = same_from_bits (bit_and (bit_or w c) b) b
    (λ i. omega (
      arith,
      bit_at_and (bit_or w c) b i,
      bit_at_or w c i,
      bit_at_and w b i,
      ap (λ (n : ℕ). bit_at n i) had,
    ))

to_test : (w b : ℕ) → bit_and w b ≡ b → has_all w b ≡ true
to_test w b e = grind (arith, nat_tests)

from_test : (w b : ℕ) → has_all w b ≡ true → bit_and w b ≡ b
from_test w b e = grind (arith, nat_tests)

some_marks : (n : ℕ) → 0 < marks n
unfolding marks
some_marks n = omega (
  arith,
  le_or_r (bit_or (bit_or (bit_or (mark n) (mark (n / 2 ^ 6))) (mark (n / 2 ^ 12))) (mark (n / 2 ^ 18)))
      (mark (n / 2 ^ 24)),
  pow_pos (n / 2 ^ 24 % 64),
)

-- ---- one number

place_lt : (count n : ℕ) → 0 < count → place count n < count
place_lt count n some = div_below (n / 2 ^ 32 % 2 ^ 32 * count) (2 ^ 32) count (lit< tt)
    (grind (arith, nat_tests))

word_set : (words : List ℕ) (i j word : ℕ) →
    (get_or (set words i word) j 0 ≡ get_or words j 0) ⊎ ((j ≡ i) × (get_or (set words i word) j 0 ≡ word))
word_set words i j word = ⊎_elim
    (λ (same : j ≡ i). ⊎_elim
    (λ (lt : i < length words). inr (
      same,
      ap (λ (k : ℕ). get_or (set words i word) k 0) same ∙
          get_or-set_same words i word 0 lt,
    ))
    (λ (ge : length words ≤ i). inl (ap (λ (l : List ℕ). get_or l j 0) (set_past words i word ge)))
    (cases_lt i (length words)))
    (λ (other : j ≢ i). inl (get_or-set_other words i j word 0 other))
    (cases_eq j i)

-- the word of a number
abbrev word_of : List ℕ → ℕ → ℕ
word_of words n = get_or words (place (length words) n) 0

-- where it is once another was entered
word_in : (words : List ℕ) (m n : ℕ) →
    word_of (marked words m) n ≡ get_or (marked words m) (place (length words) n) 0
word_in words m n = ap (λ (k : ℕ). get_or (marked words m) (place k n) 0)
    (length-set words (place (length words) m) (bit_or (word_of words m) (marks m)))

pub covered_still : (words : List ℕ) (m n : ℕ) → is_marked words n ≡ true → is_marked (marked words m) n ≡ true
covered_still words m n had =
    let all = from_test (word_of words n) (marks n) had in
    let set_word = bit_or (word_of words m) (marks m) in
    to_test (word_of (marked words m) n) (marks n) (ap (λ (w : ℕ). bit_and w (marks n)) (word_in words m n) ∙
    ⊎_elim
    (λ (same : get_or (marked words m) (place (length words) n) 0 ≡ word_of words n).
    ap (λ (w : ℕ). bit_and w (marks n)) same ∙ all)
    (λ (now : (place (length words) n ≡ place (length words) m) ×
    (get_or (marked words m) (place (length words) n) 0 ≡ set_word)).
    ap (λ (w : ℕ). bit_and w (marks n)) now.1 ∙
    has_more (word_of words m) (marks m) (marks n)
    (ap (λ (k : ℕ). bit_and (get_or words k 0) (marks n)) (sym now.0) ∙ all))
    (word_set words (place (length words) m) (place (length words) n) set_word))

pub covered_now : (words : List ℕ) (n : ℕ) → 0 < length words → is_marked (marked words n) n ≡ true
covered_now words n some =
    let set_word = bit_or (word_of words n) (marks n) in
    to_test (word_of (marked words n) n) (marks n) (ap (λ (w : ℕ). bit_and w (marks n))
    (word_in words n n ∙ get_or-set_same words (place (length words) n) set_word 0 (place_lt (length words) n some)) ∙
    and_or_self (marks n) (word_of words n))

replicate_zero : (count i : ℕ) → let none : ℕ = 0 in get_or (replicate count none) i none ≡ none
replicate_zero zero i = refl
replicate_zero (suc count) zero = refl
replicate_zero (suc count) (suc i) = replicate_zero count i

ne_test : (b : ℕ) → 0 < b → has_all 0 b ≡ false
ne_test b some = let none = and_zero_l b in grind (arith, nat_tests)

-- words of which one was set are those once the number was entered
pub marked_is : (words : List ℕ) (n at was bits : ℕ) → at ≡ place (length words) n →
    was ≡ get_or words at 0 → bits ≡ marks n → set words at (bit_or was bits) ≡ marked words n
marked_is words n at was bits at_is was_is bits_is =
    let word : was ≡ get_or words (place (length words) n) 0 = was_is ∙ ap (λ (k : ℕ). get_or words k 0) at_is in
    λ j. set words (at_is j) (bit_or (word j) (bits_is j))

-- no number is covered by empty words
pub covers_none : (numbers n : ℕ) → is_marked (empty_for numbers) n ≡ false
covers_none numbers n =
    let count = numbers / 4 + 1 in
    let words = replicate count 0 in
    let none : word_of words n ≡ 0 = replicate_zero count (place (length words) n) in
    ap (λ (w : ℕ). has_all w (marks n)) none ∙ ne_test (marks n) (some_marks n)

-- ---- several

pub covered_after : (words : List ℕ) (ms : List ℕ) (n : ℕ) → is_marked words n ≡ true →
    is_marked (fold marked words ms) n ≡ true
covered_after words [] n had = had
covered_after words (m ∷ ms) n had = covered_after (marked words m) ms n (covered_still words m n had)

pub all_covered : (words : List ℕ) → 0 < length words → (ms : List ℕ) →
    All (λ n. is_marked (fold marked words ms) n ≡ true) ms
all_covered words some [] = All-nil (λ n. is_marked words n ≡ true)
all_covered words some (m ∷ ms) = All-cons (λ n. is_marked (fold marked (marked words m) ms) n ≡ true) m ms
    (covered_after (marked words m) ms m (covered_now words m some))
    (all_covered (marked words m) (subst (λ (k : ℕ). 0 < k)
    (sym (length-set words (place (length words) m) (bit_or (word_of words m) (marks m)))) some) ms)
