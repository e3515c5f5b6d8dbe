-- Digits of base 16, read in lanes.
use Rattle.std.proofs.Common.{◌≡◌, ℕ, zero, suc, ◌+◌, ◌*◌, ◌/◌, ◌%◌, ◌^◌, ◌<◌, ◌≤◌, leb, Bool, true, false, cond}
use Rattle.std.proofs.Common.{List, [], ◌∷◌, ◌++◌, length, get_or, map, take, drop, replicate, refl, sym, ap, ◌∙◌}
use Rattle.std.proofs.Common.{arith, w8}
use Rattle.std.specs.Simd.Lanes.{zip2, sel_l, mask_l, top, pick_l}
use Rattle.std.specs.List.{AllByRecursion}
use Rattle.std.proofs.lemmas.Bool.{leb-false}
use Rattle.std.proofs.lemmas.Bool.Decides.{nat_tests}
use Rattle.std.proofs.lemmas.List.{length-map}
use Rattle.std.proofs.lemmas.Simd.{zip2_splat_left, zip2_of_maps, splat_is_map, tops_compared, mask_l-mod}
use Rattle.am_trace_text.specs.Words.{hex_digit, hex_digits}
use Rattle.am_trace_text.specs.Bounds.{IsByteList}
use Rattle.am_trace_read.specs.Lanes.{lane_number}

-- ---- lane by lane

-- a choice by a test of each lane
pub chosen : {X : Type 0} (p : X → Bool) (f g : X → ℕ) (vs : List X) → sel_l (map p vs) (map f vs) (map g vs) ≡ map
    (λ v. cond (p v) (f v) (g v)) vs
chosen p f g [] = refl
chosen p f g (v ∷ vs) = ap (λ (l : List ℕ). cond (p v) (f v) (g v) ∷ l) (chosen p f g vs)

-- the comparison of each lane with a number
pub compared : (t : ℕ → ℕ → Bool) (f : ℕ → ℕ) (vs xs : List ℕ) (n y : ℕ) → length vs ≡ n → xs ≡ map f vs →
    map (top 7) (zip2 (λ a b. cond (t a b) 255 0) xs (replicate n y)) ≡ map (λ c. t (f c) y) vs
compared t f vs xs n y long is = tops_compared w8 t xs (replicate n y) ∙
    zip2_of_maps t f (λ _. y) vs is (splat_is_map vs n y long)

-- ---- the numbers of digits

lane_is : (c : ℕ) → c < 256 → lane_number c < 16 → c ≡ hex_digit (lane_number c)
lane_is c byte small = grind (arith, nat_tests, byte, small)

no_bits : (vs : List ℕ) → mask_l (map (leb 16) (map lane_number vs)) ≡ 0 → AllByRecursion (λ c. lane_number c < 16) vs
no_bits [] e = tt
no_bits (c ∷ vs) e =
    let none : leb 16 (lane_number c) ≡ false = no_bit (leb 16 (lane_number c)) _ e in
    (omega (arith, leb-false 16 (lane_number c) none), no_bits vs (omega (arith, e)))
  where
    no_bit : (b : Bool) (m : ℕ) → cond b 1 0 + 2 * m ≡ 0 → b ≡ false
    no_bit true m e = absurd (omega arith)
    no_bit false m e = refl

-- where the mask of those that are no digits is empty
pub all_digits : (vs xs : List ℕ) (n : ℕ) → length vs ≡ n → n ≤ 64 → xs ≡ map lane_number vs →
    mask_l (map (top 7) (zip2 (λ a b. cond (leb a b) 255 0) (replicate n 16) xs)) % 2 ^ 64 ≡ 0 →
    AllByRecursion (λ c. lane_number c < 16) vs
all_digits vs xs n long few is e =
    let lanes : length xs ≡ n = ap length is ∙ length-map vs lane_number ∙ long in
    let mask : map (top 7) (zip2 (λ a b. cond (leb a b) 255 0) (replicate n 16) xs) ≡ map (leb 16) xs =
    tops_compared w8 leb (replicate n 16) xs ∙ zip2_splat_left leb 16 n xs lanes in
    let whole : mask_l (map (leb 16) xs) % 2 ^ 64 ≡ mask_l (map (leb 16) xs) =
    mask_l-mod (map (leb 16) xs) 64 (omega (arith, length-map xs (leb 16), lanes, few)) in
    no_bits vs (ap (λ l. mask_l (map (leb 16) l)) (sym is) ∙ sym whole ∙ ap (λ ms. mask_l ms % 2 ^ 64) (sym mask) ∙ e)

-- ---- the bytes of pairs

abbrev pub byte_of : ℕ → ℕ → ℕ
byte_of a b = (lane_number a * 16 % 256 + lane_number b) % 256

abbrev pub pair_bytes : List ℕ → List ℕ
pair_bytes [] = []
pair_bytes (a ∷ []) = []
pair_bytes (a ∷ b ∷ vs) = byte_of a b ∷ pair_bytes vs

abbrev pub two_on : List ℕ → List ℕ
two_on ks = map (λ k. suc (suc k)) ks

abbrev pub evens : ℕ → List ℕ
evens zero = []
evens (suc n) = 0 ∷ two_on (evens n)

abbrev pub odds : ℕ → List ℕ
odds zero = []
odds (suc n) = 1 ∷ two_on (odds n)

pick_two_on : (a b : ℕ) (xs ks : List ℕ) → pick_l 0 (a ∷ b ∷ xs) (two_on ks) ≡ pick_l 0 xs ks
pick_two_on a b xs [] = refl
pick_two_on a b xs (k ∷ ks) = ap (λ (l : List ℕ). get_or xs k 0 ∷ l) (pick_two_on a b xs ks)

abbrev pub joined : ℕ → List ℕ → List ℕ → List ℕ
joined n highs lows = zip2 (λ x y. (x + y) % 256) (zip2 (λ x y. x * y % 256) highs (replicate n 16)) lows

pub pairs_joined : (n : ℕ) (vs more : List ℕ) → length vs ≡ 2 * n →
    joined n (pick_l 0 (map lane_number vs ++ more) (evens n)) (pick_l 0 (map lane_number vs ++ more) (odds n)) ≡
    pair_bytes vs
pairs_joined zero [] more e = refl
pairs_joined zero (a ∷ vs) more e = absurd (omega arith)
pairs_joined (suc n) [] more e = absurd (omega arith)
pairs_joined (suc n) (a ∷ []) more e = absurd (omega arith)
pairs_joined (suc n) (a ∷ b ∷ vs) more e =
    let rest = map lane_number vs ++ more in
    let high = pick_two_on (lane_number a) (lane_number b) rest (evens n) in
    let low = pick_two_on (lane_number a) (lane_number b) rest (odds n) in
    (λ i. joined (suc n) (lane_number a ∷ high i) (lane_number b ∷ low i)) ∙
    ap (λ (l : List ℕ). byte_of a b ∷ l) (pairs_joined n vs more (omega arith))

byte_is : (x y : ℕ) → x < 16 → y < 16 → ((x * 16 % 256 + y) % 256 / 16 ≡ x) × ((x * 16 % 256 + y) % 256 % 16 ≡ y)
byte_is x y h k = (omega arith, omega arith)

pub pairs_are : (n : ℕ) (vs : List ℕ) → length vs ≡ 2 * n → ((i : ℕ) → get_or vs i 0 < 256) →
    AllByRecursion (λ c. lane_number c < 16) vs → (vs ≡ hex_digits (pair_bytes vs)) × IsByteList (pair_bytes vs)
pairs_are n [] e bytes all = (refl, tt)
pairs_are n (a ∷ []) e bytes all = absurd (omega arith)
pairs_are zero (a ∷ b ∷ vs) e bytes all = absurd (omega arith)
pairs_are (suc n) (a ∷ b ∷ vs) e bytes all =
    let more = pairs_are n vs (omega arith) (λ i. bytes (suc (suc i))) all.1.1 in
    let two = byte_is (lane_number a) (lane_number b) all.0 all.1.0 in
    let first : a ≡ hex_digit (byte_of a b / 16) = lane_is a (bytes 0) all.0 ∙ ap hex_digit (sym two.0) in
    let second : b ≡ hex_digit (byte_of a b % 16) = lane_is b (bytes 1) all.1.0 ∙ ap hex_digit (sym two.1) in
    ((λ i. first i ∷ second i ∷ more.0 i), (omega arith, more.1))

pub whole_chunk : (n : ℕ) (vs : List ℕ) → length vs ≡ n → take n (drop 0 vs) ≡ vs
whole_chunk zero [] e = refl
whole_chunk zero (a ∷ vs) e = absurd (omega arith)
whole_chunk (suc n) [] e = absurd (omega arith)
whole_chunk (suc n) (a ∷ vs) e = ap (λ (l : List ℕ). a ∷ l) (whole_chunk n vs (omega arith))
