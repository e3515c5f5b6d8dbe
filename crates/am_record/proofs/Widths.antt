-- Padded bytes with fewer zeros after them, and with more.
use Rattle.std.proofs.Common.{◌≡◌, ℕ, zero, suc, [], ◌∷◌, ◌+◌, ◌-◌, ◌≤◌, List, ◌++◌, length, take, drop, append_assoc}
use Rattle.std.proofs.Common.{sym, ap, ◌∙◌, arith}
use Rattle.std.specs.Prelude.{replicate}
use Rattle.std.proofs.lemmas.List.{take-replicate, drop-replicate, replicate-append-replicate, take_at}
use Rattle.am_record.specs.PaddedBytes.{IsPadded}

abbrev zeros : ℕ → List ℕ
zeros n = replicate n 0

take-append-ge : (n : ℕ) (xs ys : List ℕ) → length xs ≤ n → take n (xs ++ ys) ≡ xs ++ take (n - length xs) ys
take-append-ge n [] ys le = let e : n ≡ n - 0 = omega arith in ap (λ k. take k ys) e
take-append-ge zero (x ∷ xs) ys le = absurd (omega arith)
take-append-ge (suc n) (x ∷ xs) ys le =
    let e : n - length xs ≡ suc n - suc (length xs) = omega arith in
    ap (λ l. x ∷ l) (take-append-ge n xs ys (omega arith) ∙ ap (λ k. xs ++ take k ys) e)

-- bytes that begin with some and have zeros after them
padded_of : (room : ℕ) (bytes front : List ℕ) (len : ℕ) → length front ≡ len → len ≤ room → bytes ≡ front ++
    zeros (room - len) → IsPadded room bytes len
padded_of room bytes front len many short is =
    let front_is : take len bytes ≡ front = ap (take len) is ∙ take_at front (zeros (room - len)) len many in
    record {
      within = ap length front_is ∙ many;
      short = short;
      padded = is ∙ ap (λ xs. xs ++ zeros (room - len)) (sym front_is);
    }

module _ (room : ℕ) (bytes : List ℕ) (len : ℕ) (h : IsPadded room bytes len) where
  abbrev front : List ℕ
  front = take len bytes

  module _ (less : ℕ) (fits : len ≤ less) (le : less ≤ room) where
    cut : take less bytes ≡ front ++ zeros (less - len)
    cut =
        let gap : less - length front ≡ less - len = ap (λ (n : ℕ). less - n) h.within in
        let reached : length front ≤ less = omega (arith, h.within) in
        ap (take less) h.padded ∙ take-append-ge less front (zeros (room - len)) reached
        ∙ ap (λ n. front ++ take n (zeros (room - len))) gap ∙
        ap (λ zs. front ++ zs) (take-replicate (less - len) (room - len) 0 (omega arith))

    pub narrowed : (cut_bytes : List ℕ) → cut_bytes ≡ take less bytes → IsPadded less cut_bytes len
    narrowed cut_bytes e = padded_of less cut_bytes front len h.within fits (e ∙ cut)

    pub narrowed_front : (cut_bytes : List ℕ) → cut_bytes ≡ take less bytes → take len cut_bytes ≡ take len bytes
    narrowed_front cut_bytes e = ap (take len) (e ∙ cut) ∙ take_at front (zeros (less - len)) len h.within

  module _ (more : ℕ) (le : room ≤ more) (all copied : List ℕ) (long : length bytes ≡ room) (same : copied ≡ bytes)
      (is : all ≡ copied ++ drop room (zeros more)) where
    grown : all ≡ front ++ zeros (more - len)
    grown =
        let sum : (room - len) + (more - room) ≡ more - len = omega (arith, h.short) in
        is ∙ ap (λ xs. xs ++ drop room (zeros more)) (same ∙ h.padded) ∙
        ap (λ zs. (front ++ zeros (room - len)) ++ zs) (drop-replicate room more 0)
        ∙ append_assoc front (zeros (room - len)) (zeros (more - room))
        ∙ ap (λ zs. front ++ zs) (replicate-append-replicate (room - len) (more - room) 0 ∙ ap zeros sum)

    pub widened : IsPadded more all len
    widened = padded_of more all front len h.within (omega (arith, h.short)) grown

    pub widened_front : take len all ≡ take len bytes
    widened_front = ap (take len) grown ∙ take_at front (zeros (more - len)) len h.within
