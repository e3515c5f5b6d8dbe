-- Lines that are cut from bytes.
use Rattle.std.proofs.Common.{None, inl, inr, ltb, ◌≡◌, ◌≢◌, ℕ, List, [], ◌∷◌, ◌++◌, ap, sym, ◌∙◌, refl, cond, true}
use Rattle.std.proofs.Common.{false, length, take, get_or, map, arith, suc, zero, ◌<◌, ◌≤◌, ◌-◌, ◌+◌, eqb}
use Rattle.std.proofs.lemmas.Grind.{common_steps}
use Rattle.std.proofs.lemmas.List.{take_more, get_or_default, length-take, take_all}
use Rattle.std.proofs.lemmas.Bool.{cases_lt}
use Rattle.am_line_source.specs.Lines.{pieces_of, without_cr, line_of, lines_of, HasNoLf}

pub without_cr-push : (xs : List ℕ) (c : ℕ) → without_cr (xs ++ c ∷ []) ≡ cond (eqb c 13) xs (xs ++ c ∷ [])
without_cr-push [] c = refl
without_cr-push (x ∷ []) c = elim (eqb c 13) as (λ b. (x ∷ cond b [] (c ∷ [])) ≡ cond b (x ∷ []) (x ∷ c ∷ []))
    [ true ↦ refl | false ↦ refl ]
without_cr-push (x ∷ y ∷ xs) c = ap (λ z. x ∷ z) (without_cr-push (y ∷ xs) c) ∙
    elim (eqb c 13) as (λ b. (x ∷ cond b (y ∷ xs) ((y ∷ xs) ++ c ∷ [])) ≡ cond b (x ∷ y ∷ xs) (x ∷ y ∷ xs ++ c ∷ []))
    [ true ↦ refl | false ↦ refl ]

-- an LF ends the piece before it
pub pieces_of-ended : (piece more : List ℕ) → HasNoLf piece → pieces_of (piece ++ (10 ∷ more)) ≡ piece ∷ pieces_of more
pieces_of-ended [] more h = refl
pieces_of-ended (c ∷ piece) more h = let e : eqb c 10 ≡ false = grind (arith, common_steps, h.0) in
    rw (e, pieces_of-ended piece more h.1) refl

-- what no LF ends is one piece
pub pieces_of-open : (c : ℕ) (piece : List ℕ) → HasNoLf (c ∷ piece) → pieces_of (c ∷ piece) ≡ (c ∷ piece) ∷ []
pieces_of-open c [] h = let e : eqb c 10 ≡ false = grind (arith, common_steps, h.0) in rw e refl
pieces_of-open c (d ∷ piece) h = let e : eqb c 10 ≡ false = grind (arith, common_steps, h.0) in
    rw (e, pieces_of-open d piece h.1) refl

pub lines_of-ended : (piece more : List ℕ) → HasNoLf piece → lines_of (piece ++ (10 ∷ more)) ≡ line_of piece ∷ lines_of
    more
lines_of-ended piece more h = ap (map line_of) (pieces_of-ended piece more h)

pub lines_of-open : (piece : List ℕ) → HasNoLf piece → piece ≢ [] → lines_of piece ≡ line_of piece ∷ []
lines_of-open [] h n = absurd (n refl)
lines_of-open (c ∷ piece) h n = ap (map line_of) (pieces_of-open c piece h)

pub no_lf-append : (piece more : List ℕ) → HasNoLf piece → HasNoLf more → HasNoLf (piece ++ more)
no_lf-append [] more h n = n
no_lf-append (x ∷ piece) more h n = (h.0, no_lf-append piece more h.1 n)

take_last : (xs : List ℕ) (n : ℕ) → 0 < n → n - 1 < length xs → take n xs ≡ take (n - 1) xs ++ get_or xs (n - 1) 0 ∷ []
take_last xs n p l = let e : (n - 1) + 1 ≡ n = omega arith in ap (λ m. take m xs) (sym e) ∙ take_more xs (n - 1) 0 l

pub cr_there : (xs : List ℕ) (n v : ℕ) → (n ≡ 0 → ⊥) → n ≤ length xs → v ≡ get_or xs (n - 1) v → v ≡ 13 →
    take (n - 1) xs ≡ without_cr (take n xs)
cr_there xs n v p l r e =
    let lt : n - 1 < length xs = omega arith in
    let q : get_or xs (n - 1) 0 ≡ 13 = get_or_default xs (n - 1) 0 v lt ∙ sym r ∙ e in
    sym (ap without_cr (take_last xs n (omega arith) lt) ∙ without_cr-push (take (n - 1) xs) (get_or xs (n - 1) 0) ∙
    ap (λ m. cond (eqb m 13) (take (n - 1) xs) (take (n - 1) xs ++ get_or xs (n - 1) 0 ∷ [])) q)

pub cr_not_there : (xs : List ℕ) (n v : ℕ) → (n ≡ 0 → ⊥) → n ≤ length xs → v ≡ get_or xs (n - 1) v → (v ≡ 13 → ⊥) →
    take n xs ≡ without_cr (take n xs)
cr_not_there xs n v p l r e =
    let lt : n - 1 < length xs = omega arith in
    let q : get_or xs (n - 1) 0 ≡ 13 → ⊥ = λ h. e (r ∙ get_or_default xs (n - 1) v 0 lt ∙ h) in
    let f : eqb (get_or xs (n - 1) 0) 13 ≡ false = grind (arith, common_steps, q) in
    take_last xs n (omega arith) lt ∙ sym (ap without_cr (take_last xs n (omega arith) lt) ∙
    without_cr-push (take (n - 1) xs) (get_or xs (n - 1) 0) ∙
    ap (λ b. cond b (take (n - 1) xs) (take (n - 1) xs ++ get_or xs (n - 1) 0 ∷ [])) f)

long : (xs : List ℕ) → 4096 < length xs → line_of xs ≡ None
long xs h = let e : ltb 4096 (length xs) ≡ true = grind (arith, common_steps, h) in rw e refl

-- A line that is too long is so by its front.
pub line_of-front : (piece : List ℕ) → line_of (take 4097 piece) ≡ line_of piece
line_of-front piece = elim (cases_lt 4096 (length piece)) [
  | inl h ↦ long (take 4097 piece) (omega (arith, length-take 4097 piece, h)) ∙ sym (long piece h)
  | inr h ↦ ap line_of
      (take_all 4097 piece (omega (arith, h)))
]

-- to keep the front is to keep it after each piece
pub take-append-front : (n : ℕ) (xs ys : List ℕ) → take n (take n xs ++ ys) ≡ take n (xs ++ ys)
take-append-front zero xs ys = refl
take-append-front (suc n) [] ys = refl
take-append-front (suc n) (x ∷ xs) ys = ap (λ z. x ∷ z) (take-append-front n xs ys)
