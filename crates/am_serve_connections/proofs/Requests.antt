-- Requests of HTTP, as browsers write them.
use Rattle.std.proofs.Common.{◌≡◌, ◌∙◌, ℕ, ◌+◌, ◌-◌, ◌<◌, List, [], ◌∷◌, ◌++◌, length, take, drop}
use Rattle.std.proofs.Common.{Bool, true, false, not, ◌&&◌, ◌||◌, cond, refl, sym, ap, arith, codes, length-append}
use Rattle.std.specs.Prelude.{nat_eq}
use Rattle.std.specs.Char.{is_ascii_whitespace}
use Rattle.std.specs.List.{list_any, prefix_len, suffix_len, starts_with, after_last, before_last}
use Rattle.std.proofs.lemmas.List.{reverse-append, take_all}
use Rattle.std.proofs.lemmas.List.Sums.{suffix_len_is}
use Rattle.std.proofs.lemmas.List.Folds.{list_any-append}
use Rattle.std.proofs.Math.Seq.{take-append-add, take-append_seam, drop-append_seam, get_or-append_right}
use Rattle.am_serve_connections.specs.Http.{IsWord, RequestsAreSeen, is_version, has_two_words}
use Rattle.am_serve_connections.specs.Http.{without_blanks, own_fronts}

abbrev blank : ℕ → Bool
blank = is_ascii_whitespace

-- what stands at the end of a request, and the same without its CR
abbrev ending : List ℕ
ending = codes " HTTP/1.1" ++ 13 ∷ []

abbrev version : List ℕ
version = codes "HTTP/1.1"

one_blank : (front : List ℕ) → suffix_len blank (front ++ ending) ≡ 1
one_blank front = ap (prefix_len blank) (reverse-append front ending)

without_cr : (front : List ℕ) → without_blanks (front ++ ending) ≡ front ++ 32 ∷ version
without_cr front =
    ap (λ n. take (length (front ++ ending) - n) (front ++ ending)) (one_blank front) ∙
    ap (λ n. take n (front ++ ending)) (omega (arith, length-append front ending)) ∙
    take-append-add front ending 9

last_eight : (front : List ℕ) → suffix_len (λ byte. not (blank byte)) (front ++ 32 ∷ version) ≡ 8
last_eight front = ap (prefix_len (λ byte. not (blank byte))) (reverse-append front (32 ∷ version))

last_is : (front : List ℕ) → after_last blank (front ++ 32 ∷ version) ≡ version
last_is front =
    ap (λ n. drop (length (front ++ 32 ∷ version) - n) (front ++ 32 ∷ version)) (last_eight front) ∙
    ap (λ n. drop n (front ++ 32 ∷ version)) (omega (
      arith,
      length-append front (32 ∷ version),
      length-append front (32 ∷ []),
    )) ∙
    ap (drop (length (front ++ 32 ∷ []))) (sym (append_one front version)) ∙
    drop-append_seam (front ++ 32 ∷ []) version
  where
    append_one : (xs ys : List ℕ) → (xs ++ 32 ∷ []) ++ ys ≡ xs ++ 32 ∷ ys
    append_one [] ys = refl
    append_one (x ∷ xs) ys = ap (λ (l : List ℕ). x ∷ l) (append_one xs ys)

front_is : (front : List ℕ) → before_last blank (front ++ 32 ∷ version) ≡ front
front_is front =
    ap (λ n. take (length (front ++ 32 ∷ version) - n - 1) (front ++ 32 ∷ version)) (last_eight front) ∙
    ap (λ n. take n (front ++ 32 ∷ version)) (omega (arith, length-append front (32 ∷ version))) ∙
    take-append_seam front (32 ∷ version)

-- no blank stands before a first word, or after a last one
none_before : (word rest : List ℕ) → IsWord word → prefix_len blank (word ++ rest) ≡ 0
none_before [] rest is = absurd (is.0 refl)
none_before (byte ∷ word) rest is =
    ap (λ b. cond b (1 + prefix_len blank (word ++ rest)) 0) (is.1 0 0 (omega arith))

more_than_none : (word : List ℕ) → IsWord word → 0 < length word
more_than_none [] is = absurd (is.0 refl)
more_than_none (byte ∷ word) is = omega arith

none_behind : (front word : List ℕ) → IsWord word → suffix_len blank (front ++ word) ≡ 0
none_behind front word is =
    let some : 0 < length word = more_than_none word is in
    let long : length (front ++ word) ≡ length front + length word = length-append front word in
    suffix_len_is blank (front ++ word) (length (front ++ word)) 0 (omega arith)
    (λ k past within. absurd (omega (arith, past, within)))
    (λ _. ap blank (get_or-append_right front word (length (front ++ word) - 1) 0 (omega arith)) ∙
    is.1 (length (front ++ word) - 1 - length front) 0 (omega arith)) ∙ omega arith

two_words : (method target : List ℕ) → IsWord method → IsWord target → has_two_words (method ++ 32 ∷ target) ≡ true
two_words method target is and =
    let front : List ℕ = method ++ 32 ∷ target in
    let behind : suffix_len blank front ≡ 0 =
    ap (suffix_len blank) (sym (one_more method target)) ∙ none_behind (method ++ 32 ∷ []) target and in
    ap (λ n. list_any blank (without_blanks (drop n front))) (none_before method (32 ∷ target) is) ∙
    ap (λ n. list_any blank (take (length front - n) front)) behind ∙
    ap (list_any blank) (take_all (length front - 0) front (omega arith)) ∙
    list_any-append blank method (32 ∷ target) ∙ or_true (list_any blank method)
  where
    one_more : (xs ys : List ℕ) → (xs ++ 32 ∷ []) ++ ys ≡ xs ++ 32 ∷ ys
    one_more [] ys = refl
    one_more (x ∷ xs) ys = ap (λ (l : List ℕ). x ∷ l) (one_more xs ys)

    or_true : (b : Bool) → (b || true) ≡ true
    or_true b = elim b as (λ v. (v || true) ≡ true) [ true ↦ refl | false ↦ refl ]

pub requests_are_seen : RequestsAreSeen
requests_are_seen method target is and other =
    let front : List ℕ = method ++ 32 ∷ target in
    ap (λ (text : List ℕ). (is_version (after_last blank text) && has_two_words (before_last blank text)) &&
    not (list_any (starts_with nat_eq (front ++ ending)) own_fronts)) (without_cr front) ∙
    ap (λ (word : List ℕ). (is_version word && has_two_words (before_last blank (front ++ 32 ∷ version))) &&
    not (list_any (starts_with nat_eq (front ++ ending)) own_fronts)) (last_is front) ∙
    ap (λ (text : List ℕ). has_two_words text && not (list_any (starts_with nat_eq (front ++ ending)) own_fronts))
    (front_is front) ∙
    ap (λ b. b && not (list_any (starts_with nat_eq (front ++ ending)) own_fronts)) (two_words method target is and) ∙
    ap not other
