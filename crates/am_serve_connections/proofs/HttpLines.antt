-- Lines of which the first 4,097 bytes are kept.
use Rattle.std.proofs.Common.{◌≡◌, ◌∙◌, ℕ, zero, suc, ◌+◌, ◌-◌, ◌≤◌, List, [], ◌∷◌, ◌++◌, length, take, false}
use Rattle.std.proofs.Common.{◌&&◌, ◌||◌, eqb, leb, refl, sym, ap, arith, inl, inr, codes, min, lit≤}
use Rattle.std.proofs.lemmas.Bool.{cases_lt, lt-leb}
use Rattle.std.proofs.lemmas.List.{take_all, take_min, length-take}
use Rattle.std.proofs.Math.Seq.{take-append-add}
use Rattle.std.specs.Char.{to_ascii_lowercase}
use Rattle.am_serve_connections.specs.Http.{begins_in_any_case, is_of_http, is_host_line, is_request_line}

-- a front of a text shows how it begins
begins_in_front : (n : ℕ) (text letters : List ℕ) → length letters ≤ n →
    begins_in_any_case (take n text) letters ≡ begins_in_any_case text letters
begins_in_front n text [] few = refl
begins_in_front zero text (letter ∷ letters) few = absurd (omega (arith, few))
begins_in_front (suc n) [] (letter ∷ letters) few = refl
begins_in_front (suc n) (byte ∷ text) (letter ∷ letters) few =
    ap (λ b. eqb (to_ascii_lowercase byte) letter && b) (begins_in_front n text letters (omega (arith, few)))

-- so is a line of HTTP known by its first 4,097 bytes
pub is_of_http-front : (line : List ℕ) → is_of_http (take 4097 line) ≡ is_of_http line
unfolding is_of_http
is_of_http-front line = elim (cases_lt 4096 (length line)) [
  | inl long ↦
      let front : leb (length (take 4097 line)) 4096 ≡ false =
      lt-leb _ _ (omega (arith, length-take 4097 line, long)) in
      let all : leb (length line) 4096 ≡ false = lt-leb _ _ long in
      ap (λ b. is_host_line (take 4097 line) || (b && is_request_line (take 4097 line))) front ∙
      ap (λ b. b || false) (begins_in_front 4097 line (codes "host:") (lit≤ tt)) ∙
      sym (ap (λ b. is_host_line line || (b && is_request_line line)) all)
  | inr short ↦ ap is_of_http (take_all 4097 line (omega (arith, short)))
]

-- as many bytes are added as there is room for
pub kept_bytes : (old bytes : List ℕ) (room : ℕ) → room ≡ 4097 - length old → length old ≤ 4097 →
    old ++ take (min room (length bytes)) bytes ≡ take 4097 (old ++ bytes)
kept_bytes old bytes room is few =
    let all : length old + room ≡ 4097 = omega (arith, is, few) in
    ap (λ (l : List ℕ). old ++ l) (take_min room bytes) ∙ sym (take-append-add old bytes room) ∙
    ap (λ n. take n (old ++ bytes)) all
