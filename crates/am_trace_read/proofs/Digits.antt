-- Digits, two for each byte, read one byte after another.
use Rattle.std.proofs.Common.{◌≡◌, ℕ, ◌<◌, ◌≤◌, leb, List, [], ◌∷◌, ◌++◌, length, Option, Some, None, refl, sym, ap}
use Rattle.std.proofs.Common.{◌∙◌, arith, append_assoc, append-nil, option_map}
use Rattle.std.specs.Prelude.{option_and_then}
use Rattle.std.specs.Option.{option_zip}
use Rattle.std.proofs.lemmas.Bool.{cond-true, cond-false}
use Rattle.std.proofs.lemmas.List.{length-append}
use Rattle.std.proofs.lemmas.Bool.Decides.{nat_tests}
use Rattle.am_line_text.specs.Values.{value_for}
use Rattle.am_trace_text.specs.FieldReadings.{byte_in, bytes_for, with_byte, value_for_digits}

-- these bytes were read, and these digits are left
abbrev pub IsRead : List ℕ → List ℕ → List ℕ → Type 0
IsRead digits bytes rest = bytes_for digits ≡ option_map (λ (more : List ℕ). bytes ++ more) (bytes_for rest)

front : (bytes : List ℕ) (b : ℕ) (o : Option (List ℕ)) →
    option_map (λ (more : List ℕ). bytes ++ more) (option_map with_byte (option_zip (Some b) o)) ≡ option_map
    (λ (more : List ℕ). (bytes ++ b ∷ []) ++ more) o
front bytes b None = refl
front bytes b (Some more) = ap (λ x. Some x) (sym (append_assoc bytes (b ∷ []) more))

pub read_more : (digits bytes : List ℕ) (high low b : ℕ) (rest : List ℕ) → IsRead digits bytes (high ∷ low ∷ rest) →
    byte_in high low ≡ Some b → IsRead digits (bytes ++ b ∷ []) rest
read_more digits bytes high low b rest h e =
    h ∙ ap (λ o. option_map (λ (more : List ℕ). bytes ++ more) (option_map with_byte (option_zip o (bytes_for rest))))
    e ∙ front bytes b (bytes_for rest)

nothing : {A : Type 0} (o : Option A) (f : ℕ × A → A) → option_map f (option_zip None o) ≡ None
nothing None f = refl
nothing (Some x) f = refl

pub read_all : (digits bytes : List ℕ) → IsRead digits bytes [] → length bytes ≤ 64 →
    value_for_digits digits ≡ Some bytes
read_all digits bytes h short =
    ap (option_and_then value_for) (h ∙ ap (λ b. Some b) (append-nil bytes)) ∙
    cond-true (leb (length bytes) 64) (Some bytes) None (grind (arith, nat_tests))

too_long : (bytes : List ℕ) (o : Option ℕ) (p : Option (List ℕ)) → length bytes ≡ 64 →
    option_and_then value_for (option_map (λ (more : List ℕ). bytes ++ more) (option_map with_byte (option_zip o p))) ≡
    None
too_long bytes None None e = refl
too_long bytes None (Some more) e = refl
too_long bytes (Some b) None e = refl
too_long bytes (Some b) (Some more) e =
    let long : 64 < length (bytes ++ b ∷ more) = omega (arith, length-append bytes (b ∷ more), e) in
    cond-false (leb (length (bytes ++ b ∷ more)) 64) (Some (bytes ++ b ∷ more)) None (grind (arith, nat_tests, long))

pub read_full : (digits bytes : List ℕ) (high low : ℕ) (rest : List ℕ) → IsRead digits bytes (high ∷ low ∷ rest) →
    length bytes ≡ 64 → value_for_digits digits ≡ None
read_full digits bytes high low rest h e = ap (option_and_then value_for) h ∙
    too_long bytes (byte_in high low) (bytes_for rest) e
