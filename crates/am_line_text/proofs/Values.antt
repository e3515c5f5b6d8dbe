-- The test of a value's text.
use Rattle.std.proofs.Common.{◌≡◌, ℕ, ◌<◌, ◌≤◌, true, not, eqb, List, length, Decides, refl, arith}
use Rattle.std.specs.Char.{is_ascii_graphic}
use Rattle.std.specs.List.{list_all}
use Rattle.std.proofs.lemmas.Bool.{and_parts}
use Rattle.std.proofs.lemmas.Bool.Decides.{nat_tests, Decides-and, Decides-by_and}
use Rattle.am_line_text.specs.Values.{IsValueText, is_value_text}
use Rattle.am_line_text.specs.Fields.{has_no_space}
use Rattle.am_line_text.proofs.Spaces.{list_all-weaker}

pub graphic : (b : ℕ) → Decides (is_ascii_graphic b) ((0x21 ≤ b) × (b ≤ 0x7E))
graphic b = (λ h. (grind (arith, nat_tests), grind (arith, nat_tests)), λ h. grind (arith, nat_tests))

pub some_bytes : (text : List ℕ) → Decides (not (eqb (length text) 0)) (0 < length text)
some_bytes text = (λ h. grind (arith, nat_tests), λ h. grind (arith, nat_tests))

-- the test decides what the grammar asks of a value
pub is_value_text-Decides : (text : List ℕ) → Decides (is_value_text text) (IsValueText text)
is_value_text-Decides text =
    Decides-and (not (eqb (length text) 0)) (list_all is_ascii_graphic text) (some_bytes text)
    (Decides-by_and is_ascii_graphic (λ b. (0x21 ≤ b) × (b ≤ 0x7E)) (list_all is_ascii_graphic) graphic refl
    (λ _ _. refl) text)

graphic-no_space : (b : ℕ) → is_ascii_graphic b ≡ true → not (eqb b 32) ≡ true
graphic-no_space b h = grind (arith, nat_tests)

pub IsValueText-no_space : (value : List ℕ) → IsValueText value → has_no_space value ≡ true
IsValueText-no_space value h = list_all-weaker is_ascii_graphic (λ b. not (eqb b 32)) graphic-no_space value
    (and_parts (not (eqb (length value) 0)) (list_all is_ascii_graphic value) ((is_value_text-Decides value).1 h)).1
