-- The test of a key's text, and the keys that such texts name.
use Rattle.std.proofs.Common.{◌≡◌, ◌≢◌, ℕ, Bool, true, false, not, cond, eqb, List, length, Some, None, All, Decides}
use Rattle.std.proofs.Common.{refl, sym, ap, ◌∙◌, subst, arith}
use Rattle.std.specs.Char.{is_ascii_graphic}
use Rattle.std.specs.List.{list_all}
use Rattle.std.proofs.lemmas.Bool.{and_parts}
use Rattle.std.proofs.lemmas.Bool.Decides.{nat_tests, Decides-and, Decides-by_and}
use Rattle.am_record.specs.OrderedKey.{OrderedKey, key_of, bytes_of, bytes_of-key_of}
use Rattle.am_line_text.specs.Keys.{IsKeyByte, IsKeyText, is_key_byte, is_key_text, key_for, printed_key}
use Rattle.am_line_text.specs.Values.{IsVisible}
use Rattle.am_line_text.specs.Fields.{has_no_space}
use Rattle.am_line_text.proofs.Spaces.{list_all-weaker}
use Rattle.am_line_text.proofs.Values.{graphic, some_bytes}

other : (b : ℕ) → Decides (not (eqb b 0x3D)) (b ≢ 0x3D)
other b = (λ h e. grind (arith, nat_tests), λ h. grind (arith, nat_tests))

key_byte : (b : ℕ) → Decides (is_key_byte b) (IsKeyByte b)
key_byte b = Decides-and (is_ascii_graphic b) (not (eqb b 0x3D)) (graphic b) (other b)

-- the test decides what the grammar asks of a key
pub is_key_text-Decides : (text : List ℕ) → Decides (is_key_text text) (IsKeyText text)
is_key_text-Decides text =
    Decides-and (not (eqb (length text) 0)) (list_all is_key_byte text) (some_bytes text)
    (Decides-by_and is_key_byte IsKeyByte (list_all is_key_byte) key_byte refl (λ _ _. refl) text)

key_byte-no_space : (b : ℕ) → is_key_byte b ≡ true → not (eqb b 32) ≡ true
key_byte-no_space b h = let parts = and_parts (is_ascii_graphic b) (not (eqb b 0x3D)) h in
    grind (arith, nat_tests, parts.0)

pub IsKeyText-no_space : (key : List ℕ) → IsKeyText key → has_no_space key ≡ true
IsKeyText-no_space key h = list_all-weaker is_key_byte (λ b. not (eqb b 32)) key_byte-no_space key
    (and_parts (not (eqb (length key) 0)) (list_all is_key_byte key) ((is_key_text-Decides key).1 h)).1

in_range : (b : Bool) (k key : OrderedKey) → cond b (Some k) None ≡ Some key → k ≡ key
in_range true k key e = cc
in_range false k key e = cc

-- the key that a text names is printed by visible bytes
pub key_for-visible : (text : List ℕ) (key : OrderedKey) → IsKeyText text → key_for text ≡ Some key →
    All IsVisible (printed_key key)
key_for-visible text key h e =
    subst (λ (xs : List ℕ). All IsVisible xs) (sym (bytes_of-key_of text) ∙
    ap bytes_of (in_range _ (key_of text) key e)) (λ k d inside. (h.1 k d inside).0)
