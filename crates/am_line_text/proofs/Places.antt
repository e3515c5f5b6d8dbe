-- The place of the first byte of a kind.
use Rattle.std.proofs.Common.{◌≡◌, ℕ, ◌==◌, List, length, Option, Some, None, arith}
use Rattle.std.specs.List.{position, position_or_len}
use Rattle.std.proofs.lemmas.List.Sums.{position_or_len_is}
use Rattle.memchr.specs.Find.{IsFirstByte, is_byte}

pub first_place : (byte : ℕ) (text : List ℕ) (r : Option ℕ) → IsFirstByte (is_byte byte) text r →
    r ≡ position (λ b. b == byte) text
first_place byte text None h =
    let end : position_or_len (λ b. b == byte) text ≡ length text = position_or_len_is (λ b. b == byte) text
    (length text) 0 (omega arith) (λ k l. grind (arith)) (λ l. absurd (omega arith)) in
    grind arith
first_place byte text (Some k) h =
    let at : position_or_len (λ b. b == byte) text ≡ k = position_or_len_is (λ b. b == byte) text k 0 (omega arith)
    (λ j l. grind arith) (λ l. grind arith) in
    grind arith
