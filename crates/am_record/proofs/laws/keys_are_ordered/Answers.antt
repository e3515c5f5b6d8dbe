use Rattle.std.proofs.Common.{◌<◌, ℕ, zero, suc, get_or, refl, sym, ◌∙◌, arith}
use Rattle.std.specs.Int.{w64, to_be_bytes, bytes_high_first}
use Rattle.std.specs.Ordering.{nat_cmp}
use Rattle.std.proofs.lemmas.Nat.{from_be_bytes-to_be_bytes_8}
use Rattle.am_record.specs.OrderedKey.{number_key, key_cmp-key_of}
use Rattle.am_record.proofs.Words.{by_word}
use Rattle.am_record.proofs.laws.keys_are_ordered.Goals as goal

-- a number's bytes are below 256
high_bytes : (m n k : ℕ) → get_or (bytes_high_first m n) k 0 < 256
high_bytes zero n k = omega arith
high_bytes (suc zero) n zero = omega arith
high_bytes (suc (suc m)) n zero = omega arith
high_bytes (suc m) n (suc k) = high_bytes m n k

pub returns-clause-by_bytes : goal.returns-clause-by_bytes
returns-clause-by_bytes c = key_cmp-key_of

pub returns-clause-by_numbers : goal.returns-clause-by_numbers
unfolding number_key
returns-clause-by_numbers c = λ a b p q.
    let xs = to_be_bytes w64 a in
    let ys = to_be_bytes w64 b in
    key_cmp-key_of xs ys
    ∙ sym (by_word xs ys (high_bytes 8 a) (high_bytes 8 b) refl refl)
    ∙ (λ i. nat_cmp (from_be_bytes-to_be_bytes_8 a p i) (from_be_bytes-to_be_bytes_8 b q i))
