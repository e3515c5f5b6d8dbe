use Rattle.std.specs.Prelude.{◌≡◌, List, ℕ, take, length}
use Rattle.std.proofs.Common.{ap, ◌∙◌}
use Rattle.am_record.specs.OrderedKey.{key_of, bytes_of, bytes_of-key_of}
use Rattle.am_record.specs.PaddedBytes.{IsPadded, padded_back, zero_filled}
use Rattle.am_record.specs.declared.key.ShortKey.TheInside.{Inside}

-- the bytes with zeros after them, 16 in all
abbrev pub padded_short : List ℕ → List ℕ
padded_short bytes = zero_filled 16 bytes

pub key_fields_of-view : (a : Inside) → IsPadded 16 a.bytes a.len →
    record {
      bytes = padded_short (bytes_of (key_of (take a.len a.bytes)));
      len = length (bytes_of (key_of (take a.len a.bytes)));
    } ≡ a
key_fields_of-view a h =
    let front = bytes_of-key_of (take a.len a.bytes) in
    let bytes = ap padded_short front ∙ padded_back 16 a.bytes a.len h in
    let len = ap length front ∙ h.within in
    λ i. record { bytes = bytes i; len = len i }
