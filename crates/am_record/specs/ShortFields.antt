use Rattle.std.specs.Prelude.{◌≡◌, take, length}
use Rattle.am_record.specs.PaddedBytes.{IsPadded, padded_back, zero_filled}
use Rattle.am_record.specs.declared.value.ShortValue.TheInside.{Inside}

pub value_fields_of-view : (a : Inside) → IsPadded 16 a.bytes a.len →
    record {
      bytes = zero_filled 16 (take a.len a.bytes);
      len = length (take a.len a.bytes);
    } ≡ a
value_fields_of-view a h =
    let bytes = padded_back 16 a.bytes a.len h in
    λ i. record { bytes = bytes i; len = h.within i }
