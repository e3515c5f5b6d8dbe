-- Keys, values and records as C gives and gets them.
use Rattle.std.specs.Prelude.{ℕ, nat_le, length, List, take, cond, Result, Ok, Err}
use Rattle.am_record.specs.Limits.{max_value_bytes, max_key_bytes}
use Rattle.am_record.specs.OrderedKey.{OrderedKey, key_of, bytes_of}
use Rattle.am_record.specs.PaddedBytes.{zero_filled}
use Rattle.am_record.specs.Interval.{Interval, key_le}
use Rattle.am_c_steps.specs.declared.status.Status.{Status}
use Rattle.am_c_steps.specs.declared.status.Status.TheVariants.{BadKey, BadValue, BadRange}
use Rattle.am_c_steps.specs.declared.text.KeyText.{KeyText}
use Rattle.am_c_steps.specs.declared.text.ValueText.{ValueText}
use Rattle.am_c_steps.specs.declared.text.Record.{Record}

-- f of both, where both were given; else what is wrong with the first that wasn't
abbrev pub of_both : {X Y Z : Type 0} → (X → Y → Result Z Status) → Result X Status → Result Y Status → Result Z Status
of_both f (Ok x) (Ok y) = f x y
of_both f (Ok x) (Err why) = Err why
of_both f (Err why) y = Err why

abbrev pub key_given : List ℕ → Result OrderedKey Status
key_given bytes = cond (nat_le (length bytes) max_key_bytes) (Ok (key_of bytes)) (Err BadKey)

abbrev pub value_given : List ℕ → Result (List ℕ) Status
value_given bytes = cond (nat_le (length bytes) max_value_bytes) (Ok bytes) (Err BadValue)

abbrev pub in_order : OrderedKey → OrderedKey → Result Interval Status
in_order lo hi = cond (key_le lo hi) (Ok (record { lo = lo; hi = hi })) (Err BadRange)

abbrev pub range_given : List ℕ → List ℕ → Result Interval Status
range_given lo hi = of_both in_order (key_given lo) (key_given hi)

-- the first bytes of a text, as many as it says
abbrev pub text_key : KeyText → Result OrderedKey Status
text_key k = cond (nat_le k.len max_key_bytes) (Ok (key_of (take k.len k.bytes))) (Err BadKey)

abbrev pub pair_given : Record → Result (OrderedKey × List ℕ) Status
pair_given r =
    cond (nat_le r.key.len max_key_bytes)
    (cond (nat_le r.value.len max_value_bytes)
    (Ok (key_of (take r.key.len r.key.bytes), take r.value.len r.value.bytes)) (Err BadValue))
    (Err BadKey)

-- as C holds them: zeros stand after the bytes
abbrev pub key_text : OrderedKey → KeyText
key_text k = record { len = length (bytes_of k); bytes = zero_filled max_key_bytes (bytes_of k) }

abbrev pub value_text : List ℕ → ValueText
value_text v = record { len = length v; bytes = zero_filled max_value_bytes v }

abbrev pub record_as_text : OrderedKey × List ℕ → Record
record_as_text r = record { key = key_text r.0; value = value_text r.1 }
