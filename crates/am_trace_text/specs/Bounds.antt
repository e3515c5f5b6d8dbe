-- What a stored trace may speak of: the bounds of its numbers, keys, values and ranges.
use Rattle.std.specs.Prelude.{◌≡◌, ℕ, ◌^◌, ◌<◌, ◌≤◌, List, length, true}
use Rattle.std.specs.List.{AllByRecursion}
use Rattle.am_record.specs.Limits.{max_key_bytes, max_value_bytes}
use Rattle.am_record.specs.OrderedKey.{OrderedKey, bytes_of}
use Rattle.am_record.specs.Interval.{Interval, key_le}
use Rattle.am_record.specs.Records.{Records}
use Rattle.am_trace_text.specs.declared.version.Version.{Version}
use Rattle.am_trace_text.specs.declared.version.Version.TheVariants.{One}

abbrev pub IsByteList : List ℕ → Type 0
IsByteList bytes = AllByRecursion (λ b. b < 256) bytes

abbrev pub IsNumber : ℕ → Type 0
IsNumber n = n < 2 ^ 64

-- a key of at most 32 bytes; in version 1 one of eight
abbrev pub IsKey : Version → OrderedKey → Type 0
IsKey One key = IsByteList (bytes_of key) × (length (bytes_of key) ≡ 8)
IsKey _ key = IsByteList (bytes_of key) × (length (bytes_of key) ≤ max_key_bytes)

abbrev pub IsValue : List ℕ → Type 0
IsValue value = IsByteList value × (length value ≤ max_value_bytes)

abbrev pub IsRecord : Version → OrderedKey × List ℕ → Type 0
IsRecord v r = IsKey v r.0 × IsValue r.1

abbrev pub AreRecords : Version → Records → Type 0
AreRecords v rs = AllByRecursion (IsRecord v) rs

abbrev pub IsRange : Version → Interval → Type 0
IsRange v range = (IsKey v range.lo × IsKey v range.hi) × (key_le range.lo range.hi ≡ true)
